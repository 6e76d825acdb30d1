-- The lines of a path, from the root down.
use Prim.Native.Nat.{ℕ, ◌+◌, ◌<◌}
use mathlib.Core.Path.{◌≡◌, sym, ap, ◌∙◌}
use mathlib.Core.List.{List, [], ◌∷◌, ◌++◌, append_assoc, append-nil}
use lib.ListN.{length}
use Rattle.basics.specs.Write.{MOST, WroteAt}
use Rattle.basics.proofs.Places.{at_none, at_then, at_as}
use Rattle.book.specs.Book.{Book}
use Rattle.book.specs.Program.{node_at}
use Rattle.book.specs.Decode.{program}
use Rattle.rsolver.specs.Listing.{listing_line, print_context}

-- Of the path `whole` the nodes `rest` are left, and the lines of the others are written.
pub record Printing (b : Book) (whole : List ℕ) (at : ℕ) (o rest o1 : List ℕ) (end : ℕ) : Type 0 where
  pub done : List ℕ
  pub is : whole ≡ rest ++ done
  pub wrote : WroteAt (print_context (program b) done) at o o1 end

pub printing_start : (b : Book) (whole : List ℕ) {at : ℕ} (o : List ℕ) {rest : List ℕ} → rest ≡ whole → at < MOST + 1 → Printing b whole at o rest o at
unfolding print_context
printing_start b whole {at} o e h = record { done = []; is = sym (append-nil _ ∙ e); wrote = at_none at o h }

-- one turn: the line of the last node that is left is written behind the others
pub printing_more : {b : Book} {whole : List ℕ} {at : ℕ} {o rest o1 o2 : List ℕ} {end r : ℕ} (x : ℕ) → length o < MOST + 1 → Printing b whole at o (rest ++ (x ∷ [])) o1 end
    → WroteAt (listing_line (node_at (program b) x).expr) end o1 o2 r → Printing b whole at o rest o2 r
unfolding print_context
printing_more {rest = rest} x short w l = record { done = x ∷ w.done; is = w.is ∙ append_assoc rest (x ∷ []) w.done; wrote = at_then short w.wrote l }

pub printing_done : {b : Book} {whole : List ℕ} {at : ℕ} {o rest o1 : List ℕ} {end : ℕ} → rest ≡ [] → Printing b whole at o rest o1 end → WroteAt (print_context (program b) whole) at o o1 end
printing_done e w = at_as (ap (print_context _) (sym (w.is ∙ ap (λ (l : List ℕ). l ++ w.done) e))) w.wrote
