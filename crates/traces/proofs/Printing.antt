-- The lines of a path, from the root down.
use Prim.Native.Nat.{ℕ, ◌+◌, ◌-◌, ◌<◌, min}
use mathlib.Core.Path.{◌≡◌, sym, ap, ◌∙◌}
use mathlib.Core.List.{List, [], ◌∷◌, ◌++◌, append_assoc, append-nil}
use lib.ListN.{length, take, drop}
use Rattle.basics.specs.Write.{MOST, Wrote}
use Rattle.basics.proofs.Laws.{joined, wrote_none, wrote_then, wrote_as}
use Rattle.book.specs.Book.{Book}
use Rattle.book.specs.Program.{node_at}
use Rattle.book.specs.Decode.{program}
use Rattle.rsolver.specs.Trace.{trace_line, trace_of}

-- Of the path `whole` the nodes `rest` are left, and the lines of the others are written.
pub record Printing (b : Book) (whole : List ℕ) (o rest o1 : List ℕ) (written : ℕ) : Type 0 where
  pub done : List ℕ
  pub is : whole ≡ rest ++ done
  pub wrote : Wrote (trace_of (program b) done) o o1 written

pub printing_start : (b : Book) (whole o : List ℕ) {rest : List ℕ} → rest ≡ whole → Printing b whole o rest o 0
unfolding trace_of
printing_start b whole o e = record { done = []; is = sym (append-nil _ ∙ e); wrote = wrote_none o }

-- one turn: the line of the last node that is left is written behind the others
pub printing_more : {b : Book} {whole o rest o1 q : List ℕ} {written k r s : ℕ} (x : ℕ) → length o < MOST + 1 → Printing b whole o (rest ++ (x ∷ [])) o1 written
    → k ≡ min written (length o1) → Wrote (trace_line (node_at (program b) x).trace_string) (take (length o1 - k) (drop k o1)) q r
    → s ≡ min (written + r) MOST → Printing b whole o rest (joined k o1 q) s
unfolding trace_of
printing_more {rest = rest} x short w ek l es =
    record { done = x ∷ w.done; is = w.is ∙ append_assoc rest (x ∷ []) w.done; wrote = wrote_then short w.wrote ek l es }

pub printing_done : {b : Book} {whole o rest o1 : List ℕ} {written : ℕ} → rest ≡ [] → Printing b whole o rest o1 written → Wrote (trace_of (program b) whole) o o1 written
printing_done e w = wrote_as (ap (trace_of _) (sym (w.is ∙ ap (λ (l : List ℕ). l ++ w.done) e))) w.wrote
