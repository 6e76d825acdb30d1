-- What stands before each part of a row.
use Rattle.std.specs.Prelude.{if◌then◌else◌}
use Prim.Native.Nat.{ℕ, zero, suc, ◌+◌, ◌-◌, ◌≤◌, ◌<◌, min}
use native.Mathlib.Omega.{arith}
use mathlib.Core.Path.{◌≡◌, refl, sym, ap, ◌∙◌}
use mathlib.Core.List.{List, [], ◌∷◌, ◌++◌}
use mathlib.Core.Bool.{Bool, true, false, ◌&&◌}
use lib.Dec.{eqb}
use lib.ListN.{length, take, drop, replicate}
use borrow.Author.Tests.{eqb-true, eq-eqb}
use Rattle.basics.specs.Text.{Text, ascii, newline, space_byte}
use Rattle.basics.specs.Write.{MOST, Wrote, WroteRepeat}
use Rattle.basics.proofs.Bool.{and_both}
use Rattle.basics.proofs.Laws.{joined, wrote_then, wrote_none}
use Rattle.book.specs.Book.{Book}
use Rattle.solver_expr.specs.SolverExpr.{SExprPrintConfig, extra_indent, indent_step, space, name_to_string}
use Rattle.solver_expr.specs.Values.{text_of}
use Rattle.solver_expr.specs.declared.SName.{SName}
use Rattle.printer.specs.Printing.{Shows, WroteIn, layout_behind, Behind, lead, open_part, name_part}

pub space_lines : {newlines : Bool} {indent : ℕ} {o o1 p : List ℕ} {r1 k r2 r : ℕ} → newlines ≡ true → length o < MOST + 1
    → Wrote (newline ∷ []) o o1 r1 → k ≡ min r1 (length o1) → WroteRepeat space_byte indent (take (length o1 - k) (drop k o1)) p r2 → r ≡ min (r1 + r2) MOST
    → WroteIn newlines indent space o (joined k o1 p) r
unfolding space
space_lines {newlines} {indent} {o} {o1} {p} {r1} {k} {r2} {r} e short w1 ek w2 er = record { wrote = go }
  where
    go : (c : SExprPrintConfig) → Shows newlines indent c → Wrote (space c) o (joined k o1 p) r
    go c s = rw (s.lines ∙ e) (wrote_then short w1 ek (w2.text c.indent s.spaces) er)

pub space_flat : {newlines : Bool} {indent : ℕ} {o o1 : List ℕ} {r : ℕ} → newlines ≡ false → Wrote (ascii " ") o o1 r → WroteIn newlines indent space o o1 r
unfolding space
space_flat {newlines} {indent} {o} {o1} {r} e w = record { wrote = go }
  where
    go : (c : SExprPrintConfig) → Shows newlines indent c → Wrote (space c) o o1 r
    go c s = rw (s.lines ∙ e) w

-- the indent behind part i
pub behind_head : {i indent r : ℕ} {newlines : Bool} → (newlines && eqb i 0) ≡ true → r ≡ min (indent + indent_step) MOST → Behind i newlines indent r
unfolding layout_behind extra_indent
behind_head {i} {indent} {r} {newlines} h er =
    let e = and_both newlines (eqb i 0) h in
    let z : i ≡ 0 = eqb-true i 0 e.1 in
    rw z (record { shows = λ c s. rw (s.lines ∙ e.0) (record { lines = sym e.0; spaces = omega (arith, s.spaces, er) }) })

pub behind_other : (i : ℕ) {indent : ℕ} (newlines : Bool) → (newlines && eqb i 0) ≡ false → Behind i newlines indent indent
unfolding layout_behind extra_indent
behind_other zero true h = let z : ◌≡◌ {A = ℕ} 0 1 = cc in absurd (omega arith)
behind_other zero false h = record { shows = λ c s. rw s.lines (record { lines = refl; spaces = s.spaces }) }
behind_other (suc i) newlines h = record { shows = λ c s. s }

module _ {newlines : Bool} {indent : ℕ} {o : List ℕ} where
  pub lead_head : {i : ℕ} → i ≡ 0 → WroteIn newlines indent (lead i) o o 0
  unfolding lead
  lead_head e = rw e (record { wrote = λ c s. wrote_none o })

  pub lead_other : (i : ℕ) {o1 : List ℕ} {r : ℕ} → (i ≡ 0 → ⊥) → WroteIn newlines indent space o o1 r → WroteIn newlines indent (lead i) o o1 r
  unfolding lead
  lead_other zero n w = absurd (n refl)
  lead_other (suc i) n w = record { wrote = λ c s. w.wrote c s }

  module _ (i : ℕ) {o1 p : List ℕ} {r1 k r2 r : ℕ} (short : length o < MOST + 1) (w1 : WroteIn newlines indent (lead i) o o1 r1) (ek : k ≡ min r1 (length o1)) where
    pub name-part : (b : Book) (tag : ℕ) (n : SName) → Wrote (name_to_string (text_of b tag n)) (take (length o1 - k) (drop k o1)) p r2 → r ≡ min (r1 + r2) MOST
        → WroteIn newlines indent (name_part b tag n i) o (joined k o1 p) r
    unfolding name_part
    name-part b tag n w2 er = record { wrote = λ c s. wrote_then short (w1.wrote c s) ek w2 er }

    pub open-part : Wrote (ascii "(") (take (length o1 - k) (drop k o1)) p r2 → r ≡ min (r1 + r2) MOST → WroteIn newlines indent (open_part i) o (joined k o1 p) r
    unfolding open_part
    open-part w2 er = record { wrote = λ c s. wrote_then short (w1.wrote c s) ek w2 er }
