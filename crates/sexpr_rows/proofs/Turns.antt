-- What stands at a place, from the part that stands there.
use Prim.Native.Nat.{ℕ, suc, ◌+◌, ◌≤◌, ◌<◌}
use native.Mathlib.Omega.{arith}
use native.Mathlib.Numerals.{add-one}
use mathlib.Core.Path.{◌≡◌, sym, ap, ◌∙◌, subst}
use mathlib.Core.Bool.{Bool, true, false}
use lib.Dec.{ltb}
use borrow.Author.Tests.{ltb-false}
use Rattle.basics.specs.Write.{MOST}
use Rattle.book.specs.Book.{Book, terms}
use Rattle.solver_expr.specs.SolverExpr.{SExpr, S, PP, ◌∷ˢ◌}
use Rattle.solver_expr.specs.Values.{row_of, meaning, Fine, Ready, Lowered}
use Rattle.solver_expr.specs.declared.SName.{SName}
use Rattle.solver_expr.specs.declared.SRow.{SRow}
use Rattle.solver_expr.specs.declared.SExpr as code
use Rattle.solver_expr.specs.declared.SExpr.TheVariants as value
use Rattle.sexpr_rows.specs.Rows.{atˢ, dropˢ, row_length, part_of, FinePart, ReadyRow, ReadyPlace, Element, turn_for, Turned}
use Rattle.sexpr_rows.specs.declared.Part.{Part}
use Rattle.sexpr_rows.specs.declared.Part.TheVariants as part
use Rattle.sexpr_rows.specs.declared.Turn.{Turn}
use Rattle.sexpr_rows.specs.declared.Turn.TheVariants as turn
use Rattle.sexpr_rows.proofs.Lists.{drop_at, drop_end, row-length}

-- the row, as a match tells it
module _ (b : Book) {p q : SRow} (e : p ≡ q) where
  pub place_as : {i : ℕ} → ReadyPlace b p i → ReadyPlace b q i
  place_as {i} r = subst (λ (x : SRow). ReadyPlace b x i) e r

  pub row_as : ReadyRow b p → ReadyRow b q
  row_as r = subst (ReadyRow b) e r

  pub element_as : {i : ℕ} {a : Part} → Element b q i a → Element b p i a
  element_as {i} {a} h = subst (λ (x : SRow). Element b x i a) (sym e) h

  pub length_as : {n : ℕ} → n ≡ row_length b q → n ≡ row_length b p
  length_as h = rw e h

-- the value e is part i of the row p
pub record Stands (b : Book) (p : SRow) (i : ℕ) (e : code.SExpr) : Type 0 where
  pub fine : Fine b e
  pub is : (tag : ℕ) → meaning b tag e ≡ atˢ (row_of b tag p) i

module _ {b : Book} {p : SRow} {i : ℕ} {a : Part} (el : Element b p i a) where
  pub known_stands : {e : code.SExpr} → a ≡ part.Known e → Stands b p i e
  unfolding part_of FinePart
  known_stands h = record { fine = subst (FinePart b) h el.fine; is = λ tag. ap (part_of b tag) (sym h) ∙ el.is tag }

  pub term_ready : {t : ℕ} → ReadyRow b p → a ≡ part.Term t → Ready b terms t
  unfolding FinePart
  term_ready r h = record { promise = r.promise; here = subst (FinePart b) h el.fine }

  pub term_stands : {t : ℕ} {e : code.SExpr} → a ≡ part.Term t → Lowered b t e → Stands b p i e
  unfolding part_of
  term_stands h l = record { fine = l.fine; is = λ tag. l.is tag ∙ ap (part_of b tag) (sym h) ∙ el.is tag }

pub place_ready : {b : Book} {p : SRow} {i n : ℕ} → ReadyRow b p → n ≡ row_length b p → i < n → ReadyPlace b p i
place_ready r e h = record { promise = r.promise; fine = r.fine; within = omega arith }

-- the turn of a part, as the code finds it
module _ {e : code.SExpr} (more : Bool) where
  pub for_name : {m : SName} → e ≡ value.S m → turn.Name m ≡ turn_for e more
  unfolding turn_for
  for_name h = rw h

  pub for_row : {q : SRow} → e ≡ value.PP q → more ≡ true → turn.Row q ≡ turn_for e more
  unfolding turn_for
  for_row h k = rw (h, k)

  pub for_last : {q : SRow} → e ≡ value.PP q → more ≡ false → turn.Last q ≡ turn_for e more
  unfolding turn_for
  for_last h k = rw (h, k)

-- turns
module _ (b : Book) (p : SRow) (i : ℕ) {n : ℕ} (len : n ≡ row_length b p) where
  pub turn_end : n ≤ i → Turned b p i turn.End
  unfolding Turned
  turn_end h = record { is = λ tag. drop_end (row_of b tag p) i (omega (arith, row-length b tag p)) }

  module _ {e : code.SExpr} (within : i < n) (st : Stands b p i e) where
    here : (tag : ℕ) → dropˢ i (row_of b tag p) ≡ meaning b tag e ∷ˢ dropˢ (suc i) (row_of b tag p)
    here tag = drop_at (row_of b tag p) i (omega (arith, row-length b tag p)) ∙ rw (← st.is tag)

  -- the turn says what is left of the row from part i on
  turned_by : (e : code.SExpr) (more : Bool) → i < n → n < MOST + 1 → more ≡ ltb (i + 1) n → Stands b p i e → Turned b p i (turn_for e more)
  unfolding Turned turn_for meaning Fine
  turned_by (value.S m) more within small h st = record { fine = st.fine; soon = omega arith; is = λ tag. rw add-one (here within st tag) }
  turned_by (value.PP q) true within small h st = record { fine = st.fine; soon = omega arith; is = λ tag. rw add-one (here within st tag) }
  turned_by (value.PP q) false within small h st =
      let l : n ≤ i + 1 = ltb-false (i + 1) n (sym h) in
      record {
        fine = st.fine;
        is = λ tag. rw (← drop_end (row_of b tag p) (suc i) (omega (arith, row-length b tag p))) (here within st tag);
      }

  pub turned : {e : code.SExpr} {more : Bool} {r : Turn} → i < n → n < MOST + 1 → more ≡ ltb (i + 1) n → Stands b p i e → r ≡ turn_for e more → Turned b p i r
  turned {e} {more} within small h st k = rw k (turned_by e more within small h st)
