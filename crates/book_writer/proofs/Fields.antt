-- The small decisions of append_term and of the rows of a probe, as the code takes them.
use Rattle.std.specs.Prelude.{Some, None}
use Prim.Native.Nat.{ℕ, zero, suc, ◌+◌, ◌*◌, ◌/◌, ◌≤◌, ◌<◌}
use native.Mathlib.Omega.{arith}
use native.Mathlib.Numerals.{add-one}
use mathlib.Core.Path.{◌≡◌, refl, sym, ap, ◌∙◌}
use mathlib.Core.Option.{Option, none, some}
use mathlib.Core.Bool.{Bool, true, false, not}
use mathlib.Core.List.{List, [], ◌∷◌, ◌++◌, map, append-nil}
use lib.Dec.{eqb, leb}
use lib.ListN.{length, take}
use borrow.Author.Tests.{eq-eqb, ne_eqb, not-true, not-false}
use Rattle.basics.specs.Bytes.{bytes4, row, rows}
use Rattle.basics.specs.Write.{MOST, WroteAt}
use Rattle.basics.proofs.Places.{at_then, at_as, at_none, at_taken, at_length}
use Rattle.book.specs.Book.{Book, constants, terms, lists, size}
use Rattle.name_search.specs.Names.{maybe}
use Rattle.new_records.specs.declared.naming.ProbeNames.{ProbeNames}
use Rattle.new_records.specs.Drafts.{NewTerm, true_term, identifier, equality, range_start, constant_row, term_row, node_row}
use Rattle.book_writer.specs.Growths.{ranges_of, filled, entry_count, is_whole, range_right, term_right, equality_terms, probe_terms, probe_lists, probe_equality}
use Rattle.book_writer.specs.Coded.{IsTermRow, IsEquality, listed_bytes, true_if, AreRows}
use Rattle.book_writer.specs.declared.probe_rows.ProbeRows.{ProbeRows}

-- ---- kinds and lists
pub ranges_other : (k : ℕ) → ¬ (k ≡ 4) → ¬ (k ≡ 5) → ¬ (k ≡ 8) → 0 ≡ ranges_of k
unfolding ranges_of
ranges_other zero a b c = refl
ranges_other (suc zero) a b c = refl
ranges_other (suc (suc zero)) a b c = refl
ranges_other (suc (suc (suc zero))) a b c = refl
ranges_other (suc (suc (suc (suc zero)))) a b c = absurd (a refl)
ranges_other (suc (suc (suc (suc (suc zero))))) a b c = absurd (b refl)
ranges_other (suc (suc (suc (suc (suc (suc zero)))))) a b c = refl
ranges_other (suc (suc (suc (suc (suc (suc (suc zero))))))) a b c = refl
ranges_other (suc (suc (suc (suc (suc (suc (suc (suc zero)))))))) a b c = absurd (c refl)
ranges_other (suc (suc (suc (suc (suc (suc (suc (suc (suc k))))))))) a b c = refl

pub listed_none : (x : Bool) (n : ℕ) → not x ≡ true → 0 ≡ listed_bytes x n
unfolding listed_bytes
listed_none x n h = rw (not-true x h)

pub listed_some : (x : Bool) (n : ℕ) → not x ≡ false → 4 * (n / 4) ≡ listed_bytes x n
unfolding listed_bytes
listed_some x n h = rw (not-false x h)

pub listed_within : (x : Bool) (n : ℕ) {r : ℕ} → r ≡ listed_bytes x n → r ≤ n
unfolding listed_bytes
listed_within true n e = omega arith
listed_within false n e = omega arith

module _ (x : Bool) (s c : ℕ) (xs : List ℕ) where
  pub right_none : not x ≡ true → eqb (length xs) 0 ≡ range_right x s c xs
  unfolding range_right
  right_none h = rw (not-true x h)

  pub right_start : not x ≡ false → ¬ (s ≡ 0) → false ≡ range_right x s c xs
  unfolding range_right
  right_start h k = rw (not-false x h, ne_eqb s 0 k)

  pub right_count : not x ≡ false → s ≡ 0 → ¬ (c ≡ 0) → false ≡ range_right x s c xs
  unfolding range_right
  right_count h e k = rw (not-false x h, eq-eqb s 0 e, ne_eqb c 0 k)

  pub right_whole : not x ≡ false → s ≡ 0 → c ≡ 0 → eqb (length xs) (4 * (length xs / 4)) ≡ range_right x s c xs
  unfolding range_right is_whole entry_count
  right_whole h e f = rw (not-false x h, eq-eqb s 0 e, eq-eqb c 0 f)

module _ (ranges : ℕ) (t : NewTerm) (xs ys : List ℕ) {r : Bool} (told : r ≡ range_right (leb 1 ranges) t.field2 t.field3 xs) where
  pub first_wrong : not r ≡ true → false ≡ term_right ranges t xs ys
  unfolding term_right
  first_wrong h = rw (sym told ∙ not-true r h)

  pub second_decides : {q : Bool} → not r ≡ false → q ≡ range_right (leb 2 ranges) t.field4 t.field5 ys → q ≡ term_right ranges t xs ys
  unfolding term_right
  second_decides h e = rw (sym told ∙ not-false r h) e

-- ---- a term's row
module _ (behind : ℕ) (t : NewTerm) (first second : ℕ) {r : List ℕ} where
  pub row_none : (ranges : ℕ) → ranges ≡ 0 → r ≡ row (term_row t) → IsTermRow ranges behind t first second r
  row_none ranges z e = record { is = λ xs ys a b. unfold filled in rw z e }

  pub row_one : (ranges : ℕ) {start : ℕ} → ranges ≡ 1 → start ≡ range_start behind first
      → r ≡ row (t.kind ∷ t.field1 ∷ start ∷ first ∷ t.field4 ∷ t.field5 ∷ t.field6 ∷ []) → IsTermRow ranges behind t first second r
  row_one ranges z s e = record { is = λ xs ys a b. unfold filled term_row in rw (z, a, ← s) e }

  pub row_two : (ranges : ℕ) {start next : ℕ} → ¬ (ranges ≡ 0) → ¬ (ranges ≡ 1) → start ≡ range_start behind first → next ≡ range_start (behind + first) second
      → r ≡ row (t.kind ∷ t.field1 ∷ start ∷ first ∷ next ∷ second ∷ t.field6 ∷ []) → IsTermRow ranges behind t first second r
  row_two zero n o s u e = absurd (n refl)
  row_two (suc zero) n o s u e = absurd (o refl)
  row_two (suc (suc ranges)) n o s u e = record { is = λ xs ys a b. unfold filled term_row in rw (a, b, ← s, ← u) e }

-- ---- the rows of a probe
pub true_none : (o : List ℕ) (t : ℕ) → WroteAt (true_if (maybe (Some t))) 0 o o 0
unfolding true_if maybe
true_none o t = at_none 0 o (omega arith)

pub true_some : {x o o1 : List ℕ} {r : ℕ} → x ≡ row (0 ∷ 1 ∷ 0 ∷ 0 ∷ 0 ∷ 0 ∷ 0 ∷ []) → WroteAt x 0 o o1 r → WroteAt (true_if (maybe None)) 0 o o1 r
unfolding true_if maybe term_row true_term
true_some e w = rw e at w

pub entries_point : (b : Book) {m : ℕ} {r : List ℕ} → m ≡ size b terms → r ≡ row ((m + 1) ∷ m ∷ []) → r ≡ probe_lists b (maybe None)
unfolding probe_lists maybe
entries_point b {m} em e = rw (← em) (e ∙ ap (λ (z : ℕ). row (z ∷ m ∷ [])) (add-one m))

pub entries_term : (b : Book) (t : ℕ) {m : ℕ} {r : List ℕ} → m ≡ size b terms → r ≡ row (m ∷ t ∷ []) → r ≡ probe_lists b (maybe (Some t))
unfolding probe_lists maybe
entries_term b t em e = rw (← em) e

pub equality_point : (b : Book) {m : ℕ} → m ≡ size b terms → m ≤ 1024 → IsEquality b (maybe None) (m + 2)
unfolding probe_equality maybe
equality_point b em l = record { is = omega arith; low = omega arith }

pub equality_term : (b : Book) (t : ℕ) {m : ℕ} → m ≡ size b terms → m ≤ 1024 → IsEquality b (maybe (Some t)) (m + 1)
unfolding probe_equality maybe
equality_term b t em l = record { is = omega arith; low = omega arith }

-- the terms in two parts
terms_are : (b : Book) (o : Option ℕ) (operator : ℕ) → true_if o ++ rows (map term_row (equality_terms b (size b constants) operator)) ≡ rows (map term_row (probe_terms b operator o))
unfolding true_if probe_terms rows
terms_are b none operator = refl
terms_are b (some t) operator = refl

terms-length : (b : Book) (o : Option ℕ) (operator : ℕ) → length (rows (map term_row (probe_terms b operator o))) ≤ 84
unfolding probe_terms equality_terms rows row term_row bytes4 true_term identifier equality
terms-length b none operator = omega arith
terms-length b (some t) operator = omega arith

pub terms_done : (b : Book) (t : Option ℕ) (operator : ℕ) {c l r1 r : ℕ} {x o o1 o2 : List ℕ} → c ≡ size b constants → l ≡ size b lists
    → x ≡ rows (map term_row (identifier c ∷ equality operator l ∷ [])) → length o ≡ 84 → WroteAt (true_if t) 0 o o1 r1 → WroteAt x r1 o1 o2 r
    → take r o2 ≡ rows (map term_row (probe_terms b operator t))
terms_done b t operator {c} {l} {r1} {r} {x} {o} ec el ex long w1 w2 =
    let all = rows (map term_row (probe_terms b operator t)) in
    let is : x ≡ rows (map term_row (equality_terms b (size b constants) operator)) = unfold equality_terms in rw (← ec, ← el) ex in
    let short : length o < MOST + 1 = omega arith in
    let w : WroteAt all 0 o _ r = at_as (terms_are b t operator) (at_then short w1 (at_as is w2)) in
    let few = terms-length b t operator in
    at_taken w (omega arith) (omega (arith, w.counted))

pub rows_done : (b : Book) (names : ProbeNames) (parent typ : ℕ) (t : Option ℕ) {R : ProbeRows} {q : ℕ} → R.constant ≡ row (names.probe.number ∷ typ ∷ [])
    → R.terms.items ≡ rows (map term_row (probe_terms b names.equals.number t)) → q ≡ probe_equality b t → R.node ≡ row (parent ∷ q ∷ (names.trace.number + 1) ∷ [])
    → R.entries ≡ probe_lists b t → AreRows b names parent typ t R
rows_done b names parent typ t {q = q} ex a eq en ee =
    let trace = names.trace.number in
    record {
      constant = unfold constant_row rows in (ex ∙ sym (append-nil (row (names.probe.number ∷ typ ∷ []))));
      terms = a;
      node =
          unfold node_row rows in
          (en ∙ ap (λ (z : ℕ). row (parent ∷ z ∷ (trace + 1) ∷ [])) eq ∙ ap (λ (z : ℕ). row (parent ∷ probe_equality b t ∷ z ∷ [])) (add-one trace)
          ∙ sym (append-nil (row (parent ∷ probe_equality b t ∷ suc trace ∷ []))));
      entries = ee;
    }
