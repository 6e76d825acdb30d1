-- append_term: the new term is what its fields and lists stand for in the book received.
use Prim.Native.Nat.{ℕ, zero, suc, ◌+◌, ◌*◌, ◌^◌, ◌≤◌, ◌<◌}
use native.Mathlib.Omega.{arith}
use mathlib.Core.Path.{◌≡◌, refl, sym, ap, subst, ◌∙◌}
use mathlib.Core.List.{List, map}
use lib.ListN.{length, get_or, length-append}
use Rattle.book.specs.Book.{Book, names, types, constants, functions, patterns, terms, lists, size, field, user_types}
use Rattle.book.specs.Decode.{kind_of, to_rexprs, constant_of, literal_of, args_of, term_by, term_over, term}
use Rattle.book_test.specs.Promise.{Range, GoodPattern, GoodLiteral, GoodBuiltIn, GoodApplication, GoodIfThenElse, GoodLet, GoodQuantifier, GoodKind, GoodTerm}
use Rattle.book_test.proofs.Entries.{entries_each}
use Rattle.book_test.proofs.TermLaw.{term-over}
use Rattle.book_test.proofs.TermKinds.{each_kind}
use Rattle.book_layout.proofs.Stands.{Stands, stands_first, stands_second}
use Rattle.basics.proofs.All.{map_agree}
use Rattle.book_test.proofs.KeptRecords.{name_text_kept, type_of_kept, constant_of_kept, function_of_kept}
use Rattle.new_records.specs.Drafts.{NewTerm, Draft, new_term, range_start, term_row}
use Rattle.book_writer.specs.Growths.{append_term, entry_count, whole_entries, ranges_of, filled, term_lists, draft_of}
use Rattle.book_writer.proofs.Recorded.{whole_fours}
use Rattle.writer_bodies.specs.Records.{numbers, new_expr_by, new_expr, HandedTerm}
use Rattle.writer_bodies.proofs.Drafted.{book_with, Grew, NewRow, kept, old_term, new_promise, old_promise, types_new, functions_new, constants_new, term_field, term_below}
use Rattle.writer_bodies.proofs.NewTexts.{texts_new, range_low}
use Rattle.writer_bodies.proofs.NewLists.{lists_few, range_is, patterns_same, args_are}

-- ---- the term, kind by kind
abbrev term_draft : Book → NewTerm → (first second : List ℕ) → Draft
term_draft b t first second = draft_of b (append_term t first second)

abbrev term_book : Book → NewTerm → (first second : List ℕ) → Book
term_book b t first second = book_with b (term_draft b t first second)

abbrev field_of : Book → NewTerm → (first second : List ℕ) → ℕ → ℕ
field_of b t first second i = field (term_book b t first second) terms (size b terms) i

abbrev Makes : Book → NewTerm → (first second : List ℕ) → Type 0
Makes b t first second = Grew b (term_draft b t first second) → HandedTerm t → term (term_book b t first second) (size b terms) ≡ new_expr b t first second

-- a range's filling leaves the kind and the fields 1 and 6
module _ (behind : ℕ) (t : NewTerm) (first second : List ℕ) where
  filled_kind : (ranges : ℕ) → (filled ranges behind t first second).kind ≡ t.kind
  unfolding filled
  filled_kind zero = refl
  filled_kind (suc zero) = refl
  filled_kind (suc (suc n)) = refl

  filled_1 : (ranges : ℕ) → (filled ranges behind t first second).field1 ≡ t.field1
  unfolding filled
  filled_1 zero = refl
  filled_1 (suc zero) = refl
  filled_1 (suc (suc n)) = refl

  filled_6 : (ranges : ℕ) → (filled ranges behind t first second).field6 ≡ t.field6
  unfolding filled
  filled_6 zero = refl
  filled_6 (suc zero) = refl
  filled_6 (suc (suc n)) = refl

-- what the record of the new term holds
module _ (b : Book) (t : NewTerm) (first second : List ℕ) (G : Grew b (term_draft b t first second)) (h : HandedTerm t) where
  new_row : NewRow b terms (map term_row (term_draft b t first second).terms) (size b terms) (term_row (filled (ranges_of t.kind) (size b lists) t first second))
  unfolding draft_of
  new_row = record { k = 0; here = omega arith; place = omega arith; is = refl }

  holds : (i : ℕ) → i < 7 → get_or (term_row (filled (ranges_of t.kind) (size b lists) t first second)) i 0 < 2 ^ 32
      → field_of b t first second i ≡ get_or (term_row (filled (ranges_of t.kind) (size b lists) t first second)) i 0
  holds = term_field b (term_draft b t first second) G new_row

  has_kind : field_of b t first second 0 ≡ t.kind
  unfolding term_row
  has_kind = let e = filled_kind (size b lists) t first second (ranges_of t.kind) in holds 0 (omega arith) (omega (arith, h.0)) ∙ e

  has_1 : field_of b t first second 1 ≡ t.field1
  unfolding term_row
  has_1 = let e = filled_1 (size b lists) t first second (ranges_of t.kind) in holds 1 (omega arith) (omega (arith, h.1)) ∙ e

  has_6 : field_of b t first second 6 ≡ t.field6
  unfolding term_row
  has_6 = let e = filled_6 (size b lists) t first second (ranges_of t.kind) in holds 6 (omega arith) (omega (arith, h.6)) ∙ e

  new_good : GoodTerm (term_book b t first second) (size b terms)
  new_good = (new_promise b (term_draft b t first second) G).term (size b terms) (term_below b (term_draft b t first second) G new_row)

  kind_known : t.kind < 9
  kind_known = omega (arith, new_good.known, has_kind)

  good : GoodKind (kind_of t.kind) (term_book b t first second) (size b terms)
  good = rw has_kind at new_good.fields

  is_over : term (term_book b t first second) (size b terms) ≡ term_by (term_book b t first second) (kind_of t.kind) (term (term_book b t first second)) (size b terms)
  unfolding term_over
  is_over =
      term-over (term_book b t first second) (new_promise b (term_draft b t first second) G) (size b terms) (term_below b (term_draft b t first second) G new_row) ∙ rw has_kind

  -- the arguments of a kind with one range
  args_held : ranges_of t.kind ≡ 1 → Range (term_book b t first second) (size b terms) (field_of b t first second 2) (field_of b t first second 3)
      → args_of (term_book b t first second) (term (term_book b t first second)) (field_of b t first second 2) (field_of b t first second 3) ≡ to_rexprs (term b) (numbers first)
  unfolding draft_of filled term_lists term_row
  args_held e r =
      let d = term_draft b t first second in
      let i = entry_count first in
      let all : d.lists ≡ whole_entries first = ap (λ (n : ℕ). term_lists n first second) e in
      let few : size b lists + i ≤ 2048 = omega (arith, lists_few b d G, ap length all, whole_fours first) in
      let r2 : (filled (ranges_of t.kind) (size b lists) t first second).field2 ≡ range_start (size b lists) i = ap (λ (n : ℕ). (filled n (size b lists) t first second).field2) e in
      let r3 : (filled (ranges_of t.kind) (size b lists) t first second).field3 ≡ i = ap (λ (n : ℕ). (filled n (size b lists) t first second).field3) e in
      args_are b d G (field_of b t first second 2) (field_of b t first second 3) first all r
      (holds 2 (omega arith) (omega (arith, range_low (size b lists) i)) ∙ r2) (holds 3 (omega arith) (omega arith) ∙ r3)

module _ (b : Book) (first second : List ℕ) (f1 f2 f3 f4 f5 f6 : ℕ) where
  -- the kinds without lists
  boolean_made : Makes b (new_term 0 f1 f2 f3 f4 f5 f6) first second
  unfolding draft_of term_by kind_of new_expr new_expr_by
  boolean_made G h =
      let t = new_term 0 f1 f2 f3 f4 f5 f6 in
      let e1 = has_1 b t first second G h in
      is_over b t first second G h ∙ rw e1

  integer_made : Makes b (new_term 1 f1 f2 f3 f4 f5 f6) first second
  unfolding draft_of ranges_of filled term_row term_by kind_of new_expr new_expr_by
  integer_made G h =
      let t = new_term 1 f1 f2 f3 f4 f5 f6 in
      let e1 = has_1 b t first second G h in
      let e2 : field_of b t first second 2 ≡ f2 = holds b t first second G h 2 (omega arith) h.2 in
      is_over b t first second G h ∙ rw (e1, e2)

  literal_made : Makes b (new_term 2 f1 f2 f3 f4 f5 f6) first second
  unfolding draft_of ranges_of filled term_row term_by kind_of GoodKind new_expr new_expr_by literal_of
  literal_made G h =
      let t = new_term 2 f1 f2 f3 f4 f5 f6 in
      let d = term_draft b t first second in
      let c = term_book b t first second in
      let e1 = has_1 b t first second G h in
      let e2 : field_of b t first second 2 ≡ f2 = holds b t first second G h 2 (omega arith) h.2 in
      let g : GoodLiteral c (size b terms) = good b t first second G h in
      let name : f1 < size b names = omega (arith, texts_new b d G, g.name) in
      let typ : f2 < user_types + size b types = omega (arith, types_new b d G, g.typ) in
      is_over b t first second G h ∙ rw (e1, e2, name_text_kept b c (old_promise b d G) (kept b d G) f1 name, type_of_kept b c (old_promise b d G) (kept b d G) f2 typ)

  id_made : Makes b (new_term 3 f1 f2 f3 f4 f5 f6) first second
  unfolding draft_of term_by kind_of GoodKind new_expr new_expr_by
  id_made G h =
      let t = new_term 3 f1 f2 f3 f4 f5 f6 in
      let d = term_draft b t first second in
      let c = term_book b t first second in
      let e1 = has_1 b t first second G h in
      let g : field_of b t first second 1 < size c constants = good b t first second G h in
      let v : f1 < size b constants = omega (arith, constants_new b d G) in
      is_over b t first second G h ∙ rw (e1, constant_of_kept b c (old_promise b d G) (kept b d G) f1 v)

  if_then_else_made : Makes b (new_term 6 f1 f2 f3 f4 f5 f6) first second
  unfolding draft_of ranges_of filled term_row term_by kind_of GoodKind new_expr new_expr_by
  if_then_else_made G h =
      let t = new_term 6 f1 f2 f3 f4 f5 f6 in
      let d = term_draft b t first second in
      let c = term_book b t first second in
      let e1 = has_1 b t first second G h in
      let e2 : field_of b t first second 2 ≡ f2 = holds b t first second G h 2 (omega arith) h.2 in
      let e3 : field_of b t first second 3 ≡ f3 = holds b t first second G h 3 (omega arith) h.3 in
      let g : GoodIfThenElse c (size b terms) = good b t first second G h in
      let t1 = old_term b d G f1 (omega (arith, g.guard)) in
      let t2 = old_term b d G f2 (omega (arith, g.thn)) in
      let t3 = old_term b d G f3 (omega (arith, g.els)) in
      is_over b t first second G h ∙ rw (e1, e2, e3, t1, t2, t3)

  let_made : Makes b (new_term 7 f1 f2 f3 f4 f5 f6) first second
  unfolding draft_of ranges_of filled term_row term_by kind_of GoodKind new_expr new_expr_by
  let_made G h =
      let t = new_term 7 f1 f2 f3 f4 f5 f6 in
      let d = term_draft b t first second in
      let c = term_book b t first second in
      let e1 = has_1 b t first second G h in
      let e2 : field_of b t first second 2 ≡ f2 = holds b t first second G h 2 (omega arith) h.2 in
      let e3 : field_of b t first second 3 ≡ f3 = holds b t first second G h 3 (omega arith) h.3 in
      let g : GoodLet c (size b terms) = good b t first second G h in
      let v : f1 < size b constants = omega (arith, constants_new b d G, g.v) in
      let t2 = old_term b d G f2 (omega (arith, g.rhs)) in
      let t3 = old_term b d G f3 (omega (arith, g.body)) in
      is_over b t first second G h ∙ rw (e1, e2, e3, constant_of_kept b c (old_promise b d G) (kept b d G) f1 v, t2, t3)

  -- the kinds with arguments
  built_in_made : Makes b (new_term 4 f1 f2 f3 f4 f5 f6) first second
  unfolding draft_of term_by kind_of GoodKind new_expr new_expr_by ranges_of
  built_in_made G h =
      let t = new_term 4 f1 f2 f3 f4 f5 f6 in
      let d = term_draft b t first second in
      let c = term_book b t first second in
      let e1 = has_1 b t first second G h in
      let g : GoodBuiltIn c (size b terms) = good b t first second G h in
      let name : f1 < size b names = omega (arith, texts_new b d G, g.name) in
      is_over b t first second G h ∙ rw (args_held b t first second G h refl g.args, e1, name_text_kept b c (old_promise b d G) (kept b d G) f1 name)

  application_made : Makes b (new_term 5 f1 f2 f3 f4 f5 f6) first second
  unfolding draft_of term_by kind_of GoodKind new_expr new_expr_by ranges_of
  application_made G h =
      let t = new_term 5 f1 f2 f3 f4 f5 f6 in
      let d = term_draft b t first second in
      let c = term_book b t first second in
      let e1 = has_1 b t first second G h in
      let g : GoodApplication c (size b terms) = good b t first second G h in
      let fn : f1 < size b functions = omega (arith, functions_new b d G, g.function) in
      is_over b t first second G h ∙ rw (args_held b t first second G h refl g.args, e1, function_of_kept b c (old_promise b d G) (kept b d G) f1 fn)

  quantifier_made : Makes b (new_term 8 f1 f2 f3 f4 f5 f6) first second
  unfolding draft_of ranges_of filled term_lists term_row term_by kind_of GoodKind new_expr new_expr_by
  quantifier_made G h =
      let t = new_term 8 f1 f2 f3 f4 f5 f6 in
      let d = term_draft b t first second in
      let c = term_book b t first second in
      let F = field_of b t first second in
      let i = entry_count first in
      let j = entry_count second in
      let l : length d.lists ≡ 4 * i + 4 * j = length-append (whole_entries first) (whole_entries second) ∙ omega (arith, whole_fours first, whole_fours second) in
      let e2 : F 2 ≡ range_start (size b lists) i = holds b t first second G h 2 (omega arith) (omega (arith, lists_few b d G, range_low (size b lists) i)) in
      let e3 : F 3 ≡ i = holds b t first second G h 3 (omega arith) (omega (arith, lists_few b d G)) in
      let e4 : F 4 ≡ range_start (size b lists + i) j = holds b t first second G h 4 (omega arith) (omega (arith, lists_few b d G, range_low (size b lists + i) j)) in
      let e5 : F 5 ≡ j = holds b t first second G h 5 (omega arith) (omega (arith, lists_few b d G)) in
      let g : GoodQuantifier c (size b terms) = good b t first second G h in
      let S : Stands d.lists (4 * i) (whole_entries second) = rw (whole_fours first) at (stands_second (whole_entries first) (whole_entries second)) in
      let vars = entries_each c (λ k. k < size b constants) (F 2) (F 3) (λ n k. omega (arith, constants_new b d G, g.vars.below n k)) in
      let vs = map_agree (λ k. k < size b constants) (constant_of c) (constant_of b) (constant_of_kept b c (old_promise b d G) (kept b d G)) vars in
      let ps = patterns_same b d G (entries_each c (GoodPattern c (size b terms)) (F 4) (F 5) g.patterns.each) in
      let first-are = range_is b d G 0 (size b lists) (F 2) (F 3) first (stands_first (whole_entries first) (whole_entries second)) (omega arith) e2 e3 in
      let second-are = range_is b d G i (size b lists + i) (F 4) (F 5) second S refl e4 e5 in
      is_over b t first second G h
      ∙ rw (vs, ps, first-are, second-are, has_1 b t first second G h, has_6 b t first second G h, old_term b d G f6 (omega (arith, g.body, has_6 b t first second G h)))

pub term_made : (b : Book) (t : NewTerm) (first second : List ℕ) → Makes b t first second
term_made b t first second G h =
    each_kind t.kind (kind_known b t first second G h) (by (boolean_made b first second _ _ _ _ _ _)) (by (integer_made b first second _ _ _ _ _ _))
    (by (literal_made b first second _ _ _ _ _ _)) (by (id_made b first second _ _ _ _ _ _)) (by (built_in_made b first second _ _ _ _ _ _))
    (by (application_made b first second _ _ _ _ _ _)) (by (if_then_else_made b first second _ _ _ _ _ _)) (by (let_made b first second _ _ _ _ _ _))
    (by (quantifier_made b first second _ _ _ _ _ _)) G h
  where
    by : {k : ℕ} → Makes b (new_term k t.field1 t.field2 t.field3 t.field4 t.field5 t.field6) first second → t.kind ≡ k → Makes b t first second
    by m e = subst (λ (k : ℕ). Makes b (new_term k t.field1 t.field2 t.field3 t.field4 t.field5 t.field6) first second) (sym e) m
