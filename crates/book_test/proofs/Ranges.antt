-- From refusal 4: what each record's test tells of its fields.
use Prim.Native.Nat.{ℕ, ◌+◌, ◌≤◌, ◌<◌}
use mathlib.Core.Path.{◌≡◌}
use mathlib.Core.Bool.{true, ◌||◌}
use lib.Dec.{eqb, leb, ltb}
use borrow.Author.Tests.{ltb-true, leb-true, ne_eqb}
use Rattle.basics.specs.Lists.{all_below}
use Rattle.basics.proofs.Bool.{and_both, or_second}
use Rattle.basics.proofs.Counting.{below_each}
use Rattle.book.specs.Book.{Book, Section, letters, names, types, constants, functions, axioms, patterns, terms, contexts, lists, size, field, letter, no_term}
use Rattle.book.specs.Decode.{custom_literal}
use Rattle.book_fields.specs.Fields.{within, type_limit, entry_below, is_range, letter_in_range, name_in_range, type_in_range, constant_in_range, function_in_range, axiom_in_range, pattern_in_range, context_in_range, fields_in_range}
use Rattle.book_terms.specs.Terms.{kind_in_range, term_in_range, terms_in_range}
use Rattle.book_test.specs.BookTest.{in_range}
use Rattle.book_test.specs.Promise.{Range, GoodName, GoodConstant, GoodFunction, GoodAxiom, GoodContext, GoodPattern, GoodLiteral}

module _ (b : Book) where
  pub record Tests : Type 0 where
    pub letter : (i : ℕ) → i < size b letters → letter_in_range b i ≡ true
    pub name : (n : ℕ) → n < size b names → name_in_range b n ≡ true
    pub typ : (k : ℕ) → k < size b types → type_in_range b k ≡ true
    pub constant : (k : ℕ) → k < size b constants → constant_in_range b k ≡ true
    pub function : (k : ℕ) → k < size b functions → function_in_range b k ≡ true
    pub axiom' : (k : ℕ) → k < size b axioms → axiom_in_range b k ≡ true
    pub pattern : (p : ℕ) → p < size b patterns → pattern_in_range b p ≡ true
    pub context : (k : ℕ) → k < size b contexts → context_in_range b k ≡ true
    pub term : (t : ℕ) → t < size b terms → term_in_range b t ≡ true

  pub tests : in_range b ≡ true → Tests
  unfolding in_range fields_in_range terms_in_range
  tests h =
      let r8 = and_both _ _ h in
      let r7 = and_both _ _ r8.0 in
      let r6 = and_both _ _ r7.0 in
      let r5 = and_both _ _ r6.0 in
      let r4 = and_both _ _ r5.0 in
      let r3 = and_both _ _ r4.0 in
      let r2 = and_both _ _ r3.0 in
      let r1 = and_both _ _ r2.0 in
      record {
        letter = below_each _ _ r1.0;
        name = below_each _ _ r1.1;
        typ = below_each _ _ r2.1;
        constant = below_each _ _ r3.1;
        function = below_each _ _ r4.1;
        axiom' = below_each _ _ r5.1;
        pattern = below_each _ _ r6.1;
        context = below_each _ _ r7.1;
        term = below_each _ _ r8.1;
      }

  pub in_section : (s : Section) (n : ℕ) → within b s n ≡ true → n < size b s
  unfolding within
  in_section s n h = ltb-true n (size b s) h

  pub range : (limit start count : ℕ) → is_range b limit start count ≡ true → Range b limit start count
  unfolding is_range entry_below
  range limit start count h =
      let r = and_both (leb (start + count) (size b lists)) (all_below count (entry_below b limit start)) h in
      record {
        ends = leb-true (start + count) (size b lists) r.0;
        below = λ i l. ltb-true (field b lists (start + i) 0) limit (below_each count (entry_below b limit start) r.1 i l);
      }

  pub letter_range : (i : ℕ) → letter_in_range b i ≡ true → (0x20 ≤ letter b i) × (letter b i ≤ 0x7E)
  unfolding letter_in_range
  letter_range i h = let r = and_both (leb 0x20 (letter b i)) (leb (letter b i) 0x7E) h in (leb-true 0x20 (letter b i) r.0, leb-true (letter b i) 0x7E r.1)

  pub name_good : (n : ℕ) → name_in_range b n ≡ true → GoodName b n
  unfolding name_in_range
  name_good n h = record { ends = leb-true (field b names n 0 + field b names n 1) (size b letters) h }

  pub type_good : (k : ℕ) → type_in_range b k ≡ true → field b types k 0 < size b names
  unfolding type_in_range
  type_good k h = in_section names (field b types k 0) h

  pub constant_good : (k : ℕ) → constant_in_range b k ≡ true → GoodConstant b k
  unfolding constant_in_range type_limit
  constant_good k h =
      let r = and_both (within b names (field b constants k 0)) (ltb (field b constants k 1) (type_limit b)) h in
      record { name = in_section names (field b constants k 0) r.0; typ = ltb-true (field b constants k 1) (type_limit b) r.1 }

  pub function_good : (k : ℕ) → function_in_range b k ≡ true → GoodFunction b k
  unfolding function_in_range type_limit
  function_good k h =
      let r3 = and_both _ _ h in
      let r2 = and_both _ _ r3.0 in
      let r1 = and_both _ _ r2.0 in
      record {
        name = in_section names (field b functions k 0) r1.0;
        typ = ltb-true (field b functions k 1) (type_limit b) r1.1;
        input_types = range (type_limit b) (field b functions k 2) (field b functions k 3) r2.1;
        explained_by = range (size b axioms) (field b functions k 4) (field b functions k 5) r3.1;
      }

  pub axiom_good : (k : ℕ) → axiom_in_range b k ≡ true → GoodAxiom b k
  unfolding axiom_in_range
  axiom_good k h =
      let none = eqb (field b axioms k 0) no_term in
      let r = and_both (none || within b terms (field b axioms k 0)) (is_range b (size b functions) (field b axioms k 1) (field b axioms k 2)) h in
      record {
        term = λ n. in_section terms (field b axioms k 0) (or_second none (within b terms (field b axioms k 0)) r.0 (ne_eqb (field b axioms k 0) no_term n));
        explains = range (size b functions) (field b axioms k 1) (field b axioms k 2) r.1;
      }

  pub pattern_good : (p : ℕ) → p < size b patterns → pattern_in_range b p ≡ true → GoodPattern b (size b terms) p
  unfolding pattern_in_range
  pattern_good p l h = record { here = l; range = range (size b terms) (field b patterns p 0) (field b patterns p 1) h }

  pub literal_range : (t : ℕ) → kind_in_range b custom_literal t ≡ true → GoodLiteral b t
  unfolding kind_in_range type_limit
  literal_range t h =
      let r2 = and_both _ _ h in
      let r1 = and_both _ _ r2.0 in
      record { name = in_section names (field b terms t 1) r1.0; typ = ltb-true (field b terms t 2) (type_limit b) r1.1 }

  pub context_good : (k : ℕ) → context_in_range b k ≡ true → GoodContext b k
  unfolding context_in_range
  context_good k h =
      let r2 = and_both _ _ h in
      let r1 = and_both _ _ r2.0 in
      record {
        parent = leb-true (field b contexts k 0) k r1.0;
        term = in_section terms (field b contexts k 1) r1.1;
        trace = leb-true (field b contexts k 2) (size b names) r2.1;
      }
