-- The theorem: a book that the test accepts has the promise.
use Prim.Native.Nat.{ℕ, ◌+◌, ◌<◌}
use mathlib.Core.Path.{◌≡◌}
use mathlib.Core.Bool.{true}
use lib.Dec.{ltb}
use lib.ListN.{length}
use borrow.Author.Tests.{ltb-true}
use Rattle.basics.specs.Lists.{join_below}
use Rattle.basics.specs.Outcome.{accepted}
use Rattle.basics.proofs.Bool.{and_both}
use Rattle.basics.proofs.All.{All, all_split, all_head, all_tail}
use Rattle.book.specs.Book.{Book, names, types, constants, functions, patterns, terms, contexts, lists, size, field}
use Rattle.book.specs.Decode.{Kind, boolean, integer, custom_literal, id, built_in, application, if_then_else, let_expr, quantifier_expr, kinds, kind_of}
use Rattle.book_fields.specs.Fields.{within, is_range}
use Rattle.book_terms.specs.Terms.{uses, kind_in_range, term_in_range}
use Rattle.book_forest.specs.Forest.{range_references, pattern_references, listed_references, kind_references, term_references}
use Rattle.book_test.specs.BookTest.{book_test}
use Rattle.book_test.specs.Promise.{Range, GoodPattern, GoodPatterns, GoodKind, GoodTerm, GoodContext, Promise}
use Rattle.book_test.proofs.Outcomes.{test_passed}
use Rattle.book_test.proofs.Contents.{all_laid}
use Rattle.book_test.proofs.Symbols.{record_tested, literal_tested, each_tested}
use Rattle.book_test.proofs.Ranges.{tests, in_section, range, letter_range, name_good, type_good, constant_good, function_good, axiom_good, pattern_good, literal_range, context_good}
use Rattle.book_test.proofs.Forest.{Smaller, children_smaller, entry_smaller, listed_smaller}
use Rattle.book_test.proofs.Depth.{depth-most}

module _ (b : Book) (pattern : (p : ℕ) → p < size b patterns → GoodPattern b (size b terms) p) where
  -- what the forest tells of a range's entries is more than what their test tells
  args_good : (t start count : ℕ) → is_range b (size b terms) start count ≡ true → All Smaller (range_references b t start count) → Range b t start count
  args_good t start count h s = record { ends = (range b (size b terms) start count h).ends; below = entry_smaller b t start count s }

  patterns_good : (t start count : ℕ) → is_range b (size b patterns) start count ≡ true → All Smaller (join_below count (listed_references b t start)) → GoodPatterns b t start count
  unfolding pattern_references
  patterns_good t start count h s =
      let r = range b (size b patterns) start count h in
      record {
        ends = r.ends;
        each = λ i l.
            let p = field b lists (start + i) 0 in
            let g = pattern p (r.below i l) in
            let below = entry_smaller b t (field b patterns p 0) (field b patterns p 1) (listed_smaller b t start count s i l) in
            record { here = g.here; range = record { ends = g.range.ends; below = below } };
      }

  kind_good : (k : Kind) (t : ℕ) → kind_in_range b k t ≡ true → All Smaller (kind_references b k t) → GoodKind k b t
  unfolding kind_in_range kind_references GoodKind
  kind_good boolean t h s = ltb-true (field b terms t 1) 2 (and_both (ltb (field b terms t 1) 2) (uses b t 1) h).0
  kind_good integer t h s = tt
  kind_good custom_literal t h s = literal_range b t h
  kind_good id t h s = in_section b constants (field b terms t 1) (and_both _ _ h).0
  kind_good built_in t h s =
      let r2 = and_both _ _ h in
      let r1 = and_both _ _ r2.0 in
      record { name = in_section b names (field b terms t 1) r1.0; args = args_good t (field b terms t 2) (field b terms t 3) r1.1 s }
  kind_good application t h s =
      let r2 = and_both _ _ h in
      let r1 = and_both _ _ r2.0 in
      record { function = in_section b functions (field b terms t 1) r1.0; args = args_good t (field b terms t 2) (field b terms t 3) r1.1 s }
  kind_good if_then_else t h s = record { guard = all_head s; thn = all_head (all_tail s); els = all_head (all_tail (all_tail s)) }
  kind_good let_expr t h s =
      let r3 = and_both _ _ h in
      let r2 = and_both _ _ r3.0 in
      let r1 = and_both _ _ r2.0 in
      record { v = in_section b constants (field b terms t 1) r1.0; rhs = all_head s; body = all_head (all_tail s) }
  kind_good quantifier_expr t h s =
      let r3 = and_both _ (within b terms (field b terms t 6)) h in
      let r2 = and_both _ _ r3.0 in
      let r1 = and_both (ltb (field b terms t 1) 2) _ r2.0 in
      let refs = all_split _ _ s in
      record {
        vars = range b (size b constants) (field b terms t 2) (field b terms t 3) r1.1;
        patterns = patterns_good t (field b terms t 4) (field b terms t 5) r2.1 refs.0;
        body = all_head refs.1;
      }

  term_good : (t : ℕ) → term_in_range b t ≡ true → All Smaller (term_references b t) → GoodTerm b t
  unfolding term_in_range term_references
  term_good t h s =
      let r = and_both (ltb (field b terms t 0) (length kinds)) (kind_in_range b (kind_of (field b terms t 0)) t) h in
      record { known = ltb-true (field b terms t 0) (length kinds) r.0; fields = kind_good (kind_of (field b terms t 0)) t r.1 s }

pub promise : (b : Book) → book_test b ≡ accepted tt → Promise b
promise b accepts =
    let T = test_passed b accepts in
    let L = all_laid b T.laid T.counts in
    let R = tests b T.ranges in
    let N = each_tested b T.names in
    let patterns_are : (p : ℕ) → p < size b patterns → GoodPattern b (size b terms) p = λ p l. pattern_good b p l (R.pattern p l) in
    let contexts_are : (k : ℕ) → k < size b contexts → GoodContext b k = λ k l. context_good b k (R.context k l) in
    record {
      letters_laid = L.letters_laid;
      names_laid = L.names_laid;
      types_laid = L.types_laid;
      constants_laid = L.constants_laid;
      functions_laid = L.functions_laid;
      axioms_laid = L.axioms_laid;
      patterns_laid = L.patterns_laid;
      terms_laid = L.terms_laid;
      contexts_laid = L.contexts_laid;
      lists_laid = L.lists_laid;
      letter_low = λ i l. (letter_range b i (R.letter i l)).0;
      letter_high = λ i l. (letter_range b i (R.letter i l)).1;
      name = λ n l. name_good b n (R.name n l);
      type_name = λ k l. type_good b k (R.typ k l);
      constant = λ k l. constant_good b k (R.constant k l);
      function = λ k l. function_good b k (R.function k l);
      axiom' = λ k l. axiom_good b k (R.axiom' k l);
      pattern = patterns_are;
      term = λ t l. term_good b patterns_are t (R.term t l) (children_smaller b T.forest t l);
      context = contexts_are;
      shallow = depth-most b (λ k l. (contexts_are k l).parent) T.depth;
      type_named = record_tested b types N.0;
      constant_named = record_tested b constants N.1;
      function_named = record_tested b functions N.2;
      literal-named = literal_tested b N.3;
    }
