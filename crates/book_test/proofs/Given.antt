-- What refusal 4 gives to the tests for 5, 6 and 28.
use Prim.Native.Nat.{ℕ}
use mathlib.Core.Path.{◌≡◌}
use mathlib.Core.Bool.{true, ◌&&◌}
use lib.Dec.{ltb}
use lib.ListN.{length}
use Rattle.basics.proofs.Bool.{and_both}
use Rattle.book.specs.Book.{Book, names, constants, functions, patterns, terms, size, field}
use Rattle.book.specs.Decode.{built_in, application, quantifier_expr, kinds, kind_of}
use Rattle.book_fields.specs.Fields.{within, is_range}
use Rattle.book_terms.specs.Terms.{uses, kind_in_range, term_in_range}
use Rattle.book_forest.specs.Followed.{Followed}
use Rattle.book_depth.specs.Rooted.{Rooted}
use Rattle.book_names.specs.Spelled.{Spelled}
use Rattle.book_test.specs.BookTest.{in_range}
use Rattle.book_test.specs.Promise.{GoodLiteral}
use Rattle.book_test.proofs.Ranges.{tests, literal_range, range, name_good, type_good, constant_good, function_good, pattern_good, context_good}

module _ (b : Book) where
  by_kind : (t k : ℕ) → term_in_range b t ≡ true → field b terms t 0 ≡ k → kind_in_range b (kind_of k) t ≡ true
  unfolding term_in_range
  by_kind t k h e = rw e at (and_both (ltb (field b terms t 0) (length kinds)) (kind_in_range b (kind_of (field b terms t 0)) t) h).1

  args_range : (t : ℕ) → kind_in_range b built_in t ≡ true → is_range b (size b terms) (field b terms t 2) (field b terms t 3) ≡ true
  unfolding kind_in_range
  args_range t h =
      let r = and_both (within b names (field b terms t 1) && is_range b (size b terms) (field b terms t 2) (field b terms t 3)) (uses b t 3) h in
      (and_both (within b names (field b terms t 1)) (is_range b (size b terms) (field b terms t 2) (field b terms t 3)) r.0).1

  inputs_range : (t : ℕ) → kind_in_range b application t ≡ true → is_range b (size b terms) (field b terms t 2) (field b terms t 3) ≡ true
  unfolding kind_in_range
  inputs_range t h =
      let r = and_both (within b functions (field b terms t 1) && is_range b (size b terms) (field b terms t 2) (field b terms t 3)) (uses b t 3) h in
      (and_both (within b functions (field b terms t 1)) (is_range b (size b terms) (field b terms t 2) (field b terms t 3)) r.0).1

  patterns_range : (t : ℕ) → kind_in_range b quantifier_expr t ≡ true → is_range b (size b patterns) (field b terms t 4) (field b terms t 5) ≡ true
  unfolding kind_in_range
  patterns_range t h =
      let vars = ltb (field b terms t 1) 2 && is_range b (size b constants) (field b terms t 2) (field b terms t 3) in
      let pats = is_range b (size b patterns) (field b terms t 4) (field b terms t 5) in
      let r = and_both (vars && pats) (within b terms (field b terms t 6)) h in
      (and_both vars pats r.0).1

  pub followed : in_range b ≡ true → Followed b
  unfolding kind_of
  followed h =
      let R = tests b h in
      record {
        built_in = λ t l e. (range b (size b terms) _ _ (args_range t (by_kind t 4 (R.term t l) e))).ends;
        application = λ t l e. (range b (size b terms) _ _ (inputs_range t (by_kind t 5 (R.term t l) e))).ends;
        quantifier = λ t l e.
            let r = range b (size b patterns) (field b terms t 4) (field b terms t 5) (patterns_range t (by_kind t 8 (R.term t l) e)) in
            record { ends = r.ends; known = r.below };
        pattern = λ p l. (pattern_good b p l (R.pattern p l)).range.ends;
      }

  pub rooted : in_range b ≡ true → Rooted b
  rooted h = record { parent = λ k l. (context_good b k ((tests b h).context k l)).parent }

  literal_fields : (t : ℕ) → term_in_range b t ≡ true → field b terms t 0 ≡ 2 → GoodLiteral b t
  unfolding kind_of
  literal_fields t h e = literal_range b t (by_kind t 2 h e)

  pub spelled : in_range b ≡ true → Spelled b
  spelled h =
      let R = tests b h in
      record {
        name = λ n l. (name_good b n (R.name n l)).ends;
        typ = λ k l. type_good b k (R.typ k l);
        constant = λ k l. (constant_good b k (R.constant k l)).name;
        function = λ k l. (function_good b k (R.function k l)).name;
        literal = λ t l e. (literal_fields t (R.term t l) e).name;
        literal_type = λ t l e. (literal_fields t (R.term t l) e).typ;
      }
