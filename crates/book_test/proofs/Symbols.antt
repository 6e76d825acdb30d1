-- From refusal 28: what its test tells of each name.
use Prim.Native.Nat.{ℕ, ◌<◌}
use mathlib.Core.Path.{◌≡◌}
use mathlib.Core.Bool.{true, ◌&&◌}
use Rattle.basics.specs.Lists.{all_below}
use Rattle.basics.proofs.Bool.{and_both}
use Rattle.basics.proofs.Counting.{below_each}
use Rattle.symbols.specs.Symbols.{is_name}
use Rattle.book.specs.Book.{Book, Section, types, constants, functions, terms, size, field, name_text}
use Rattle.book.specs.Decode.{custom_literal, kind_of, literal_of}
use Rattle.book.proofs.Terms.{literal_here}
use Rattle.book_names.specs.Names.{literal_named, says_named, record_named, section_named, term_named, names_good}

module _ (b : Book) where
  pub record_tested : (s : Section) → section_named b s ≡ true → (k : ℕ) → k < size b s → is_name (name_text b (field b s k 0)) ≡ true
  unfolding section_named record_named
  record_tested s h k l = below_each (size b s) (record_named b s) h k l

  pub literal_tested : all_below (size b terms) (term_named b) ≡ true → (t : ℕ) → t < size b terms → kind_of (field b terms t 0) ≡ custom_literal → literal_named (literal_of b t) ≡ true
  unfolding term_named says_named
  literal_tested h t l e = rw (literal_here b t e) at (below_each (size b terms) (term_named b) h t l)

  pub each_tested : names_good b ≡ true → (section_named b types ≡ true) × (section_named b constants ≡ true) × (section_named b functions ≡ true) × (all_below (size b terms) (term_named b) ≡ true)
  unfolding names_good
  each_tested h =
      let r3 = and_both (section_named b types && section_named b constants && section_named b functions) (all_below (size b terms) (term_named b)) h in
      let r2 = and_both (section_named b types && section_named b constants) (section_named b functions) r3.0 in
      let r1 = and_both (section_named b types) (section_named b constants) r2.0 in
      (r1.0, r1.1, r2.1, r3.1)
