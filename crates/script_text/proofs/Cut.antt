-- The tests of the input's front.
use Prim.Native.Nat.{ℕ, ◌+◌, ◌<◌, ◌≤◌}
use mathlib.Core.Path.{◌≡◌}
use mathlib.Core.Bool.{true, false, ◌||◌}
use mathlib.Core.List.{List}
use lib.Dec.{ltb}
use lib.ListN.{length}
use borrow.Author.Tests.{lt-ltb, le-ltb, ltb-false}
use Rattle.basics.proofs.Bool.{or_left, or_right}
use Rattle.book.specs.Book.{word}
use Rattle.script_text.specs.Script.{input_most, number_size, is_cut}

module _ (input : List ℕ) where
  pub too_long : input_most < length input → true ≡ is_cut input
  unfolding is_cut
  too_long h = rw (lt-ltb input_most (length input) h)

  module _ (h : length input ≤ input_most) where
    pub no_length : length input < number_size → true ≡ is_cut input
    unfolding is_cut
    no_length k = rw (le-ltb input_most (length input) h, lt-ltb (length input) number_size k)

    pub book_cut : number_size ≤ length input → {n : ℕ} → n ≡ number_size + word input 0 → ltb (length input) n ≡ is_cut input
    unfolding is_cut
    book_cut k e = rw (le-ltb input_most (length input) h, le-ltb (length input) number_size k, e)

  pub has_length : is_cut input ≡ false → number_size ≤ length input
  unfolding is_cut
  has_length e = ltb-false (length input) number_size (or_right (ltb input_most (length input)) (ltb (length input) number_size) (or_left (ltb input_most (length input) || ltb (length input) number_size) (ltb (length input) (number_size + word input 0)) e))

  pub has_book : is_cut input ≡ false → number_size + word input 0 ≤ length input
  unfolding is_cut
  has_book e = ltb-false (length input) (number_size + word input 0) (or_right (ltb input_most (length input) || ltb (length input) number_size) (ltb (length input) (number_size + word input 0)) e)
