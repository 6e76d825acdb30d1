-- Marks as bits of the scratch (refusal 5): terms whose marks stand in one byte, on the least scratch and in books of as many terms as there can be.
use Prim.Native.Nat.{ℕ, zero, suc, ◌<◌}
use native.Mathlib.Omega.{arith}
use mathlib.Core.Path.{◌≡◌, refl, sym, ◌∙◌}
use mathlib.Core.Bool.{Bool, true, false, not, ◌&&◌, ◌||◌}
use mathlib.Core.List.{List, [], ◌∷◌, ◌++◌, map}
use lib.Dec.{eqb}
use lib.ListN.{get_or, replicate}
use borrow.Author.Tests.{lt-ltb}
use Rattle.basics.specs.Lists.{join_below, up_to, member}
use Rattle.basics.specs.Bits.{has_bit, with_bit, has_number, with_number}
use Rattle.basics.specs.Outcome.{refused, accepted}
use Rattle.basics.specs.Buffer.{scratch_least}
use Rattle.book.specs.Book.{Book, terms}
use Rattle.book_forest.specs.Forest.{reference, all_smaller, no_twice, is_forest}
use Rattle.book_forest.specs.Marks.{is_marked, set_mark, room, can_mark, all_marked}
use Rattle.book_test.specs.BookTest.{book_test}
use Rattle.worked_examples.proofs.IntegerBooks.{integer_book, node_reference, answer_of, refers, integer_test}

-- ---- on the least scratch, with no mark yet
unmarked : List ℕ
unmarked = replicate scratch_least 0

-- terms of a book that has as many as there can be, marked one after the other
can_mark_all : List ℕ → Bool
can_mark_all ts = can_mark unmarked (map (reference terms.most) ts)

marks : List ℕ → List ℕ
marks ts = all_marked unmarked (map (reference terms.most) ts)

pub marking : List (Bool × Bool)
unfolding unmarked can_mark_all has_bit with_bit has_number with_number is_marked set_mark can_mark up_to
marking =
    -- two terms of one byte, of the first and of the last; and one of them twice
    (can_mark_all (0 ∷ 7 ∷ []), true)
    ∷ (can_mark_all (1022 ∷ 1023 ∷ []), true)
    ∷ (can_mark_all (0 ∷ 7 ∷ 0 ∷ []), false)
    ∷ (can_mark_all (1023 ∷ 1022 ∷ 1023 ∷ []), false)
    -- the last of a byte and the first of the next, as high in their bytes as each other
    ∷ (can_mark_all (7 ∷ 8 ∷ []), true)
    ∷ (can_mark_all (0 ∷ 8 ∷ 16 ∷ []), true)
    ∷ (can_mark_all (7 ∷ 8 ∷ 7 ∷ []), false)
    -- all of a byte, and then one of them again
    ∷ (can_mark_all (up_to 8 8), true)
    ∷ (can_mark_all (up_to 8 8 ++ (11 ∷ [])), false)
    -- every term once
    ∷ (can_mark_all (up_to 0 1024), true)
    ∷ []

pub marking_holds : map (λ e. e.0) marking ≡ map (λ e. e.1) marking
unfolding marking
marking_holds = refl

pub bytes : List (List ℕ × List ℕ)
unfolding unmarked marks has_bit with_bit has_number with_number set_mark all_marked up_to
bytes =
    (marks [], unmarked)
    ∷ (marks (0 ∷ 1023 ∷ 1022 ∷ []), 1 ∷ replicate 126 0 ++ (192 ∷ []))
    -- a mark that is there already stays alone
    ∷ (marks (9 ∷ 9 ∷ []), 0 ∷ 2 ∷ replicate 126 0)
    -- 1,024 marks are all bits of 128 bytes
    ∷ (marks (up_to 0 1024), replicate 128 255)
    ∷ []

pub bytes_hold : map (λ e. e.0) bytes ≡ map (λ e. e.1) bytes
unfolding bytes
bytes_hold = refl

-- ---- in a book: as many Integers as there can be, and two contexts that refer to t and to u
abbrev pair : (t u : ℕ) → ℕ → ℕ
pair t u k = get_or (t ∷ u ∷ []) k 0

abbrev pair_book : (t u : ℕ) → Book
pair_book t u = integer_book terms.most 2 (pair t u)

module _ (t u : ℕ) (t-known : t < terms.most) (u-known : u < terms.most) where
  known : (k : ℕ) → k < 2 → pair t u k < terms.most
  known zero h = t-known
  known (suc zero) h = u-known
  known (suc (suc k)) h = absurd (omega arith)

  forest : is_forest (pair_book t u) ≡ not (eqb t u)
  unfolding is_forest join_below node_reference all_smaller no_twice member
  forest = rw (refers terms.most 2 (pair t u) (omega arith) (omega arith) known, lt-ltb t terms.most t-known, lt-ltb u terms.most u-known) (by (eqb t u))
    where
      by : (x : Bool) → (not (x || false) && (true && true)) ≡ not x
      by true = refl
      by false = refl

  -- 5 exactly if it is one term
  pub pair_test : book_test (pair_book t u) ≡ answer_of (not (eqb t u)) true
  pair_test = integer_test terms.most 2 (pair t u) (omega arith) (omega arith) known forest

pub one_byte : book_test (pair_book 1022 1023) ≡ accepted tt
one_byte = pair_test 1022 1023 (omega arith) (omega arith)

pub last_twice : book_test (pair_book 1023 1023) ≡ refused 5
last_twice = pair_test 1023 1023 (omega arith) (omega arith)

pub first_byte : book_test (pair_book 0 7) ≡ accepted tt
first_byte = pair_test 0 7 (omega arith) (omega arith)

pub first_twice : book_test (pair_book 0 0) ≡ refused 5
first_twice = pair_test 0 0 (omega arith) (omega arith)

pub next_byte : book_test (pair_book 7 8) ≡ accepted tt
next_byte = pair_test 7 8 (omega arith) (omega arith)
