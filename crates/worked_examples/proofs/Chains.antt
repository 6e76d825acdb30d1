-- A book that is one chain of contexts, of any length that a book can have, with a term for each: its test gives 6 exactly if the chain is longer
-- than the limit.
use Prim.Native.Nat.{ℕ, zero, suc, ◌<◌, ◌≤◌}
use native.Mathlib.Omega.{arith}
use mathlib.Core.Path.{◌≡◌, refl}
use mathlib.Core.Bool.{Bool, true, false, not}
use mathlib.Core.List.{List, [], ◌∷◌, ◌++◌, map, map-append}
use lib.Dec.{leb, ltb}
use borrow.Author.Tests.{lt-ltb, ne_eqb}
use Rattle.basics.specs.Lists.{join_below, member}
use Rattle.basics.proofs.Bool.{and_both, both_and}
use Rattle.basics.proofs.All.{All, end, more, all_append, all_weaken}
use Rattle.book.specs.Book.{Book, contexts, depth_most}
use Rattle.book_forest.specs.Forest.{Reference, reference, term_of, all_smaller, no_twice, is_forest}
use Rattle.book_test.specs.BookTest.{book_test}
use Rattle.worked_examples.proofs.IntegerBooks.{integer_book, node_reference, answer_of, refers, integer_test}

-- context record k has term k
abbrev itself : ℕ → ℕ
itself k = k

abbrev pub chain_book : ℕ → Book
chain_book n = integer_book n n itself

-- ---- every term is referred to once
smaller_append : (xs ys : List Reference) → all_smaller xs ≡ true → all_smaller ys ≡ true → all_smaller (xs ++ ys) ≡ true
unfolding all_smaller
smaller_append [] ys h k = k
smaller_append (x ∷ xs) ys h k =
    let r = and_both (ltb x.term x.bound) (all_smaller xs) h in
    both_and {a = ltb x.term x.bound} r.0 (smaller_append xs ys r.1 k)

member_behind : (y x : ℕ) (ys : List ℕ) → y < x → member y (ys ++ (x ∷ [])) ≡ member y ys
unfolding member
member_behind y x [] h = rw (ne_eqb y x (λ e. omega arith))
member_behind y x (z ∷ ys) h = rw (member_behind y x ys h)

once_behind : (x : ℕ) {ys : List ℕ} → All (λ y. y < x) ys → no_twice ys ≡ true → no_twice (ys ++ (x ∷ [])) ≡ true
unfolding no_twice member
once_behind x end h = refl
once_behind x (more {a = y} {l = ys} l ls) h =
    let r = and_both (not (member y ys)) (no_twice ys) h in
    let away : not (member y (ys ++ (x ∷ []))) ≡ true = rw (member_behind y x ys l) r.0 in
    both_and away (once_behind x ls r.1)

module _ (n : ℕ) where
  abbrev own : ℕ → List Reference
  own = node_reference n itself

  -- the references of the first m contexts
  record Referred (m : ℕ) : Type 0 where
    smaller : all_smaller (join_below m own) ≡ true
    low : All (λ y. y < m) (map term_of (join_below m own))
    once : no_twice (map term_of (join_below m own)) ≡ true

  referred : (m : ℕ) → m ≤ n → Referred m
  unfolding join_below node_reference all_smaller no_twice
  referred zero h = record { smaller = refl; low = end; once = refl }
  referred (suc m) h =
      let r = referred m (omega arith) in
      let e : map term_of (join_below m own ++ (reference n m ∷ [])) ≡ map term_of (join_below m own) ++ (m ∷ []) = map-append term_of (join_below m own) (reference n m ∷ []) in
      record {
        smaller = smaller_append (join_below m own) (own m) r.smaller (rw (lt-ltb m n h));
        low = rw e (all_append (all_weaken {P = λ y. y < m} {Q = λ y. y < suc m} (λ y l. omega arith) r.low) (more {a = m} (omega arith) end));
        once = rw e (once_behind m r.low r.once);
      }

-- 2 to 5 pass, and 6 if the chain is not longer than the limit
module _ (n : ℕ) (few : n ≤ contexts.most) where
  is-forest : is_forest (chain_book n) ≡ true
  unfolding is_forest
  is-forest = let r = referred n n (omega arith) in rw (refers n n itself (omega arith) few (λ k h. h)) (both_and r.smaller r.once)

  pub chain_test : book_test (chain_book n) ≡ answer_of true (leb n depth_most)
  chain_test = integer_test n n itself (omega arith) few (λ k h. h) is-forest
