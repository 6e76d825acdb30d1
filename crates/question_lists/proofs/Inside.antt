-- The questions of a list are looked at one after the other: node and goal of each are in the book, or one is not.
use Prim.Native.Nat.{ℕ, ◌≤◌, ◌<◌}
use mathlib.Core.Path.{◌≡◌}
use mathlib.Core.Bool.{true, ◌&&◌}
use mathlib.Core.List.{List}
use lib.Dec.{leb, ltb}
use lib.ListN.{length}
use borrow.Author.Tests.{leb-true, ltb-true}
use Rattle.std.specs.List.{list_all, range_with_len}
use Rattle.basics.specs.Lists.{all}
use Rattle.basics.proofs.Bool.{and_both}
use Rattle.basics.proofs.All.{all_true, all-at}
use Rattle.number_lists.proofs.Ranges.{all_range}
use Rattle.book.specs.Book.{Book, terms, contexts, size}
use Rattle.question_lists.specs.Questions.{Question, question_at, is_inside}

module _ (b : Book) (qs : List Question) where
  pub by_range : {n t : ℕ} → n ≡ size b contexts → t ≡ size b terms
      → list_all (λ i. leb (question_at qs i).node n && ltb (question_at qs i).goal t) (range_with_len 0 (length qs)) ≡ all qs (is_inside b)
  unfolding question_at is_inside
  by_range e f = rw (e, f) (all_range (is_inside b) qs _)

  module _ (h : all qs (is_inside b) ≡ true) {i : ℕ} (l : i < length qs) where
    both_inside : (leb (question_at qs i).node (size b contexts) ≡ true) × (ltb (question_at qs i).goal (size b terms) ≡ true)
    unfolding is_inside question_at
    both_inside = and_both _ _ (all-at (all_true qs (is_inside b) h) i _ l)

    pub node_inside : {n : ℕ} → n ≡ (question_at qs i).node → n ≤ size b contexts
    node_inside is = leb-true _ _ (rw is both_inside.0)

    pub goal_inside : {g : ℕ} → g ≡ (question_at qs i).goal → g < size b terms
    goal_inside is = ltb-true _ _ (rw is both_inside.1)
