-- The nodes of a list are looked at one after the other: each is in the book, or one is not.
use Prim.Native.Nat.{ℕ, ◌≤◌, ◌<◌}
use mathlib.Core.Path.{◌≡◌}
use mathlib.Core.Bool.{Bool, true}
use mathlib.Core.List.{List}
use lib.Dec.{leb}
use lib.ListN.{length, get_or}
use borrow.Author.Tests.{leb-true}
use Rattle.std.specs.List.{list_all, range_with_len}
use Rattle.basics.proofs.All.{all_true, all-at}
use Rattle.number_lists.proofs.Ranges.{all_range}
use Rattle.book.specs.Book.{Book, contexts, size}
use Rattle.nodes_test.specs.NodesTest.{all_inside}

module _ (b : Book) (ns : List ℕ) where
  abbrev inside : ℕ → Bool
  inside n = leb n (size b contexts)

  pub by_range : {last : ℕ} → last ≡ size b contexts → list_all (λ i. leb (get_or ns i 0) last) (range_with_len 0 (length ns)) ≡ all_inside b ns
  unfolding all_inside
  by_range e = rw e (all_range inside ns 0)

  pub inside_at : all_inside b ns ≡ true → {i n : ℕ} → n ≡ get_or ns i 0 → i < length ns → n ≤ size b contexts
  unfolding all_inside
  inside_at h {i} is l = leb-true _ _ (rw is (all-at (all_true ns inside h) i 0 l))
