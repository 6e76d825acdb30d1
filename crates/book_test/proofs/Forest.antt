-- From refusal 5: the terms that a term refers to are smaller than it.
use Prim.Native.Nat.{ℕ, ◌+◌, ◌<◌}
use mathlib.Core.Path.{◌≡◌}
use mathlib.Core.List.{List, [], ◌∷◌, ◌++◌, map}
use mathlib.Core.Bool.{true}
use lib.Dec.{ltb}
use borrow.Author.Tests.{ltb-true}
use Rattle.basics.specs.Lists.{join_below}
use Rattle.basics.proofs.Bool.{and_both}
use Rattle.basics.proofs.All.{All, end, more, all_split, all_head, all_join}
use Rattle.book.specs.Book.{Book, terms, axioms, contexts, lists, size, field}
use Rattle.book_forest.specs.Forest.{Reference, term_of, entry_reference, range_references, pattern_references, listed_references, term_references, axiom_references, context_references, references, all_smaller, no_twice, is_forest}

abbrev pub Smaller : Reference → Type 0
Smaller r = r.term < r.bound

smaller_each : (rs : List Reference) → all_smaller rs ≡ true → All Smaller rs
unfolding all_smaller
smaller_each [] h = end
smaller_each (r ∷ rs) h =
    let p = and_both (ltb r.term r.bound) (all_smaller rs) h in
    more (ltb-true r.term r.bound p.0) (smaller_each rs p.1)

module _ (b : Book) where
  pub children_smaller : is_forest b ≡ true → (t : ℕ) → t < size b terms → All Smaller (term_references b t)
  unfolding is_forest references
  children_smaller h =
      let of_terms = join_below (size b terms) (term_references b) in
      let of-axioms = join_below (size b axioms) (axiom_references b) in
      let of-contexts = join_below (size b contexts) (context_references b) in
      let all = smaller_each (references b) (and_both (all_smaller (references b)) (no_twice (map term_of (references b))) h).0 in
      all_join (size b terms) (term_references b) (all_split of_terms of-axioms (all_split (of_terms ++ of-axioms) of-contexts all).0).0

  pub entry_smaller : (bound start count : ℕ) → All Smaller (range_references b bound start count) → (i : ℕ) → i < count → field b lists (start + i) 0 < bound
  unfolding range_references entry_reference
  entry_smaller bound start count h i l = all_head (all_join count (entry_reference b bound start) h i l)

  pub listed_smaller : (bound start count : ℕ) → All Smaller (join_below count (listed_references b bound start)) → (i : ℕ) → i < count
      → All Smaller (pattern_references b bound (field b lists (start + i) 0))
  unfolding listed_references
  listed_smaller bound start count h i l = all_join count (listed_references b bound start) h i l
