-- The depth of one node after the other, each from its parent's.
use Prim.Native.Nat.{ℕ, zero, suc, ◌+◌, ◌<◌, ◌≤◌}
use native.Mathlib.Omega.{arith}
use native.Mathlib.Numerals.{add-one}
use native.Mathlib.Decide.{ℕ_discrete}
use mathlib.Core.Path.{◌≡◌, refl, sym, ap, ◌∙◌}
use mathlib.Core.Bool.{true, false}
use mathlib.Core.List.{List}
use lib.ListN.{length, get_or, set, replicate, length-set, length-replicate}
use lib.Seq.{get_or-set_same, get_or-set_other}
use borrow.Author.Tests.{le-leb, lt-leb}
use Rattle.book.specs.Book.{Book, contexts, size, field, depth_most}
use Rattle.book_depth.specs.Depth.{steps, node_depth, is_shallow}
use Rattle.book_depth.specs.Rooted.{Rooted}

-- the depths of the root and the first i nodes stand in the table
pub record Known (b : Book) (ds : List ℕ) (i : ℕ) : Type 0 where
  pub long : length ds ≡ contexts.most + 1
  pub each : (k : ℕ) → k ≤ i → get_or ds k 0 ≡ node_depth b k

pub root_known : (b : Book) (ds : List ℕ) → ds ≡ replicate (contexts.most + 1) 0 → Known b ds 0
unfolding node_depth steps
root_known b ds e =
    record {
      long = ap {B = ℕ} length e ∙ length-replicate {A = ℕ} (contexts.most + 1) 0;
      each = λ k l. let z : k ≡ 0 = omega arith in rw (z, e);
    }

module _ (b : Book) (R : Rooted b) where
  -- any fuel from the node's number up is the same
  enough : (f g n : ℕ) → n ≤ f → n ≤ g → n ≤ size b contexts → steps b f n ≡ steps b g n
  unfolding steps
  enough zero zero n h k l = refl
  enough zero (suc g) zero h k l = refl
  enough zero (suc g) (suc i) h k l = absurd (omega arith)
  enough (suc f) zero zero h k l = refl
  enough (suc f) zero (suc i) h k l = absurd (omega arith)
  enough (suc f) (suc g) zero h k l = refl
  enough (suc f) (suc g) (suc i) h k l =
      let p : field b contexts i 0 ≤ i = R.parent i l in
      ap suc (enough f g (field b contexts i 0) (omega arith) (omega arith) (omega arith))

  below_parent : (i : ℕ) → i < size b contexts → node_depth b (suc i) ≡ suc (node_depth b (field b contexts i 0))
  unfolding node_depth steps
  below_parent i l =
      let p : field b contexts i 0 ≤ i = R.parent i l in
      ap suc (enough i (field b contexts i 0) (field b contexts i 0) p (omega arith) (omega arith))

  -- the next node, whose parent p has depth d
  module _ (ds : List ℕ) (i p : ℕ) (known : Known b ds i) (l : i < size b contexts) (e : p ≡ field b contexts i 0) where
    next_depth : node_depth b (suc i) ≡ suc (get_or ds p 0)
    next_depth =
        let h : p ≤ i = omega (arith, R.parent i l) in
        below_parent i l ∙ rw (← e) (ap suc (sym (known.each p h)))

    pub next_known : i + 1 < contexts.most + 1 → Known b (set ds (i + 1) (get_or ds p 0 + 1)) (i + 1)
    next_known s = record { long = length-set ds (i + 1) (get_or ds p 0 + 1) ∙ known.long; each = λ k h. by k h (ℕ_discrete k (i + 1)) }
      where
        by : (k : ℕ) → k ≤ i + 1 → Dec (k ≡ i + 1) → get_or (set ds (i + 1) (get_or ds p 0 + 1)) k 0 ≡ node_depth b k
        by k h (yes q) =
            rw (q, get_or-set_same ds (i + 1) (get_or ds p 0 + 1) 0 (omega (arith, known.long)))
            (add-one (get_or ds p 0) ∙ sym next_depth ∙ ap (node_depth b) (sym (add-one i)))
        by k h (no q) = get_or-set_other ds (i + 1) k (get_or ds p 0 + 1) 0 q ∙ known.each k (omega arith)

    pub next_shallow : get_or ds p 0 < depth_most → is_shallow b i ≡ true
    unfolding is_shallow
    next_shallow h = rw next_depth (le-leb (suc (get_or ds p 0)) depth_most h)

    pub next_deep : depth_most ≤ get_or ds p 0 → is_shallow b i ≡ false
    unfolding is_shallow
    next_deep h = rw next_depth (lt-leb (suc (get_or ds p 0)) depth_most (omega arith))
