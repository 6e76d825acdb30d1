-- Lists of lines that hold the same, each as often: every line is as often in one as in the other, and both have as many bytes.
use Rattle.std.specs.Prelude.{if◌then◌else◌}
use Prim.Native.Nat.{ℕ, suc, ◌+◌, ◌<◌}
use native.Mathlib.Omega.{arith}
use mathlib.Core.Path.{◌≡◌, refl, sym, ap}
use mathlib.Core.Bool.{Bool, true, false}
use mathlib.Core.List.{List, [], ◌∷◌}
use lib.Dec.{eqb}
use lib.ListN.{length}
use borrow.Author.Tests.{eqb-true, eq-eqb}
use Rattle.basics.specs.Text.{Text, same}
use Rattle.basics.specs.Lists.{all}
use Rattle.basics.proofs.Bool.{and_both}
use Rattle.basics.proofs.All.{All, more, all_weaken, all_true}
use Rattle.basics.proofs.Texts.{same_refl, same_eq}
use Rattle.level_lines.specs.AsOften.{times_in, even_in, as_often}
use Rattle.level_lines.specs.Bytes.{total}

abbrev one : Text → Text → ℕ
one x y = if same x y then 1 else 0

unfoldable without : Text → List Text → List Text
without x [] = []
without x (y ∷ ys) = if same x y then ys else y ∷ without x ys

record Removed (x : Text) (m : List Text) : Type 0 where
  size : total m ≡ suc (length x) + total (without x m)
  many : length m ≡ suc (length (without x m))
  counts : (y : Text) → times_in y m ≡ one y x + times_in y (without x m)

removed : (x : Text) (m : List Text) → 0 < times_in x m → Removed x m
unfolding times_in without total
removed x [] h = absurd (omega arith)
removed x (y ∷ ys) h = at (same x y) refl (λ k. removed x ys k)
  where
    at : (b : Bool) → same x y ≡ b → (0 < times_in x ys → Removed x ys) → Removed x (y ∷ ys)
    at true e rec =
        let z : x ≡ y = same_eq x y e in
        record { size = rw e (ap (λ (t : Text). suc (length t) + total ys) (sym z)); many = rw e; counts = λ w. rw (e, z) }
    at false e rec =
        let k : 0 < 0 + times_in x ys = rw e at h in
        let r = rec (omega (arith, k)) in
        record {
          size = rw e (omega (arith, r.size));
          many = rw e (ap suc r.many);
          counts = λ w. rw e (omega (arith, r.counts w));
        }

pub record Bag (l m : List Text) : Type 0 where
  pub counts : (x : Text) → times_in x l ≡ times_in x m
  pub size : total l ≡ total m

bag : (l m : List Text) → length l ≡ length m → All (λ x. times_in x l ≡ times_in x m) l → Bag l m
unfolding times_in total
bag [] [] n h = record { counts = λ x. refl; size = refl }
bag [] (y ∷ m) n h = absurd (omega arith)
bag (a ∷ l) m n (more h hs) =
    let k : 1 + times_in a l ≡ times_in a m = rw (same_refl a) at h in
    let here : 0 < times_in a m = omega (arith, k) in
    let r = removed a m here in
    let i = bag l (without a m) (omega (arith, r.many)) (all_weaken (λ x k. omega (arith, k, r.counts x)) hs) in
    record { counts = λ x. omega (arith, i.counts x, r.counts x); size = omega (arith, i.size, r.size) }

pub same_bag : (l m : List Text) → as_often l m ≡ true → Bag l m
unfolding as_often even_in
same_bag l m h =
    let r = and_both (eqb (length l) (length m)) (all l (even_in l m)) h in
    bag l m (eqb-true (length l) (length m) r.0)
    (all_weaken (λ x k. eqb-true (times_in x l) (times_in x m) k) (all_true l (even_in l m) r.1))

-- ---- the other way
even_length : (l m : List Text) → ((x : Text) → times_in x l ≡ times_in x m) → length l ≡ length m
unfolding times_in
even_length [] [] h = refl
even_length [] (y ∷ m) h = let k : 0 ≡ 1 + times_in y m = rw (same_refl y) at (h y) in absurd (omega arith)
even_length (a ∷ l) m h =
    let k : 1 + times_in a l ≡ times_in a m = rw (same_refl a) at (h a) in
    let r = removed a m (omega (arith, k)) in
    omega (arith, r.many, even_length l (without a m) (λ x. omega (arith, h x, r.counts x)))

all-even : (k l m : List Text) → ((x : Text) → times_in x l ≡ times_in x m) → all k (even_in l m) ≡ true
unfolding all even_in
all-even [] l m h = refl
all-even (x ∷ k) l m h = rw (eq-eqb (times_in x l) (times_in x m) (h x), all-even k l m h)

pub bag_same : (l m : List Text) → ((x : Text) → times_in x l ≡ times_in x m) → as_often l m ≡ true
unfolding as_often
bag_same l m h = rw (eq-eqb (length l) (length m) (even_length l m h), all-even l l m h)
