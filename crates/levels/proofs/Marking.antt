-- Marks, and how many there are.
use Prim.Native.Nat.{ℕ, zero, suc, ◌+◌, ◌<◌, ◌≤◌}
use native.Mathlib.Omega.{arith}
use native.Mathlib.Numerals.{add-one}
use mathlib.Core.Path.{◌≡◌, refl, sym, ap, ◌∙◌}
use mathlib.Core.List.{List, [], ◌∷◌}
use lib.ListN.{length, get_or, set, take}
use lib.Seq.{take_all}
use Rattle.std.specs.Prelude.{not, cond, count_by}
use Rattle.std.proofs.lemmas.List.Recursion.{is_count_by}
use lib.Dec.{eqb}
use borrow.Author.Tests.{ne_eqb}
use Rattle.rsolver.specs.LevelState.{join_at, count}
use Rattle.levels.specs.Marks.{declared}

pub join_new : (ls : List ℕ) (k n : ℕ) → get_or ls k 0 ≡ 0 → k < length ls → set ls k n ≡ join_at ls k n
unfolding join_at
join_new [] k n e h = absurd (omega arith)
join_new (zero ∷ ls) zero n e h = refl
join_new (suc l ∷ ls) zero n e h = absurd (omega arith)
join_new (zero ∷ ls) (suc k) n e h = rw (join_new ls k n e (omega arith))
join_new (suc l ∷ ls) (suc k) n e h = rw (join_new ls k n e (omega arith))

pub join_old : (ls : List ℕ) (k n : ℕ) → (get_or ls k 0 ≡ 0 → ⊥) → ls ≡ join_at ls k n
unfolding join_at
join_old [] k n e = refl
join_old (zero ∷ ls) zero n e = absurd (e refl)
join_old (suc l ∷ ls) zero n e = refl
join_old (zero ∷ ls) (suc k) n e = ap {B = List ℕ} (λ (l : List ℕ). zero ∷ l) (join_old ls k n e)
join_old (suc l ∷ ls) (suc k) n e = ap {B = List ℕ} (λ (m : List ℕ). suc l ∷ m) (join_old ls k n e)

pub declared_none : {l : ℕ} → l ≡ 0 → 0 ≡ declared l
unfolding declared
declared_none e = rw e

pub declared_one : (l : ℕ) → (l ≡ 0 → ⊥) → 1 ≡ declared l
unfolding declared
declared_one zero h = absurd (h refl)
declared_one (suc l) h = refl

pub count_none : (ls : List ℕ) → 0 ≡ count (take 0 ls)
unfolding count
count_none ls = refl

count_next : (ls : List ℕ) (i : ℕ) → i < length ls → count (take i ls) + declared (get_or ls i 0) ≡ count (take (suc i) ls)
unfolding count declared
count_next [] i h = absurd (omega arith)
count_next (zero ∷ ls) zero h = refl
count_next (suc l ∷ ls) zero h = refl
count_next (zero ∷ ls) (suc i) h = count_next ls i (omega arith)
count_next (suc l ∷ ls) (suc i) h = omega (arith, count_next ls i (omega arith))

declared_most : (l : ℕ) → declared l ≤ 1
unfolding declared
declared_most zero = omega arith
declared_most (suc l) = omega arith

-- the first i places have n
pub record Counted (ls : List ℕ) (i n : ℕ) : Type 0 where
  pub is : n ≡ count (take i ls)
  pub most : n ≤ i

pub counted_none : (ls : List ℕ) → Counted ls 0 0
counted_none ls = record { is = count_none ls; most = omega arith }

pub counted_more : {ls : List ℕ} {i n d : ℕ} → Counted ls i n → i < length ls → d ≡ declared (get_or ls i 0) → Counted ls (i + 1) (n + d)
counted_more {ls} {i} c h e = record { is = rw (add-one i, e, c.is) (count_next ls i h); most = omega (arith, c.most, declared_most (get_or ls i 0)) }

pub counted_all : {ls : List ℕ} {i n : ℕ} → Counted ls i n → length ls ≤ i → n ≡ count ls
counted_all {ls} {i} c h = c.is ∙ ap count (take_all i ls h)

pub counted_fits : {ls : List ℕ} {i n d : ℕ} → Counted ls i n → i < length ls → d ≡ declared (get_or ls i 0) → n + d ≤ length ls
counted_fits {ls} {i} c h e = omega (arith, c.most, declared_most (get_or ls i 0))

-- the count that the library makes
pub count_is : (ls : List ℕ) → count ls ≡ count_by (λ l. not (eqb l 0)) ls
unfolding count
count_is ls = is_count_by count (λ l. not (eqb l 0)) refl one ls
  where
    one : (l : ℕ) (ls : List ℕ) → count (l ∷ ls) ≡ cond (not (eqb l 0)) (1 + count ls) (count ls)
    one zero ls = refl
    one (suc l) ls = let e : suc (count ls) ≡ 1 + count ls = omega arith in rw (ne_eqb (suc l) 0 (λ q. omega arith)) e
