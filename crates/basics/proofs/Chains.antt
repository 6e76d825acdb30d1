-- Chains over the numbers below a bound, `(0..n).all(..)`, and over slices, where each call of the closure is the test of an item.
use Prim.Native.Nat.{ℕ, zero, suc, ◌+◌, ◌-◌}
use native.Mathlib.Omega.{arith}
use native.Mathlib.Numerals.{add-one}
use denote.Param.Members.{Mut}
use denote.Ref.{Bor}
use mathlib.Core.Path.{◌≡◌, refl, sym, ap, ap₂, ◌∙◌}
use mathlib.Core.Bool.{Bool, true, false, not, ◌&&◌, ◌||◌}
use mathlib.Core.List.{List, [], ◌∷◌}
use Rattle.std.specs.Prelude.{Option}
use Rattle.std.specs.Option.{MatchOption}
use Rattle.std.specs.Fn.{Called}
use Rattle.std.specs.Iterator.{YieldsThen}
use Rattle.std.specs.List.{range_with_len, list_all, list_any, FoldsTo}
use Rattle.std.specs.declared.ops.Range.{Range}
use Rattle.std.specs.Slice.Iter.{iter_rest}
use Rattle.std.specs.declared.slice.Iter.{Iter}
use Rattle.std.proofs.iter.Yields.{fronts, nat_range_steps}
use Rattle.std.proofs.lemmas.Iterator.{YieldsList-from_slice, YieldsList-from_range}
use Rattle.std.proofs.lemmas.Iterator.Search.{all_from_yields_List, any_from_yields_List}
use Rattle.basics.specs.Lists.{all_below, all}
use Rattle.basics.proofs.Loops.{below_first}

below_same : (n : ℕ) {f g : ℕ → Bool} → ((i : ℕ) → f i ≡ g i) → all_below n f ≡ all_below n g
unfolding all_below
below_same zero h = refl
below_same (suc n) h = ap₂ {B = Bool} {C = Bool} (λ b c. b && c) (below_same n h) (h n)

-- the tests from a on, the first one first
from_up : (test : ℕ → Bool) (a n : ℕ) → list_all test (range_with_len a n) ≡ all_below n (λ i. test (a + i))
unfolding all_below
from_up test a zero = refl
from_up test a (suc n) =
    let here : a + 0 ≡ a = omega arith in
    ap₂ {B = Bool} {C = Bool} (λ b c. b && c) (ap test (sym here)) (from_up test (a + 1) n ∙ below_same n (λ i. ap test (omega arith)))
    ∙ sym (below_first n (λ i. test (a + i)))

pub all_in_range : {F : Type 0} {g : Mut F (ℕ × Unit {0}) Bool} {u : Range ℕ} {f : F} {n : ℕ} {r : Bool} (test : ℕ → Bool)
    → (xs : List ℕ) × (o : Option ℕ) × (j : F) × YieldsThen nat_range_steps (record { start = 0; end = n }) xs o u × FoldsTo (λ p x q. Called g p (x, tt) true q) f xs j × MatchOption o (r ≡ true) (λ x. (r ≡ false) × ((h : F) × Called g j (x, tt) false h))
    → ((x : ℕ) (b : Bool) (q : F) → Called g f (x, tt) b q → (q ≡ f) × (b ≡ test x))
    → r ≡ all_below n test
all_in_range {n = n} test ran calls =
    all_from_yields_List test _ _ _ ran (YieldsList-from_range 0 n n refl (omega arith)) calls
    ∙ from_up test 0 n ∙ below_same n (λ i. ap test (omega arith))

list_is : (test : ℕ → Bool) (xs : List ℕ) → list_all test xs ≡ all xs test
unfolding all
list_is test [] = refl
list_is test (x ∷ xs) = ap (λ (t : Bool). test x && t) (list_is test xs)

any_is : (test : ℕ → Bool) (xs : List ℕ) → list_any (λ x. not (test x)) xs ≡ not (all xs test)
unfolding all
any_is test [] = refl
any_is test (x ∷ xs) = rw (any_is test xs) (either (test x) (all xs test))
  where
    either : (t u : Bool) → (not t || not u) ≡ not (t && u)
    either true u = refl
    either false u = refl

-- every item passes
pub all_in_slice : {F : Type 0} {g : Mut F (Bor ℕ × Unit {0}) Bool} {s u : Iter ℕ} {f : F} {r : Bool} {xs : List ℕ} (test : ℕ → Bool)
    → (ys : List (Bor ℕ)) × (o : Option (Bor ℕ)) × (j : F) × YieldsThen fronts s ys o u × FoldsTo (λ p x q. Called g p (x, tt) true q) f ys j × MatchOption o (r ≡ true) (λ x. (r ≡ false) × ((h : F) × Called g j (x, tt) false h))
    → iter_rest s ≡ xs
    → ((x : Bor ℕ) (b : Bool) (q : F) → Called g f (x, tt) b q → (q ≡ f) × (b ≡ test x.now))
    → r ≡ all xs test
all_in_slice {xs = xs} test ran e calls = all_from_yields_List test _ _ _ ran (YieldsList-from_slice xs e) calls ∙ list_is test xs

-- some item fails
pub any_in_slice : {F : Type 0} {g : Mut F (Bor ℕ × Unit {0}) Bool} {s u : Iter ℕ} {f : F} {r : Bool} {xs : List ℕ} (test : ℕ → Bool)
    → (ys : List (Bor ℕ)) × (o : Option (Bor ℕ)) × (j : F) × YieldsThen fronts s ys o u × FoldsTo (λ p x q. Called g p (x, tt) false q) f ys j × MatchOption o (r ≡ false) (λ x. (r ≡ true) × ((h : F) × Called g j (x, tt) true h))
    → iter_rest s ≡ xs
    → ((x : Bor ℕ) (b : Bool) (q : F) → Called g f (x, tt) b q → (q ≡ f) × (b ≡ not (test x.now)))
    → r ≡ not (all xs test)
any_in_slice {xs = xs} test ran e calls = any_from_yields_List (λ x. not (test x)) _ _ _ ran (YieldsList-from_slice xs e) calls ∙ any_is test xs
