-- The axioms that are not declared yet, in the levels and in the bodies' sets: a walk's fuel is enough in both.
use Prim.Native.Nat.{ℕ, zero, suc, ◌+◌, ◌≤◌, ◌<◌}
use native.Mathlib.Nat.{le_refl, le_of_suc-le-suc, not-suc-le-zero}
use native.Mathlib.Omega.{arith}
use native.Mathlib.Decide.{dec_lt}
use mathlib.Core.Path.{◌≡◌, refl, sym, ap, ◌∙◌}
use mathlib.Core.List.{List, [], ◌∷◌}
use mathlib.Core.Bool.{Bool, true, false, ◌||◌}
use lib.ListN.{length, get_or}
use borrow.Author.Tests.{not-false, eqb-true}
use Rattle.book.specs.Program.{Program}
use Rattle.smt_engines.specs.Command.{Command}
use Rattle.rsolver.specs.Step.{Step}
use Rattle.rsolver.specs.Methods.{Marker, axiom'}
use Rattle.rsolver.specs.LevelState.{LevelState, axiom_places, place, literal_place, join_at, is_declared_at, send, declare_at, miss, levelled}
use Rattle.rsolver.specs.SolverState.{same_marker, is_in, with', told, marked, named, missed, bodies}
use Rattle.rsolver.proofs.AgreeLists.{length_join}
use Rattle.rsolver.proofs.Sets.{marker_refl, marker_eq, in_with}
use Rattle.rsolver.proofs.Fewer.{Fewer, Counts}

-- ---- levels
-- 1 for a place that is not declared
unfoldable pub open? : ℕ → ℕ
open? zero = 1
open? (suc l) = 0

-- how many of the n places from a on are not declared
unfoldable pub undeclared_in : (a n : ℕ) → List ℕ → ℕ
undeclared_in a zero ls = 0
undeclared_in a (suc n) ls = open? (get_or ls (a + n) 0) + undeclared_in a n ls

join_keeps : (ls : List ℕ) (k n j : ℕ) → open? (get_or (join_at ls k (suc n)) j 0) ≤ open? (get_or ls j 0)
unfolding join_at open?
join_keeps [] k n j = le_refl _
join_keeps (zero ∷ ls) zero n zero = omega arith
join_keeps (zero ∷ ls) zero n (suc j) = le_refl _
join_keeps (suc l ∷ ls) zero n j = le_refl _
join_keeps (zero ∷ ls) (suc k) n zero = le_refl _
join_keeps (zero ∷ ls) (suc k) n (suc j) = join_keeps ls k n j
join_keeps (suc l ∷ ls) (suc k) n zero = le_refl _
join_keeps (suc l ∷ ls) (suc k) n (suc j) = join_keeps ls k n j

join_sets : (ls : List ℕ) (k n : ℕ) → k < length ls → open? (get_or (join_at ls k (suc n)) k 0) ≡ 0
unfolding join_at open?
join_sets [] k n h = absurd (not-suc-le-zero h)
join_sets (zero ∷ ls) zero n h = refl
join_sets (suc l ∷ ls) zero n h = refl
join_sets (zero ∷ ls) (suc k) n h = join_sets ls k n (le_of_suc-le-suc h)
join_sets (suc l ∷ ls) (suc k) n h = join_sets ls k n (le_of_suc-le-suc h)

undeclared_join : (a m : ℕ) (ls : List ℕ) (k n : ℕ) → undeclared_in a m (join_at ls k (suc n)) ≤ undeclared_in a m ls
unfolding undeclared_in
undeclared_join a zero ls k n = le_refl _
undeclared_join a (suc m) ls k n = omega (arith, join_keeps ls k n (a + m), undeclared_join a m ls k n)

undeclared_new : (a m : ℕ) (ls : List ℕ) (k n : ℕ) → k < m → a + k < length ls → get_or ls (a + k) 0 ≡ 0
    → undeclared_in a m (join_at ls (a + k) (suc n)) < undeclared_in a m ls
unfolding undeclared_in open?
undeclared_new a zero ls k n h w z = absurd (not-suc-le-zero h)
undeclared_new a (suc m) ls k n h w z = at (λ l. undeclared_new a m ls k n l w z) (dec_lt k m)
  where
    at : (k < m → undeclared_in a m (join_at ls (a + k) (suc n)) < undeclared_in a m ls) → Dec (k < m)
        → open? (get_or (join_at ls (a + k) (suc n)) (a + m) 0) + undeclared_in a m (join_at ls (a + k) (suc n)) < open? (get_or ls (a + m) 0) + undeclared_in a m ls
    at f (yes l) = omega (arith, f l, join_keeps ls (a + k) n (a + m))
    at f (no l) =
        let e : k ≡ m = omega arith in
        let was : open? (get_or ls (a + m) 0) ≡ 1 = ap (λ (j : ℕ). open? (get_or ls (a + j) 0)) (sym e) ∙ ap open? z in
        let is : open? (get_or (join_at ls (a + k) (suc n)) (a + m) 0) ≡ 0 =
        ap (λ (j : ℕ). open? (get_or (join_at ls (a + k) (suc n)) (a + j) 0)) (sym e) ∙ join_sets ls (a + k) n w in
        omega (arith, undeclared_join a m ls (a + k) n)

pub undeclared_most : (a n : ℕ) (ls : List ℕ) → undeclared_in a n ls ≤ n
unfolding undeclared_in
undeclared_most a zero ls = le_refl _
undeclared_most a (suc n) ls = omega (arith, one (get_or ls (a + n) 0), undeclared_most a n ls)
  where
    one : (l : ℕ) → open? l ≤ 1
    one zero = unfold open? in le_refl _
    one (suc l) = unfold open? in omega arith

unfoldable pub undeclared : Program → LevelState → ℕ
undeclared p s = undeclared_in axiom_places (length p.axioms) s.levels

module _ (p : Program) where
  -- inside a level, with a place for each axiom
  pub record Inside (s : LevelState) : Type 0 where
    pub deep : 0 < length s.stack
    pub wide : axiom_places + length p.axioms ≤ length s.levels

  abbrev pub Falls : Step LevelState → Type 0
  Falls f = Fewer Inside (undeclared p) f

  send_f : (c : Command) → Falls (send c)
  unfolding send undeclared
  send_f c = record { stays = λ s i. record { deep = i.deep; wide = i.wide }; falls = λ s i. le_refl _ }

  miss_f : Falls miss
  unfolding miss undeclared
  miss_f = record { stays = λ s i. record { deep = i.deep; wide = i.wide }; falls = λ s i. le_refl _ }

  falls_at : (k : ℕ) (ls : List ℕ) (n : ℕ) → 0 < n → undeclared_in axiom_places (length p.axioms) (join_at ls k n) ≤ undeclared_in axiom_places (length p.axioms) ls
  falls_at k ls zero h = absurd (not-suc-le-zero h)
  falls_at k ls (suc n) h = undeclared_join axiom_places (length p.axioms) ls k n

  mark_f : (k : ℕ) → Falls (declare_at k)
  unfolding declare_at undeclared
  mark_f k =
      record {
        stays = λ s i. record { deep = i.deep; wide = omega (arith, i.wide, length_join s.levels k (length s.stack)) };
        falls = λ s i. falls_at k s.levels (length s.stack) i.deep;
      }

  pub mark_new : (k : ℕ) (s : LevelState) → Inside s → k < length p.axioms → is_declared_at (axiom_places + k) s ≡ false
      → undeclared p (declare_at (axiom_places + k) s) < undeclared p s
  unfolding declare_at undeclared is_declared_at
  mark_new k s i h e = new (length s.stack) i.deep
    where
      new : (m : ℕ) → 0 < m → undeclared_in axiom_places (length p.axioms) (join_at s.levels (axiom_places + k) m) < undeclared_in axiom_places (length p.axioms) s.levels
      new zero d = absurd (not-suc-le-zero d)
      new (suc m) d =
          undeclared_new axiom_places (length p.axioms) s.levels k m h (omega (arith, i.wide))
          (eqb-true (get_or s.levels (axiom_places + k) 0) 0 (not-false _ e))

  pub counts : Counts (levelled p) p Inside (undeclared p)
  unfolding place
  counts =
      record {
        send = send_f;
        miss = miss_f;
        mark = λ m. mark_f (place m);
        name = λ t x. mark_f (literal_place t);
        new = mark_new;
        most = λ s. unfold undeclared in undeclared_most axiom_places (length p.axioms) s.levels;
      }

-- ---- sets of markers
unfoldable pub out? : (declared : Bool) → ℕ
out? true = 0
out? false = 1

-- how many of the first n axioms have no marker in a set
unfoldable pub unmarked : ℕ → List Marker → ℕ
unmarked zero d = 0
unmarked (suc n) d = out? (is_in same_marker (axiom' n) d) + unmarked n d

out_or : (a b : Bool) → out? (a || b) ≤ out? b
unfolding out?
out_or true true = le_refl _
out_or true false = omega arith
out_or false b = le_refl _

marked_keeps : (m x : Marker) (d : List Marker) → out? (is_in same_marker x (with' same_marker m d)) ≤ out? (is_in same_marker x d)
marked_keeps m x d = rw (in_with same_marker marker_eq x m d) (out_or (same_marker x m) (is_in same_marker x d))

unmarked_falls : (n : ℕ) (m : Marker) (d : List Marker) → unmarked n (with' same_marker m d) ≤ unmarked n d
unfolding unmarked
unmarked_falls zero m d = le_refl _
unmarked_falls (suc n) m d = omega (arith, marked_keeps m (axiom' n) d, unmarked_falls n m d)

unmarked_new : (n k : ℕ) (d : List Marker) → k < n → is_in same_marker (axiom' k) d ≡ false → unmarked n (with' same_marker (axiom' k) d) < unmarked n d
unfolding unmarked
unmarked_new zero k d h e = absurd (not-suc-le-zero h)
unmarked_new (suc n) k d h e = at (λ l. unmarked_new n k d l e) (dec_lt k n)
  where
    is : out? (is_in same_marker (axiom' k) (with' same_marker (axiom' k) d)) ≡ 0
    is = unfold out? in rw (in_with same_marker marker_eq (axiom' k) (axiom' k) d, marker_refl (axiom' k))

    was : out? (is_in same_marker (axiom' k) d) ≡ 1
    was = unfold out? in rw e

    at : (k < n → unmarked n (with' same_marker (axiom' k) d) < unmarked n d) → Dec (k < n)
        → out? (is_in same_marker (axiom' n) (with' same_marker (axiom' k) d)) + unmarked n (with' same_marker (axiom' k) d) < out? (is_in same_marker (axiom' n) d) + unmarked n d
    at f (yes l) = omega (arith, f l, marked_keeps (axiom' k) (axiom' n) d)
    at f (no l) =
        let e : n ≡ k = omega arith in
        rw e (omega (arith, is, was, unmarked_falls k (axiom' k) d))

unmarked_most : (n : ℕ) (d : List Marker) → unmarked n d ≤ n
unfolding unmarked
unmarked_most zero d = le_refl _
unmarked_most (suc n) d = omega (arith, one (is_in same_marker (axiom' n) d), unmarked_most n d)
  where
    one : (b : Bool) → out? b ≤ 1
    one true = unfold out? in omega arith
    one false = unfold out? in le_refl _

-- every state will do
pub body_counts : (p : Program) → Counts bodies p (λ s. Unit {0}) (λ s. unmarked (length p.axioms) s.declarations)
unfolding told missed marked named
body_counts p =
    record {
      send = λ c. record { stays = λ s i. tt; falls = λ s i. le_refl _ };
      miss = record { stays = λ s i. tt; falls = λ s i. le_refl _ };
      mark = λ m. record { stays = λ s i. tt; falls = λ s i. unmarked_falls (length p.axioms) m s.declarations };
      name = λ t x. record { stays = λ s i. tt; falls = λ s i. le_refl _ };
      new = λ k s i h e. unmarked_new (length p.axioms) k s.declarations h e;
      most = λ s. unmarked_most (length p.axioms) s.declarations;
    }
