-- The search, by what it answers: with these laws nobody needs to read `first_named`.
use Prim.Native.Nat.{ℕ, zero, suc, ◌+◌, ◌<◌, ◌≤◌}
use native.Mathlib.Omega.{arith}
use native.Mathlib.Decide.{dec_lt}
use mathlib.Core.Path.{◌≡◌, refl, sym, ap, ◌∙◌}
use mathlib.Core.Bool.{Bool, true, false, not, ◌&&◌, ◌||◌, false≢true}
use mathlib.Core.List.{List, [], ◌∷◌}
use mathlib.Core.Option.{Option, none, some, map, some-injective, none-ne-some, some-ne-none}
use lib.Dec.{eqb}
use lib.ListN.{length, get_or, take}
use Rattle.std.specs.Prelude.{Option as Answer, Some, None, is_some as has_some}
use Rattle.basics.specs.Text.{Text}
use Rattle.basics.proofs.Bool.{and-false}
use Rattle.book.specs.RExpr.{Literal}
use Rattle.rsolver.specs.LevelState.{has_name, name_in}
use Rattle.literals.specs.Search.{named_at, here, first_named, literal_count, gone_through, is_some, Searched, searched, search, is_found, found_value}

-- the code's answer has a term
pub answered : (r : Answer ℕ) → has_some r ≡ is_some (found_value r)
answered (Some k) = refl
answered None = refl

-- a place behind the first
behind : (r : Option ℕ) (k : ℕ) → map suc r ≡ some k → (j : ℕ) × (r ≡ some j) × (k ≡ suc j)
behind none k e = absurd (none-ne-some _ e)
behind (some j) k e = (j, refl, sym (some-injective (suc j) k e))

module _ (name : Text) where
  nowhere : (ls : List (Option Literal)) (levels : List ℕ) (k : ℕ) → length ls ≤ k → named_at name ls levels k ≡ false
  unfolding named_at has_name
  nowhere [] levels k h = and-false (not (eqb (get_or levels k 0) 0))
  nowhere (l ∷ ls) levels zero h = absurd (omega arith)
  nowhere (l ∷ ls) [] (suc k) h = refl
  nowhere (l ∷ ls) (n ∷ levels) (suc k) h = nowhere ls levels k (omega arith)

  -- the answer is a declared literal of that name
  pub found_declares : (ls : List (Option Literal)) (levels : List ℕ) (k : ℕ) → first_named name ls levels ≡ some k → named_at name ls levels k ≡ true
  unfolding first_named named_at
  found_declares [] levels k e = absurd (none-ne-some _ e)
  found_declares (l ∷ ls) [] k e = absurd (none-ne-some _ e)
  found_declares (l ∷ ls) (n ∷ levels) k e = at (found_declares ls levels) (not (eqb n 0) && has_name name l) refl e
    where
      at : ((j : ℕ) → first_named name ls levels ≡ some j → named_at name ls levels j ≡ true) → (t : Bool) → (not (eqb n 0) && has_name name l) ≡ t → here t (first_named name ls levels) ≡ some k → named_at name (l ∷ ls) (n ∷ levels) k ≡ true
      at up true q f = rw (sym (some-injective 0 k f)) q
      at up false q f = let (j, r, i) = behind (first_named name ls levels) k f in rw i (up j r)

  -- none below it is
  pub found_lowest : (ls : List (Option Literal)) (levels : List ℕ) (k : ℕ) → first_named name ls levels ≡ some k → (j : ℕ) → j < k → named_at name ls levels j ≡ false
  unfolding first_named named_at
  found_lowest [] levels k e j h = absurd (none-ne-some _ e)
  found_lowest (l ∷ ls) [] k e j h = absurd (none-ne-some _ e)
  found_lowest (l ∷ ls) (n ∷ levels) k e j h = at (found_lowest ls levels) (not (eqb n 0) && has_name name l) refl e j h
    where
      below : ((i : ℕ) → first_named name ls levels ≡ some i → (j : ℕ) → j < i → named_at name ls levels j ≡ false) → (not (eqb n 0) && has_name name l) ≡ false → (i : ℕ) → first_named name ls levels ≡ some i → k ≡ suc i
          → (j : ℕ) → j < k → named_at name (l ∷ ls) (n ∷ levels) j ≡ false
      below up q i r s zero m = q
      below up q i r s (suc j) m = up i r j (omega arith)

      at : ((i : ℕ) → first_named name ls levels ≡ some i → (j : ℕ) → j < i → named_at name ls levels j ≡ false) → (t : Bool) → (not (eqb n 0) && has_name name l) ≡ t → here t (first_named name ls levels) ≡ some k
          → (j : ℕ) → j < k → named_at name (l ∷ ls) (n ∷ levels) j ≡ false
      at up true q f j m = let z : 0 ≡ k = some-injective 0 k f in absurd (omega arith)
      at up false q f j m = let (i, r, s) = behind (first_named name ls levels) k f in below up q i r s j m

  -- the lowest such term is the answer
  pub first-is : (ls : List (Option Literal)) (levels : List ℕ) (k : ℕ) → named_at name ls levels k ≡ true → ((j : ℕ) → j < k → named_at name ls levels j ≡ false) → first_named name ls levels ≡ some k
  unfolding first_named named_at
  first-is [] levels k e h = absurd (false≢true (sym (nowhere [] levels k (omega arith)) ∙ e))
  first-is (l ∷ ls) [] k e h = absurd (false≢true e)
  first-is (l ∷ ls) (n ∷ levels) zero e h = rw e
  first-is (l ∷ ls) (n ∷ levels) (suc k) e h = rw (h 0 (omega arith), first-is ls levels k e (λ j m. h (suc j) (omega arith)))

  none_is : (ls : List (Option Literal)) (levels : List ℕ) → ((k : ℕ) → named_at name ls levels k ≡ false) → first_named name ls levels ≡ none
  unfolding first_named named_at
  none_is [] levels h = refl
  none_is (l ∷ ls) [] h = refl
  none_is (l ∷ ls) (n ∷ levels) h = rw (h 0, none_is ls levels (λ k. h (suc k)))

  none_named : (ls : List (Option Literal)) (levels : List ℕ) → first_named name ls levels ≡ none → (k : ℕ) → named_at name ls levels k ≡ false
  unfolding first_named named_at
  none_named [] levels e k = nowhere [] levels k (omega arith)
  none_named (l ∷ ls) [] e k = refl
  none_named (l ∷ ls) (n ∷ levels) e k = at (none_named ls levels) (not (eqb n 0) && has_name name l) (first_named name ls levels) refl refl e k
    where
      at : (first_named name ls levels ≡ none → (k : ℕ) → named_at name ls levels k ≡ false) → (t : Bool) (r : Option ℕ) → (not (eqb n 0) && has_name name l) ≡ t → first_named name ls levels ≡ r → here t r ≡ none
          → (k : ℕ) → named_at name (l ∷ ls) (n ∷ levels) k ≡ false
      at up true r q i f k = absurd (some-ne-none _ f)
      at up false (some j) q i f k = absurd (some-ne-none _ f)
      at up false none q i f zero = q
      at up false none q i f (suc k) = up i k

  -- none exactly if no term is
  pub none_exactly : (ls : List (Option Literal)) (levels : List ℕ) → (first_named name ls levels ≡ none → (k : ℕ) → named_at name ls levels k ≡ false) × (((k : ℕ) → named_at name ls levels k ≡ false) → first_named name ls levels ≡ none)
  none_exactly ls levels = (none_named ls levels, none_is ls levels)

  -- a name is declared exactly if one is found
  pub found_named : (ls : List (Option Literal)) (levels : List ℕ) → name_in name ls levels ≡ is_some (first_named name ls levels)
  unfolding name_in first_named
  found_named [] levels = refl
  found_named (l ∷ ls) [] = refl
  found_named (l ∷ ls) (n ∷ levels) = at (not (eqb n 0) && has_name name l) (first_named name ls levels) (found_named ls levels)
    where
      at : (t : Bool) (r : Option ℕ) → name_in name ls levels ≡ is_some r → (t || name_in name ls levels) ≡ is_some (here t r)
      at true r e = refl
      at false none e = e
      at false (some k) e = e

  pub named_by : (ls : List (Option Literal)) (levels : List ℕ) {r : Bool} {v : Searched} → r ≡ is_found v → v ≡ search name ls levels → r ≡ name_in name ls levels
  unfolding search
  named_by ls levels e f = e ∙ ap is_found f ∙ sym (found_named ls levels)

  -- ---- the answer, and how far it went
  pub search_found : (ls : List (Option Literal)) (levels : List ℕ) (k : ℕ) {g : ℕ} → named_at name ls levels k ≡ true → ((j : ℕ) → j < k → named_at name ls levels j ≡ false) → g ≡ literal_count (take (suc k) ls) → searched (some k) g ≡ search name ls levels
  unfolding search gone_through
  search_found ls levels k e h q = rw (first-is ls levels k e h, q)

  pub search_nothing : (ls : List (Option Literal)) (levels : List ℕ) {g : ℕ} → ((k : ℕ) → k < length ls → named_at name ls levels k ≡ false) → g ≡ literal_count ls → searched none g ≡ search name ls levels
  unfolding search gone_through
  search_nothing ls levels h q = rw (none_is ls levels (λ k. at k (dec_lt k (length ls))), q)
    where
      at : (k : ℕ) → Dec (k < length ls) → named_at name ls levels k ≡ false
      at k (yes l) = h k l
      at k (no l) = nowhere ls levels k (omega arith)

-- ---- literals that are counted
pub count_most : (ls : List (Option Literal)) → literal_count ls ≤ length ls
unfolding literal_count
count_most [] = omega arith
count_most (none ∷ ls) = omega (arith, count_most ls)
count_most (some l ∷ ls) = omega (arith, count_most ls)

pub count_next : (ls : List (Option Literal)) (k : ℕ) → k < length ls → literal_count (take (suc k) ls) ≡ literal_count (take k ls) + literal_count (get_or ls k none ∷ [])
unfolding literal_count
count_next [] k h = absurd (omega arith)
count_next (none ∷ ls) zero h = refl
count_next (some l ∷ ls) zero h = refl
count_next (none ∷ ls) (suc k) h = count_next ls k (omega arith)
count_next (some l ∷ ls) (suc k) h = omega (arith, count_next ls k (omega arith))
