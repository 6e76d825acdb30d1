-- What an outcome tells that is accepted, or refused.
use Prim.Native.Nat.{ℕ}
use mathlib.Core.Path.{◌≡◌, sym, ap}
use mathlib.Core.Bool.{Bool, true, false, false≢true}
use Rattle.basics.specs.Outcome.{Outcome, refused, accepted, map_outcome}

is_accepted : {A : Type 0} → Outcome A → Bool
is_accepted (refused k) = false
is_accepted (accepted a) = true

pub not_both : {A : Type 0} {k : ℕ} {a : A} → refused k ≡ accepted a → ⊥
unfolding is_accepted
not_both e = false≢true (ap is_accepted e)

-- an answer by its values is refused as the outcome is
pub refused_alike : {A B : Type 0} (f : A → B) (o : Outcome A) {k : ℕ} → map_outcome f o ≡ refused k → o ≡ refused k
unfolding map_outcome
refused_alike f (refused j) e = cc
refused_alike f (accepted a) e = absurd (not_both (sym e))
