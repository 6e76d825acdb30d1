-- A list of refusals, walked once: what holds of each refusal but one number, and of what comes behind them, holds of the call.
use Prim.Native.Nat.{ℕ}
use mathlib.Core.Path.{◌≡◌, refl}
use mathlib.Core.Bool.{Bool, true, false}
use Rattle.basics.specs.Outcome.{Outcome, accepted, refused, refuse, ◌>>◌}

-- not refused with this number
abbrev pub NotNumber : {A : Type 0} → ℕ → Outcome A → Type 0
NotNumber n (refused k) = k ≡ n → ⊥
NotNumber n (accepted a) = Unit {0}

module _ {A : Type 0} {n : ℕ} (P : Outcome A → Type 0) (no : (k : ℕ) → (k ≡ n → ⊥) → P (refused k)) where
  pub guarded : (k : ℕ) (x : Bool) (rest : Outcome A) → (k ≡ n → ⊥) → (x ≡ false → P rest) → P (refuse k x >> rest)
  unfolding refuse ◌>>◌
  guarded k true rest h f = no k h
  guarded k false rest h f = f refl

  pub passing : (o : Outcome (Unit {0})) (rest : Outcome A) → NotNumber n o → (o ≡ accepted tt → P rest) → P (o >> rest)
  unfolding ◌>>◌
  passing (refused k) rest h f = no k h
  passing (accepted tt) rest h f = f refl

-- a refusal that may be met, and one that is not
module _ {A : Type 0} (P : Outcome A → Type 0) (k : ℕ) where
  pub may : (x : Bool) (rest : Outcome A) → P (refused k) → P rest → P (refuse k x >> rest)
  unfolding refuse ◌>>◌
  may true rest h r = h
  may false rest h r = r

  pub past : {x : Bool} (rest : Outcome A) → x ≡ false → P rest → P (refuse k x >> rest)
  unfolding refuse ◌>>◌
  past rest e r = rw e r
