-- What a call gives: a refusal's number, or an answer. A `do` block lists the refusals in their order: the first that holds decides.
use Rattle.std.specs.Prelude.{ℕ, Bool, true, false}

pub data Outcome (A : Type 0) : Type 0 where
  refused : ℕ → Outcome A
  accepted : A → Outcome A

unfoldable pub refuse : ℕ → Bool → Outcome (Unit {0})
refuse n true = refused n
refuse n false = accepted tt

infixr 20 ◌>>◌
unfoldable pub ◌>>◌ : {A : Type 0} → Outcome (Unit {0}) → Outcome A → Outcome A
refused n >> next = refused n
accepted u >> next = next

-- the answer, by a function of it
unfoldable pub map_outcome : {A B : Type 0} → (A → B) → Outcome A → Outcome B
map_outcome f (refused n) = refused n
map_outcome f (accepted a) = accepted (f a)
