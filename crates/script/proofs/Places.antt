-- The place of the next call, by the turn's flag.
use Prim.Native.Nat.{ℕ, ◌+◌}
use mathlib.Core.Path.{◌≡◌}
use mathlib.Core.Bool.{Bool, true, false}
use Rattle.script_text.specs.Script.{call_size}
use Rattle.script_text.specs.Turned.{next_place}

module _ {more : Bool} (at n : ℕ) where
  pub next_call : more ≡ true → at + call_size ≡ next_place more at n
  unfolding next_place
  next_call e = rw e

  pub stops_at : more ≡ false → n ≡ next_place more at n
  unfolding next_place
  stops_at e = rw e
