-- Room for just an image, or another length.
use Prim.Native.Nat.{ℕ}
use mathlib.Core.Path.{◌≡◌}
use borrow.Author.Tests.{eq-eqb, ne_eqb}
use Rattle.narrow_sessions.specs.Turned.{for_room}

module _ {A : Type 0} (room size : ℕ) (fits other : A) {a : A} where
  pub room_fits : room ≡ size → a ≡ fits → a ≡ for_room room size fits other
  unfolding for_room
  room_fits h e = rw (eq-eqb room size h) e

  pub room_other : ¬ (room ≡ size) → a ≡ other → a ≡ for_room room size fits other
  unfolding for_room
  room_other h e = rw (ne_eqb room size h) e
