-- The laws of marks. Behind these nothing knows how a mark is stored.
use Prim.Native.Nat.{ℕ, ◌*◌, ◌<◌, ◌≤◌}
use mathlib.Core.Path.{◌≡◌, ap}
use mathlib.Core.Bool.{true, false}
use mathlib.Core.List.{List}
use lib.ListN.{length, replicate}
use Rattle.basics.proofs.Bits.{length_with, has_joined, has_other, has_none}
use Rattle.book_forest.specs.Marks.{is_marked, set_mark, room}

module _ (m : List ℕ) (t : ℕ) where
  pub marked_same : t < room m → is_marked (set_mark m t) t ≡ true
  unfolding is_marked set_mark room
  marked_same l = has_joined m t l

  pub marked_other : (k : ℕ) → (k ≡ t → ⊥) → is_marked (set_mark m t) k ≡ is_marked m k
  unfolding is_marked set_mark
  marked_other k n = has_other m t k n

  pub room_marked : room (set_mark m t) ≡ room m
  unfolding set_mark room
  room_marked = ap (λ (n : ℕ). 8 * n) (length_with m t)

  pub length_marked : length (set_mark m t) ≡ length m
  unfolding set_mark
  length_marked = length_with m t

-- no term is marked where all is 0
pub none_marked : (n k : ℕ) → is_marked (replicate n 0) k ≡ false
unfolding is_marked
none_marked n k = has_none n k

-- a scratch has room for eight marks in each byte
pub room_enough : (n : ℕ) (m : List ℕ) → n ≤ 8 * length m → n ≤ room m
unfolding room
room_enough n m h = h
