-- How the test goes: each term that is referred to gets a mark in the scratch.
use Rattle.std.specs.Prelude.{ℕ, ◌*◌, ◌≡◌, List, [], ◌∷◌, Bool, true, not, ◌&&◌, ltb, length}
use Rattle.basics.specs.Bits.{has_number, with_number}
use Rattle.book_forest.specs.Forest.{Reference}

-- A mark is a bit. Only set_mark, is_marked and clear, and the laws of proofs/Stored.antt, open these three.
unfoldable pub is_marked : List ℕ → ℕ → Bool
is_marked m t = has_number m t

unfoldable pub set_mark : List ℕ → ℕ → List ℕ
set_mark m t = with_number m t

-- the terms below this have a mark of their own
unfoldable pub room : List ℕ → ℕ
room m = 8 * length m

-- the references can be marked one after the other: each is to a term below its bound and with no mark yet
unfoldable pub can_mark : List ℕ → List Reference → Bool
can_mark m [] = true
can_mark m (r ∷ rs) = ltb r.term r.bound && not (is_marked m r.term) && can_mark (set_mark m r.term) rs

-- the marks after that
unfoldable pub all_marked : List ℕ → List Reference → List ℕ
all_marked m [] = m
all_marked m (r ∷ rs) = all_marked (set_mark m r.term) rs

-- ok says whether the references could be marked from m on, and if so m' has the marks then
pub record Marked (m : List ℕ) (rs : List Reference) (ok : Bool) (m' : List ℕ) : Type 0 where
  pub is : ok ≡ can_mark m rs
  pub left : ok ≡ true → m' ≡ all_marked m rs
  pub long : length m' ≡ length m
  pub roomy : room m' ≡ room m
