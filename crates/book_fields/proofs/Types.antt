-- Type numbers by cases.
use Prim.Native.Nat.{ℕ, ◌+◌, ◌-◌, ◌<◌, ◌≤◌}
use native.Mathlib.Omega.{arith}
use native.Mathlib.Decide.{dec_lt}
use mathlib.Core.Path.{◌≡◌, sym, ◌∙◌}
use mathlib.Core.Bool.{true}
use lib.Dec.{ltb}
use borrow.Author.Tests.{lt-ltb, le-ltb}

pub basic_type : (t n : ℕ) → t ≤ 1 → true ≡ ltb t (2 + n)
basic_type t n h = sym (lt-ltb t (2 + n) (omega arith))

-- a user type is one of the n user types
pub user_type : (t n : ℕ) → 2 ≤ t → ltb (t - 2) n ≡ ltb t (2 + n)
user_type t n h = by (dec_lt t (2 + n))
  where
    by : Dec (t < 2 + n) → ltb (t - 2) n ≡ ltb t (2 + n)
    by (yes l) = lt-ltb (t - 2) n (omega arith) ∙ sym (lt-ltb t (2 + n) l)
    by (no l) = le-ltb (t - 2) n (omega arith) ∙ sym (le-ltb t (2 + n) (omega arith))
