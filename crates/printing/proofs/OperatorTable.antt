-- The table of operator names: one test, computed over the whole table.
use Prim.Native.Nat.{ℕ, ◌≤◌, ◌<◌}
use mathlib.Core.Path.{◌≡◌, refl}
use mathlib.Core.Bool.{Bool, true, ◌&&◌}
use lib.Dec.{leb}
use lib.ListN.{length}
use borrow.Author.Tests.{leb-true}
use Rattle.basics.specs.Text.{same}
use Rattle.basics.specs.Lists.{all_below}
use Rattle.basics.proofs.Bool.{and_both}
use Rattle.basics.proofs.Counting.{below_each}
use Rattle.basics.proofs.Texts.{same_eq}
use Rattle.solver_expr.specs.Operators.{operator_to_string}
use Rattle.printing.specs.Calls.{operator_count, operator_name, names, entry}

-- as many bytes as a name has at most
abbrev width : ℕ
width = 3

unfoldable pub right : ℕ → Bool
right k = leb (length (entry k)) width && same (entry k) (operator_name k)

pub table : all_below operator_count right ≡ true
unfolding all_below right names entry same operator_name operator_to_string
table = refl

-- it has no more names
pub whole : length names ≡ operator_count
unfolding names
whole = refl

module _ (k : ℕ) (h : k < operator_count) where
  checked : (leb (length (entry k)) width ≡ true) × (same (entry k) (operator_name k) ≡ true)
  unfolding right
  checked = and_both (leb (length (entry k)) width) (same (entry k) (operator_name k)) (below_each operator_count right table k h)

  pub short : length (entry k) ≤ width
  short = leb-true (length (entry k)) width checked.0

  pub name_is : entry k ≡ operator_name k
  name_is = same_eq (entry k) (operator_name k) checked.1
