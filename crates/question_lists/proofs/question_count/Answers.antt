use native.Mathlib.Omega.{arith}
use Rattle.question_lists.proofs.Places.{counted}
use Rattle.number_lists.specs.Numbers.{numbers}
use Rattle.question_lists.proofs.question_count.Goals as goal

pub returns : goal.returns
returns c = omega (arith, c.number_count.ensures, c.div_ceil.ensures, (counted (numbers c.args.list.now)).reach, (counted (numbers c.args.list.now)).close)
