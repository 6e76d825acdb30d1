use Rattle.std.proofs.Common.{arith}
use Rattle.number_lists.proofs.Numbers.{counted}
use Rattle.number_lists.proofs.number_count.Goals as goal

pub returns : goal.returns
returns c = omega (arith, c.div_ceil.ensures, (counted c.args.list.now).reach, (counted c.args.list.now).close)
