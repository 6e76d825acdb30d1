use mathlib.Core.Path.{ap, ◌∙◌}
use Rattle.basics.specs.Basics.{int2_string}
use Rattle.basics.proofs.Laws.{wrote_as}
use Rattle.basics.proofs.Signs.{held_bits, bits_are}
use Rattle.basics.proofs.decimal.put_int.Goals as goal

pub returns : goal.returns
returns c = wrote_as (ap int2_string (held_bits _ c.ranges.bits (c.cast_signed.ensures ∙ bits_are _))) c.put_i64.ensures
