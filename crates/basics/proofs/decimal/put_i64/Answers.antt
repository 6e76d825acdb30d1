use mathlib.Core.Path.{◌∙◌}
use mir.Syntax.{w64}
use mir.ValLaws.{to_z-of_z}
use Rattle.basics.proofs.Laws.{wrote_as}
use Rattle.basics.proofs.Digits.{int_decimal}
use Rattle.basics.proofs.decimal.put_i64.Goals as goal

pub returns : goal.returns
returns c = wrote_as (c.as_bytes.ensures.value ∙ c.format.ensures.text ∙ rw (to_z-of_z w64 _ c.ranges.x) (int_decimal _ c.ranges.x)) c.put_all.ensures
