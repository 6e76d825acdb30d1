use mathlib.Core.Path.{◌∙◌}
use Rattle.basics.proofs.Laws.{wrote_as}
use Rattle.basics.proofs.Digits.{nat_decimal}
use Rattle.basics.proofs.decimal.put_u64.Goals as goal

pub returns : goal.returns
returns c = wrote_as (c.as_bytes.ensures.value ∙ c.format.ensures.text ∙ nat_decimal _ c.ranges.n.fits) c.put_all.ensures
