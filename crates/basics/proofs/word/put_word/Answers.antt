use native.Mathlib.Omega.{arith}
use mathlib.Core.Path.{◌∙◌}
use Rattle.basics.specs.Bytes.{bytes4}
use Rattle.basics.proofs.Places.{at_as}
use Rattle.basics.proofs.word.put_word.Goals as goal

pub returns : goal.returns
unfolding bytes4
returns c = at_as (c.to_le_bytes-bytes.ensures ∙ grind arith) c.put_at.ensures
