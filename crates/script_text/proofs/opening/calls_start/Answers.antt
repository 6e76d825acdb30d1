use native.Mathlib.Omega.{arith}
use Rattle.script_text.proofs.Cut.{has_length, has_book}
use Rattle.script_text.proofs.opening.calls_start.Goals as goal

pub word-requires : goal.word-requires
word-requires c = has_length _ c.requires

pub returns : goal.returns
returns c = (omega (arith, c.word.ensures.is), omega arith, omega (arith, c.word.ensures.is, has_book _ c.requires))
