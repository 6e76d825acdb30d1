use native.Mathlib.Omega.{arith}
use mathlib.Core.Path.{◌∙◌}
use Rattle.symbols.proofs.LetterTable.{letter}
use Rattle.symbols.proofs.letters.symbol_letter.Goals as goal

pub returns : goal.returns
returns c = c.in_masks.ensures ∙ letter _ (omega arith)
