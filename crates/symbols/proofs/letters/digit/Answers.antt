use Rattle.symbols.specs.Symbols.{is_digit}
use Rattle.symbols.proofs.letters.digit.Goals as goal

pub returns : goal.returns
unfolding is_digit
returns c = c.is_ascii_digit.ensures.value
