use Rattle.basics.proofs.Bool.{passed, failed}
use Rattle.symbols.proofs.Tests.{simple_empty, simple_digit, simple_other, simple_word}
use Rattle.std.proofs.lemmas.Bool.{not_from_false, not_from_true}
use Rattle.symbols.proofs.names.is_simple.Goals as goal

pub returns-then-name-eq0 : goal.returns-then-name-eq0
returns-then-name-eq0 c = simple_empty _ c.if-name-eq0.true

pub returns-then-digit : goal.returns-then-digit
returns-then-digit c = simple_digit _ c.if-name-eq0.false c.digit.ensures c.if-digit.true

pub returns-then-not-all_letters : goal.returns-then-not-all_letters
returns-then-not-all_letters c = simple_other _ c.if-name-eq0.false c.digit.ensures c.if-digit.false (failed c.all_letters.ensures (not_from_false _ c.if-not-all_letters.true))

pub returns : goal.returns
returns c = simple_word _ c.if-name-eq0.false c.digit.ensures c.if-digit.false (passed c.all_letters.ensures (not_from_true _ c.if-not-all_letters.false)) c.is_reserved.ensures
