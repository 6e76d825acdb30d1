use Rattle.basics.proofs.Bool.{failed}
use Rattle.symbols.proofs.WordTable.{empty_none, long_none, first_none, last_none}
use Rattle.std.proofs.lemmas.Bool.{not_from_false}
use Rattle.symbols.proofs.words.is_reserved.Goals as goal

pub returns-then-n-eq0 : goal.returns-then-n-eq0
returns-then-n-eq0 c = empty_none _ c.if-n-eq0.true

pub returns-then-n-gt-LONGEST : goal.returns-then-n-gt-LONGEST
returns-then-n-gt-LONGEST c = long_none _ c.if-n-gt-LONGEST.true

pub returns-then-not-in_masks : goal.returns-then-not-in_masks
returns-then-not-in_masks c = first_none _ (failed c.in_masks.ensures (not_from_false _ c.if-not-in_masks.true))

pub returns-then-not-in_masks-2 : goal.returns-then-not-in_masks-2
returns-then-not-in_masks-2 c = last_none _ (failed c.in_masks-2.ensures (not_from_false _ c.if-not-in_masks-2.true))
