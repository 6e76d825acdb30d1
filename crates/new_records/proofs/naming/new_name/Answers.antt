use mathlib.Core.Path.{sym, ◌∙◌}
use Rattle.new_records.proofs.Names.{stands_first, stands_second, stands_nowhere}
use Rattle.new_records.proofs.naming.new_name.Goals as goal

pub returns-then-stands : goal.returns-then-stands
returns-then-stands c = stands_first c.args.all c.args.text.now c.args.before.now (sym c.stands.ensures ∙ c.if-stands.true)

pub returns-then-stands-2 : goal.returns-then-stands-2
returns-then-stands-2 c = stands_second c.args.all c.args.text.now c.args.before.now c.counted.ensures (sym c.stands.ensures ∙ c.if-stands.false) (sym c.stands-2.ensures ∙ c.if-stands-2.true)

pub returns : goal.returns
returns c = stands_nowhere c.args.all c.args.text.now c.args.before.now c.counted.ensures c.counted-2.ensures (sym c.stands.ensures ∙ c.if-stands.false) (sym c.stands-2.ensures ∙ c.if-stands-2.false)
