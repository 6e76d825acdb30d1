use Rattle.std.proofs.Common.{sym, ◌∙◌}
use Rattle.script_text.proofs.Running.{ended}
use Rattle.script.proofs.run_calls.Goals as goal

pub returns : goal.returns
returns g c = sym (ended c.args.book.now c.args.calls.now c.loop-at.at c.loop-at.session c.loop-at-test.false) ∙ c.loop-at.invariant.0
