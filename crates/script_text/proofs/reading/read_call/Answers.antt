use native.Mathlib.Omega.{arith}
use Rattle.script_text.specs.Turned.{wants}
use Rattle.script_text.proofs.Shapes.{cut_short, is_ask, no_kind, move_with_term, is_move}
use Rattle.script_text.proofs.reading.read_call.Goals as goal

pub returns-then-calls-at-lt-CALL : goal.returns-then-calls-at-lt-CALL
unfolding wants
returns-then-calls-at-lt-CALL c = cut_short c.args.calls.now c.args.at (omega arith)

pub returns-in-2 : goal.returns-in-2
unfolding wants
returns-in-2 c = is_ask c.args.calls.now c.args.at (omega arith) c.number-kind.ensures c.number-node.ensures c.number-term.ensures c.in-2.is

pub returns-in-1 : goal.returns-in-1
unfolding wants
returns-in-1 c = is_move c.args.calls.now c.args.at (omega arith) c.number-kind.ensures c.number-node.ensures c.number-term.ensures c.in-1.is (omega arith)

pub returns-in_default : goal.returns-in_default
unfolding wants
returns-in_default c = move_with_term c.args.calls.now c.args.at (omega arith) c.number-kind.ensures c.number-node.ensures c.number-term.ensures c.in-1.is (λ e. omega (arith, e))

pub returns-in_default-2 : goal.returns-in_default-2
unfolding wants
returns-in_default-2 c = no_kind c.args.calls.now c.args.at (omega arith) c.number-kind.ensures c.number-node.ensures c.number-term.ensures (λ e. omega (arith, e)) (λ e. omega (arith, e))
