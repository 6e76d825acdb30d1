use Rattle.std.proofs.Common.{◌<◌, length, ap, ◌∙◌, arith}
use Rattle.command_lines.specs.Lines.{line_end}
use Rattle.command_lines.specs.CommandLines.{line_kind}
use Rattle.command_lines.proofs.Cutting.{end_is, end_most}
use Rattle.script_checks.proofs.Reading.{upto_none, upto_next, go_on, go_stop, is-foreign, open_foreign, all_counted}
use Rattle.script_checks.proofs.count_checks.Goals as goal

pub loop-at-init : goal.loop-at-init
loop-at-init c = upto_none _

pub returns-then-end-script : goal.returns-then-end-script
returns-then-end-script c = open_foreign _ _ c.loop-at.invariant c.loop-at-test.true (omega (arith, end_is c.args.script.now c.loop-at.at c.line_at-line.ensures, c.if-end-script.true))

pub returns-in_err-met : goal.returns-in_err-met
returns-in_err-met c =
    let short : line_end c.args.script.now c.loop-at.at < length c.args.script.now =
    omega (arith, end_is c.args.script.now c.loop-at.at c.line_at-line.ensures, c.if-end-script.false, end_most c.args.script.now c.loop-at.at (omega (arith, c.loop-at-test.true))) in
    c.from_residual.ensures ∙ is-foreign _ (go_stop _ _ c.loop-at-test.true short c.loop-at.invariant (c.line_kind.ensures ∙ ap line_kind c.line_at-line.ensures) c.take_turn.ensures c.in_err-met.was)

pub loop-at-preserved : goal.loop-at-preserved
loop-at-preserved c =
    let short : line_end c.args.script.now c.loop-at.at < length c.args.script.now =
    omega (arith, end_is c.args.script.now c.loop-at.at c.line_at-line.ensures, c.if-end-script.false, end_most c.args.script.now c.loop-at.at (omega (arith, c.loop-at-test.true))) in
    upto_next _ _ (end_is c.args.script.now c.loop-at.at c.line_at-line.ensures) (go_on _ _ c.loop-at-test.true short c.loop-at.invariant (c.line_kind.ensures ∙ ap line_kind c.line_at-line.ensures) c.take_turn.ensures c.in_ok-met.was)

pub returns : goal.returns
returns c = all_counted _ c.loop-at.at c.loop-at.invariant (omega (arith, c.loop-at-test.false))
