use Rattle.std.proofs.Common.{◌≡◌, ◌-◌, length, take, drop, sym, ◌∙◌}
use Rattle.std.proofs.lemmas.Result.{IfOk-weaker}
use Rattle.solvers.specs.declared.Session.{Session}
use Rattle.solvers.specs.Session.{fresh_session}
use Rattle.script_text.specs.Script.{number_size, last_session, run}
use Rattle.script_text.proofs.Running.{last_cut, last_run}
use Rattle.script.proofs.print_script.Goals as goal

pub returns-then-is_cut : goal.returns-then-is_cut
returns-then-is_cut g c = c.fresh.ensures ∙ last_cut _ (sym c.is_cut.ensures ∙ c.if-is_cut.true)

pub returns : goal.returns
returns g c =
    let input = c.args.input.now in
    let at = c.calls_start-at.result in
    IfOk-weaker c.run_calls.result
    (λ (s : Session). s ≡ (run (take (at - number_size) (drop number_size input)) (take (length input - at) (drop at input)) fresh_session).session)
    (λ (s : Session). s ≡ last_session input) (λ s e. e ∙ last_run input (sym c.is_cut.ensures ∙ c.if-is_cut.false) c.calls_start-at.ensures.0) c.run_calls.ensures
