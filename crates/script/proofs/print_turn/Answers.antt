use Rattle.std.proofs.Common.{ℕ, ◌≡◌, ◌<◌, length, drop}
use Rattle.std.proofs.lemmas.Result.{IfOk-weaker}
use Rattle.script_text.specs.Script.{run}
use Rattle.script_text.specs.Turned.{next_place}
use Rattle.script_text.proofs.Running.{goes_on, further}
use Rattle.script.proofs.print_turn.Goals as goal

pub returns-clause-ok : goal.returns-clause-ok
returns-clause-ok g c =
    let b = c.args.book.now in
    let calls = c.args.calls.now in
    let more = c.call_turn-turn.result.more in
    let s = c.call_turn-turn.new.s in
    IfOk-weaker c.print_texts.result (λ (k : ℕ). k ≡ next_place more c.args.at (length calls))
    (λ (k : ℕ). ((run b (drop k calls) s).session ≡ (run b (drop c.args.at calls) c.args.s.now).session) × (c.args.at < k))
    (λ k e. (goes_on b calls c.args.at c.args.s.now c.requires.0 c.call_turn-turn.ensures e, further b calls more c.requires.0 e)) c.print_texts.ensures.ok
