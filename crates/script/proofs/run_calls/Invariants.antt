use Rattle.std.proofs.Common.{length, ◌-◌, ◌≡◌, drop}
use Rattle.script_text.specs.Script.{text_size, run}
use Rattle.script_text.specs.Turned.{Desk}
use Rattle.solvers.specs.Session.{fresh_session}
use Rattle.script.proofs.run_calls.Given as goal

-- what is left to run ends in the session that is returned
abbrev pub invariant-loop-at : goal.invariant-loop-at
invariant-loop-at g l =
    ((run l.book (drop l.at l.calls) l.session).session ≡ (run l.book l.calls fresh_session).session) × Desk l.scratch l.text × (length l.closing ≡ text_size)

abbrev pub decreases-loop-at : goal.decreases-loop-at
decreases-loop-at g l = length l.calls - l.at
