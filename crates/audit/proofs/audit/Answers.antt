use Rattle.solvers.proofs.Returned.{stops, passes, book_good}
use Rattle.audit.proofs.Ladder.{call_stops, call_passes}
use Rattle.audit.proofs.audit.Goals as goal

pub audit_in-requires : goal.audit_in-requires
audit_in-requires c = book_good _ _ c.book_test.ensures.0 c.in-Ok.is

pub returns-in-Err : goal.returns-in-Err
returns-in-Err c = call_stops _ _ _ _ c.book_test.ensures.1 c.with_script.result _ (stops _ _ c.book_test.ensures.0 c.in-Err.is) c.with_script.ensures

pub returns-in-Ok : goal.returns-in-Ok
returns-in-Ok c = call_passes _ _ _ _ c.book_test.ensures.1 c.audit_in.result (passes _ _ c.book_test.ensures.0 c.in-Ok.is) c.audit_in.ensures
