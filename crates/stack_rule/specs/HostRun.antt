-- A list of events as the host sees it: it holds the book that it took last and the session's image, and takes of each buffer as many
-- bytes as the answer says. Proved to be the list of events of Events (proofs/HostRun.antt), so that the stack rule speaks of the images.
use Rattle.std.specs.Prelude.{ℕ, List, [], ◌∷◌, ◌++◌}
use Rattle.basics.specs.Text.{Text}
use Rattle.book.specs.Book.{Book}
use Rattle.book_writer.specs.Writing.{grow_call, took}
use Rattle.solvers.specs.Session.{fresh_session}
use Rattle.solvers.specs.Image.{write_image, ImageLeft, called_on_image}
use Rattle.solvers.specs.Taken.{taken}
use Rattle.stack_rule.specs.Events.{Event, calls, writes}

pub record HostTrace : Type 0 where
  pub book : Book
  pub image : List ℕ
  pub text : Text

unfoldable pub host_after : HostTrace → ImageLeft → HostTrace
host_after t l = record { book = t.book; image = l.image; text = t.text ++ taken l.answer l.text }

unfoldable pub host_happens : HostTrace → Event → HostTrace
host_happens t (calls c) = host_after t (called_on_image t.book t.image c)
host_happens t (writes x) = record { book = took t.book (grow_call t.book x); image = t.image; text = t.text }

unfoldable pub host_run_from : HostTrace → List Event → HostTrace
host_run_from t [] = t
host_run_from t (e ∷ es) = host_run_from (host_happens t e) es

unfoldable pub host_run : Book → List Event → HostTrace
host_run b es = host_run_from (record { book = b; image = write_image fresh_session; text = [] }) es
