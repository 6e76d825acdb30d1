use native.Mathlib.Omega.{arith}
use Rattle.script_text.proofs.Cut.{too_long, no_length, book_cut}
use Rattle.script_text.proofs.opening.is_cut.Goals as goal

pub returns-then-length-gt-INPUT_MOST : goal.returns-then-length-gt-INPUT_MOST
returns-then-length-gt-INPUT_MOST c = too_long _ (omega arith)

pub returns-then-length-lt-NUMBER : goal.returns-then-length-lt-NUMBER
returns-then-length-lt-NUMBER c = no_length _ (omega arith) (omega arith)

pub returns : goal.returns
returns c = book_cut _ (omega arith) (omega arith) (omega (arith, c.word.ensures.is))
