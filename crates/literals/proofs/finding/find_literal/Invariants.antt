use Prim.Native.Nat.{ℕ, ◌<◌}
use mathlib.Core.Bool.{false}
use mathlib.Core.Path.{◌≡◌}
use Rattle.book.specs.Book.{terms, size}
use Rattle.literal_names.specs.Names.{barred}
use Rattle.literals.specs.Literals.{declares_name}
use Rattle.literals.proofs.Going.{gone_before}
use Rattle.literals.proofs.finding.find_literal.Given as goal

abbrev pub invariant-loop-k : goal.invariant-loop-k
invariant-loop-k l = (l.k-end ≡ size l.book terms) × (l.gone ≡ gone_before l.book l.k) × ((j : ℕ) → j < l.k → declares_name l.book (barred l.s l.typ) l.levels j ≡ false)
