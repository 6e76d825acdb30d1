-- One program behind which another goes on.
use Rattle.std.specs.Prelude.{◌≡◌, List, ◌++◌}
use Rattle.std.proofs.Math.Option.{Option}
use Rattle.book.specs.RExpr.{Literal}
use Rattle.book.specs.Program.{Context, Program}

-- q has p's axioms, and p's literals and contexts with more behind
pub record Extends (p q : Program) : Type 0 where
  pub same_axioms : q.axioms ≡ p.axioms
  pub new_literals : List (Option Literal)
  pub more_literals : q.literals ≡ p.literals ++ new_literals
  pub new-contexts : List Context
  pub more_contexts : q.contexts ≡ p.contexts ++ new-contexts
