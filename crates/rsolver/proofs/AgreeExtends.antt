-- States that agree on a program agree on one that extends it, where nothing is marked behind the old program's literals.
use Prim.Native.Nat.{ℕ, suc}
use mathlib.Core.Path.{◌∙◌}
use mathlib.Core.List.{List}
use lib.ListN.{length}
use Rattle.basics.specs.Text.{Text}
use Rattle.book.specs.Program.{Program}
use Rattle.rsolver.specs.Methods.{Marker}
use Rattle.rsolver.specs.LevelState.{LevelState}
use Rattle.rsolver.specs.SolverState.{StackItem, SolverState}
use Rattle.book.specs.Extends.{Extends}
use Rattle.rsolver.proofs.Agree.{Matches, Stacked, bottom, above, Agree}
use Rattle.rsolver.proofs.Unmarked.{Unmarked, forget_unmarked, names_grown}

module _ {p q : Program} (x : Extends p q) where
  matches_grown : {ls : List ℕ} {d : List Marker} {n : List Text} → Unmarked p ls → Matches p ls d n → Matches q ls d n
  matches_grown u M = record { declared = M.declared; names = λ name. names_grown u x name ∙ M.names name; counted = M.counted }

  stacked_grown : {ls : List ℕ} {items : List StackItem} → Unmarked p ls → Stacked p ls items → Stacked q ls items
  stacked_grown u bottom = bottom
  stacked_grown u (above {items = items} M S) =
      let v = forget_unmarked u (suc (length items)) in
      above (matches_grown v M) (stacked_grown v S)

  pub agree_grown : {s : LevelState} {t : SolverState} → Unmarked p s.levels → Agree p s t → Agree q s t
  agree_grown u a =
      record {
        memos = a.memos;
        missing = a.missing;
        sent = a.sent;
        wide = a.wide;
        within = a.within;
        here = matches_grown u a.here;
        below = stacked_grown u a.below;
      }
