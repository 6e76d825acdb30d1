-- How many levels the book gives for a node and a question.
use Prim.Native.Nat.{ℕ, zero, suc, ◌+◌}
use native.Mathlib.Omega.{arith}
use mathlib.Core.Path.{◌≡◌, refl, ap}
use mathlib.Core.List.{List, [], ◌∷◌}
use lib.ListN.{length}
use Rattle.book.specs.RExpr.{RExpr}
use Rattle.book.specs.Book.{Book}
use Rattle.book.specs.Program.{Program, path, depth}
use Rattle.book.specs.Decode.{term, program}
use Rattle.smt_engines.specs.Reader.{Stack, height}
use Rattle.solvers.specs.declared.Owed.{Owed}
use Rattle.solvers.specs.declared.Owed.TheVariants.{Nothing, Reply, Model}
use Rattle.solvers.specs.Rule.{levels_of, goal_levels, levels_for, question_levels, Present, must_live}

path_height : (p : Program) (ns : List ℕ) → height (levels_of p ns) ≡ suc (length ns)
unfolding height levels_of
path_height p [] = refl
path_height p (n ∷ ns) = ap suc (path_height p ns)

for_height : (p : Program) (o : Owed) (n : ℕ) (e : RExpr) → height (levels_for p o n e) ≡ question_levels o + suc (depth p n)
unfolding height levels_for goal_levels question_levels depth
for_height p Nothing n e = omega (arith, path_height p (path p n))
for_height p Reply n e = omega (arith, path_height p (path p n))
for_height p Model n e = omega (arith, path_height p (path p n))

pub live_height : (b : Book) (w : Present) → height (must_live b w) ≡ question_levels w.owed + suc (depth (program b) w.node)
unfolding must_live
live_height b w = for_height (program b) w.owed w.node (term b w.goal)
