-- With anything behind the axioms and contexts of a book that passes the test, the bodies do the same, from every SolverState: SetContext
-- to a node of the book, and a goal's DeclareNewSymbols.
use Prim.Native.Nat.{ℕ, suc, ◌-◌, ◌≤◌, ◌<◌}
use native.Mathlib.Omega.{arith}
use mathlib.Core.Path.{◌≡◌, refl, ap, ◌∙◌}
use mathlib.Core.List.{List, [], ◌∷◌}
use lib.ListN.{length}
use Rattle.book.specs.RExpr.{RExpr}
use Rattle.book.specs.Program.{Program, Context, node_at}
use Rattle.book.proofs.Every.{EveryR}
use Rattle.rsolver.specs.Step.{◌⨟◌}
use Rattle.rsolver.specs.Methods.{Marker}
use Rattle.rsolver.specs.SolverState.{SolverState, StackItem, bodies, pushed, pop_to, popped}
use Rattle.rsolver.specs.REngine.{assume, declare_new_symbols, enter, set_context}
use Rattle.rsolver.proofs.Placed.{having}
use Rattle.rsolver.proofs.Related.{Keeps, itself, walk_k}
use Rattle.rsolver.proofs.Fewer.{fuel_enough}
use Rattle.rsolver.proofs.Fuel.{body_counts}
use Rattle.solvers.specs.Fallbacks.{Anything, program_or}
use Rattle.solvers.proofs.Good.{Good}
use Rattle.solvers.proofs.PlacedBook.{Bounded}
use Rattle.solvers.proofs.BehindProgram.{same_axioms, more_axioms, node_same, Stacked, set_k}

lower : (items : List StackItem) (t : SolverState) → length (pop_to items t).stack ≡ length items - 1
unfolding pop_to
lower [] t = omega arith
lower (item ∷ items) t = omega arith

stacked : Stacked bodies bodies (λ s t. s ≡ t)
stacked =
    record {
      high = λ s t e. ap bodies.stack_length e;
      top = λ memo s t e. ap (bodies.is_top_memo memo) e;
      pop = λ s t e h. ap popped e;
      lower = λ t. unfold popped in lower t.stack t;
    }

module _ (x : Anything) {Q : Marker → Type 0} {p : Program} (B : Bounded Q p) where
  pub body_goal : (e : RExpr) → EveryR (having Q p) e → (s : SolverState) → declare_new_symbols bodies (program_or x p) e s ≡ declare_new_symbols bodies p e s
  unfolding declare_new_symbols
  body_goal e h s =
      let fuel = suc (length (program_or x p).axioms) in
      (walk_k (itself bodies Q p) (same_axioms x B) fuel e [] h).keeps s s refl
      ∙ fuel_enough (body_counts p) fuel (more_axioms x B) e [] s tt

  enter_k : (n : ℕ) → 0 < n → n ≤ length p.contexts → Keeps (λ s t. s ≡ t) (enter bodies (program_or x p) n) (enter bodies p n)
  unfolding enter ◌⨟◌
  enter_k n h l =
      record {
        keeps = λ s t e.
            ap (λ (c : Context). assume bodies c.expr (declare_new_symbols bodies (program_or x p) c.expr (pushed n s))) (node_same x p n h l)
            ∙ ap (assume bodies (node_at p n).expr) (body_goal (node_at p n).expr (B.has.node n) (pushed n s))
            ∙ ap (λ (u : SolverState). assume bodies (node_at p n).expr (declare_new_symbols bodies p (node_at p n).expr (pushed n u))) e;
      }

  pub body_move : Good p → (n : ℕ) → n ≤ length p.contexts → (s : SolverState) → set_context bodies (program_or x p) n s ≡ set_context bodies p n s
  body_move G n l s = (set_k x p G stacked enter_k n l).keeps s s refl
