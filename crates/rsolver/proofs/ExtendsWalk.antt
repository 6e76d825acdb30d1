-- On a program that extends another, the walk over an expression of the old one does what it did there, levels included: it marks only
-- literals of the old program, so that the places behind them stay 0.
use Prim.Native.Nat.{ℕ, suc}
use mathlib.Core.Path.{◌≡◌, refl, sym, ap, ◌∙◌, subst}
use mathlib.Core.List.{List, []}
use lib.ListN.{length, drop}
use Rattle.book.specs.RExpr.{RExpr, Literal}
use Rattle.book.specs.Program.{Axiom, Program}
use Rattle.book.specs.Extends.{Extends}
use Rattle.book.proofs.Every.{EveryR}
use Rattle.book.proofs.ExtendsNodes.{axiom_at_kept}
use Rattle.rsolver.specs.LevelState.{LevelState, literal_places, place, literal_place, count, name_in, is_declared_at, send, declare_at, miss, levelled}
use Rattle.rsolver.specs.REngine.{declare_literal, declare_new_symbols, walk}
use Rattle.rsolver.proofs.Placed.{MarkerPlaced, LiteralPlaced, placed, PlacedProgram}
use Rattle.rsolver.proofs.Unmarked.{Unmarked, mark_unmarked, literal_unmarked, names_grown}
use Rattle.rsolver.proofs.Related.{Keeps, then_k, Marks, types_k, Alike, SameAxioms, walk_k}

module _ (p q : Program) (x : Extends p q) where
  -- the same state, with nothing marked behind the old program's literals
  pub record Along (s t : LevelState) : Type 0 where
    pub same : s ≡ t
    pub unmarked : Unmarked p t.levels

  marks : Marks (levelled q) (levelled p) Along MarkerPlaced
  unfolding send declare_at
  marks =
      record {
        declared = λ m h s t r. ap (is_declared_at (place m)) r.same;
        send = λ c. record { keeps = λ s t r. record { same = ap (send c) r.same; unmarked = r.unmarked } };
        mark = λ m h. record {
          keeps = λ s t r. record { same = ap (declare_at (place m)) r.same; unmarked = mark_unmarked r.unmarked m h (length t.stack) };
        };
      }

  literal_k : (k : ℕ) (l : Literal) → LiteralPlaced p k l → Keeps Along (declare_at (literal_place k)) (declare_at (literal_place k))
  unfolding declare_at
  literal_k k l h =
      record {
        keeps = λ s t r. record { same = ap (declare_at (literal_place k)) r.same; unmarked = literal_unmarked r.unmarked k l h (length t.stack) };
      }

  alike : Alike (levelled q) (levelled p) Along MarkerPlaced p
  unfolding miss declare_literal
  alike =
      record {
        marks = marks;
        miss = record { keeps = λ s t r. record { same = ap miss r.same; unmarked = r.unmarked } };
        named = λ name s t r.
            ap (λ (u : LevelState). name_in name q.literals (drop literal_places u.levels)) r.same
            ∙ names_grown r.unmarked x name;
        counted = λ s t r. ap (λ (u : LevelState). count u.levels) r.same;
        literal = λ k l h s t r e. (then_k (types_k marks l.typ h.typ) (then_k (marks.send _) (literal_k k l h))).keeps s t r;
      }

  old_axioms : PlacedProgram p → SameAxioms MarkerPlaced q p
  old_axioms P = record { same = λ k h. axiom_at_kept p q x k; explains = P.explains; term = P.axiom_term }

  pub symbols_along : PlacedProgram p → (e : RExpr) → EveryR (placed p) e → (s : LevelState) → Unmarked p s.levels
      → Along (declare_new_symbols (levelled q) q e s) (declare_new_symbols (levelled p) p e s)
  unfolding declare_new_symbols
  symbols_along P e h s u =
      let fuel = suc (length p.axioms) in
      let r = (walk_k alike (old_axioms P) fuel e [] h).keeps s s (record { same = refl; unmarked = u }) in
      subst (λ (l : List Axiom). Along (walk (levelled q) q (suc (length l)) e [] s) (walk (levelled p) p fuel e [] s)) (sym x.same_axioms) r
