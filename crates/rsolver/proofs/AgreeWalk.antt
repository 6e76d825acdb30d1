-- DeclareNewSymbols takes states that agree, inside a level, to states that agree; so do the assumptions.
use Prim.Native.Nat.{ℕ, ◌<◌}
use mathlib.Core.Path.{◌≡◌, refl}
use mathlib.Core.List.{[]}
use mathlib.Core.Bool.{Bool, true, false}
use lib.ListN.{length}
use Rattle.basics.specs.Text.{same}
use Rattle.book.specs.SType.{SType, SBool, SInt, SUserType}
use Rattle.book.specs.RExpr.{RExpr, Literal}
use Rattle.book.specs.Program.{Program}
use Rattle.book.proofs.Every.{EveryR}
use Rattle.solver_expr.specs.Lowering.{literal_name}
use Rattle.smt_engines.specs.Command.{Command, DeclareLiteral}
use Rattle.rsolver.specs.Step.{skip, ◌⨟◌, do_unless, unless}
use Rattle.rsolver.specs.Methods.{Marker, type}
use Rattle.rsolver.specs.LevelState.{LevelState, levelled, place, send, declare_at, miss}
use Rattle.rsolver.specs.SolverState.{SolverState, bodies, same_marker, is_in, told, marked, missed}
use Rattle.rsolver.specs.REngine.{declare_type, declare_literal, assume, assume_not, declare_new_types, declare_new_symbols}
use Rattle.rsolver.proofs.Placed.{MarkerPlaced, LiteralPlaced, placed, PlacedProgram}
use Rattle.rsolver.proofs.Related.{Keeps, then_k, Marks, types_k, Alike, walk_k}
use Rattle.rsolver.proofs.Related
use Rattle.rsolver.proofs.Agree.{Agree, agree_declared, agree_named, agree_count, agree_send, agree_miss, agree_mark, agree_name}

-- DeclareNewTypes leaves the names as they are
types_names : (typ : SType) (t : SolverState) → (declare_new_types bodies typ t).additional_declared_names ≡ t.additional_declared_names
unfolding declare_new_types declare_type skip ◌⨟◌ unless do_unless told marked
types_names SBool t = refl
types_names SInt t = refl
types_names (SUserType decl) t = at (is_in same_marker (type decl.number) t.declarations)
  where
    at : (b : Bool) → (do_unless b (declare_type bodies decl) t).additional_declared_names ≡ t.additional_declared_names
    at true = refl
    at false = refl

module _ (p : Program) where
  -- they agree, inside a level
  pub record Inside (s : LevelState) (t : SolverState) : Type 0 where
    pub agree : Agree p s t
    pub deep : 0 < length s.stack

  pub send_k : (c : Command) → Keeps Inside (send c) (told c)
  unfolding send
  send_k c = record { keeps = λ s t r. record { agree = agree_send r.agree c; deep = r.deep } }

  miss_k : Keeps Inside miss missed
  unfolding miss
  miss_k = record { keeps = λ s t r. record { agree = agree_miss r.agree; deep = r.deep } }

  mark_k : (m : Marker) → MarkerPlaced m → Keeps Inside (declare_at (place m)) (marked m)
  unfolding declare_at
  mark_k m h = record { keeps = λ s t r. record { agree = agree_mark r.agree r.deep m h; deep = r.deep } }

  marks : Marks (levelled p) bodies Inside MarkerPlaced
  marks = record { declared = λ m h s t r. agree_declared r.agree m h; send = send_k; mark = mark_k }

  literal_k : (k : ℕ) (l : Literal) → LiteralPlaced p k l
      → (s : LevelState) (t : SolverState) → Inside s t → is_in same (literal_name l) t.additional_declared_names ≡ false
      → Inside ((declare_new_types (levelled p) l.typ ⨟ declare_literal (levelled p) k l) s) ((declare_new_types bodies l.typ ⨟ declare_literal bodies k l) t)
  unfolding declare_literal ◌⨟◌ declare_at send told
  literal_k k l h s t r e =
      let i = (then_k (types_k marks l.typ h.typ) (send_k (DeclareLiteral l))).keeps s t r in
      record { agree = agree_name i.agree i.deep k l h (rw (types_names l.typ t) e); deep = i.deep }

  alike : Alike (levelled p) bodies Inside MarkerPlaced p
  alike =
      record {
        marks = marks;
        miss = miss_k;
        named = λ name s t r. agree_named r.agree name;
        counted = λ s t r. agree_count r.agree;
        literal = literal_k;
      }

  pub assume_k : (e : RExpr) → Keeps Inside (assume (levelled p) e) (assume bodies e)
  assume_k e = Related.assume_k alike e

  pub assume_not_k : (e : RExpr) → Keeps Inside (assume_not (levelled p) e) (assume_not bodies e)
  assume_not_k e = Related.assume_not_k alike e

  pub symbols_k : PlacedProgram p → (e : RExpr) → EveryR (placed p) e → Keeps Inside (declare_new_symbols (levelled p) p e) (declare_new_symbols bodies p e)
  unfolding declare_new_symbols
  symbols_k P e h = walk_k alike (record { same = λ k i. refl; explains = P.explains; term = P.axiom_term }) _ e [] h
