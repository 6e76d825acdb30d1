-- With anything behind the levels, the axioms and the contexts of a book that passes the test, what a call does on the session's form of
-- the state is the same, from every state whose levels have all their places: SetContext to a node, and a goal's DeclareNewSymbols.
use Prim.Native.Nat.{ℕ, zero, suc, ◌-◌, ◌≤◌, ◌<◌}
use native.Mathlib.Nat.{le_of_suc-le-suc, not-suc-le-zero}
use native.Mathlib.Omega.{arith}
use mathlib.Core.Path.{◌≡◌, refl, sym, ap, ◌∙◌}
use mathlib.Core.Bool.{Bool, not, ◌&&◌, ◌||◌}
use mathlib.Core.Option.{Option}
use mathlib.Core.List.{List, [], ◌∷◌, tail}
use lib.Dec.{eqb}
use lib.ListN.{length, get_or, drop, length-drop}
use Rattle.basics.specs.Text.{Text}
use Rattle.book.specs.RExpr.{RExpr, Literal}
use Rattle.book.specs.Program.{Program, Context, node_at}
use Rattle.book.proofs.Every.{EveryR}
use Rattle.smt_engines.specs.Command.{Command, DeclareLiteral}
use Rattle.rsolver.specs.Step.{◌⨟◌}
use Rattle.rsolver.specs.Methods.{Marker}
use Rattle.rsolver.specs.LevelState.{LevelState, level_count, literal_places, place, literal_place, join_at, has_name, name_in, count, is_top, is_declared_at, levelled, push, pop, send, miss, declare_at}
use Rattle.rsolver.specs.REngine.{declare_literal, assume, declare_new_symbols, walk, enter, set_context}
use Rattle.rsolver.proofs.AgreeLists.{length_join, length_forget}
use Rattle.rsolver.proofs.Placed.{LiteralHas, having, place_below}
use Rattle.rsolver.proofs.Related.{Keeps, then_k, Marks, types_k, Alike, assume_k, walk_k}
use Rattle.rsolver.proofs.Fewer.{fuel_enough}
use Rattle.rsolver.proofs.Fuel.{counts}
use Rattle.solvers.specs.Fallbacks.{Anything, join_or, name_or, declare_or, pop_or, levelled_or, program_or}
use Rattle.solvers.proofs.Good.{Good}
use Rattle.solvers.proofs.PlacedBook.{Bounded}
use Rattle.solvers.proofs.BehindProgram.{same_axioms, more_axioms, node_same, Stacked, set_k}

get_inside : {A : Type 0} (l : List A) (k : ℕ) (d e : A) → k < length l → get_or l k d ≡ get_or l k e
get_inside [] k d e h = absurd (not-suc-le-zero h)
get_inside (a ∷ l) zero d e h = refl
get_inside (a ∷ l) (suc k) d e h = get_inside l k d e (le_of_suc-le-suc h)

module _ (x : Anything) where
  join_inside : (ls : List ℕ) (k n : ℕ) → k < length ls → join_or x ls k n ≡ join_at ls k n
  unfolding join_or join_at
  join_inside [] k n h = absurd (not-suc-le-zero h)
  join_inside (zero ∷ ls) zero n h = refl
  join_inside (suc l ∷ ls) zero n h = refl
  join_inside (zero ∷ ls) (suc k) n h = ap {B = List ℕ} (λ r. zero ∷ r) (join_inside ls k n (le_of_suc-le-suc h))
  join_inside (suc l ∷ ls) (suc k) n h = ap {B = List ℕ} (λ r. suc l ∷ r) (join_inside ls k n (le_of_suc-le-suc h))

  name_inside : (name : Text) (ts : List (Option Literal)) (ls : List ℕ) → length ts ≤ length ls → name_or x name ts ls ≡ name_in name ts ls
  unfolding name_or name_in
  name_inside name [] ls h = refl
  name_inside name (t ∷ ts) [] h = absurd (not-suc-le-zero h)
  name_inside name (t ∷ ts) (l ∷ ls) h = ap {B = Bool} (λ r. not (eqb l 0) && has_name name t || r) (name_inside name ts ls (le_of_suc-le-suc h))

  -- ---- the levels: one state, with all its places
  record Here (s t : LevelState) : Type 0 where
    same : s ≡ t
    wide : length t.levels ≡ level_count

  module _ {Q : Marker → Type 0} {p : Program} (B : Bounded Q p) where
    mark_h : (k : ℕ) → k < level_count → Keeps Here (declare_or x k) (declare_at k)
    unfolding declare_or declare_at
    mark_h k h =
        record {
          keeps = λ s t r.
              record {
                same =
                    ap (declare_or x k) r.same
                    ∙ (λ i. record { stack = t.stack; levels = join_inside t.levels k (length t.stack) (omega (arith, r.wide)) i; missing = t.missing; sent = t.sent });
                wide = length_join t.levels k (length t.stack) ∙ r.wide;
              };
        }

    send_h : (c : Command) → Keeps Here (send c) (send c)
    unfolding send
    send_h c = record { keeps = λ s t r. record { same = ap (send c) r.same; wide = r.wide } }

    miss_h : Keeps Here miss miss
    unfolding miss
    miss_h = record { keeps = λ s t r. record { same = ap miss r.same; wide = r.wide } }

    declared_h : (m : Marker) → Q m → (s t : LevelState) → Here s t → (levelled_or x p).is_declared m s ≡ (levelled p).is_declared m t
    unfolding is_declared_at
    declared_h m h s t r =
        ap ((levelled_or x p).is_declared m) r.same
        ∙ ap (λ (l : ℕ). not (eqb l 0)) (get_inside t.levels (place m) x.level 0 (omega (arith, r.wide, place_below m (B.placed m h))))

    named_h : (name : Text) (s t : LevelState) → Here s t → (levelled_or x p).is_named name s ≡ (levelled p).is_named name t
    named_h name s t r =
        ap ((levelled_or x p).is_named name) r.same
        ∙ name_inside name p.literals (drop literal_places t.levels) (rw (length-drop literal_places t.levels) (omega (arith, r.wide, B.literals_few)))

    marks : Marks (levelled_or x p) (levelled p) Here Q
    marks =
        record {
          declared = declared_h;
          send = send_h;
          mark = λ m h. mark_h (place m) (omega (arith, place_below m (B.placed m h)));
        }

    literal_h : (k : ℕ) (l : Literal) → LiteralHas Q p k l → Keeps Here (declare_literal (levelled_or x p) k l) (declare_literal (levelled p) k l)
    unfolding declare_literal
    literal_h k l h = then_k (send_h (DeclareLiteral l)) (mark_h (literal_place k) (unfold literal_place in omega (arith, h.own)))

    alike : Alike (levelled_or x p) (levelled p) Here Q p
    alike =
        record {
          marks = marks;
          miss = miss_h;
          named = named_h;
          counted = λ s t r. ap (λ (u : LevelState). count u.levels) r.same;
          literal = λ k l h s t r e. (then_k (types_k marks l.typ h.typ) (literal_h k l h)).keeps s t r;
        }

    symbols_h : (e : RExpr) → EveryR (having Q p) e → (s : LevelState) → 0 < length s.stack → length s.levels ≡ level_count
        → Here (declare_new_symbols (levelled_or x p) (program_or x p) e s) (declare_new_symbols (levelled p) p e s)
    unfolding declare_new_symbols
    symbols_h e h s d w =
        let fuel = suc (length (program_or x p).axioms) in
        let r = (walk_k alike (same_axioms x B) fuel e [] h).keeps s s (record { same = refl; wide = w }) in
        let f : walk (levelled p) p fuel e [] s ≡ walk (levelled p) p (suc (length p.axioms)) e [] s =
        fuel_enough (counts p) fuel (more_axioms x B) e [] s (record { deep = d; wide = omega (arith, B.axioms_few) }) in
        record { same = r.same ∙ f; wide = ap (λ (u : LevelState). length u.levels) (sym f) ∙ r.wide }

    goal_h : (e : RExpr) → EveryR (having Q p) e → (n : ℕ) (s t : LevelState) → Here s t
        → Here (declare_new_symbols (levelled_or x p) (program_or x p) e (push n s)) (declare_new_symbols (levelled p) p e (push n t))
    goal_h e h n s t r =
        let k = symbols_h e h (push n t) (unfold push in omega arith) (unfold push in r.wide) in
        record { same = ap (λ (u : LevelState). declare_new_symbols (levelled_or x p) (program_or x p) e (push n u)) r.same ∙ k.same; wide = k.wide }

    pub goal_same : (e : RExpr) → EveryR (having Q p) e → (n : ℕ) (s : LevelState) → length s.levels ≡ level_count
        → declare_new_symbols (levelled_or x p) (program_or x p) e (push n s) ≡ declare_new_symbols (levelled p) p e (push n s)
    goal_same e h n s w = (goal_h e h n s s (record { same = refl; wide = w })).same

    -- ---- moves
    enter_h : (n : ℕ) → 0 < n → n ≤ length p.contexts → Keeps Here (enter (levelled_or x p) (program_or x p) n) (enter (levelled p) p n)
    unfolding enter ◌⨟◌
    enter_h n h l =
        record {
          keeps = λ s t r.
              let k = (assume_k alike (node_at p n).expr).keeps _ _ (goal_h (node_at p n).expr (B.has.node n) n s t r) in
              record {
                same =
                    ap (λ (c : Context). assume (levelled_or x p) c.expr (declare_new_symbols (levelled_or x p) (program_or x p) c.expr (push n s))) (node_same x p n h l)
                    ∙ k.same;
                wide = k.wide;
              };
        }

    pop_inside : (ms : List ℕ) (s : LevelState) → 0 < length ms → pop_or x ms s ≡ pop s
    unfolding pop_or
    pop_inside [] s h = absurd (not-suc-le-zero h)
    pop_inside (m ∷ ms) s h = refl

    pop_h : (s t : LevelState) → Here s t → 0 < length t.stack → Here ((levelled_or x p).pop s) (pop t)
    pop_h s t r h =
        record {
          same = ap (levelled_or x p).pop r.same ∙ pop_inside t.stack t h;
          wide = unfold pop in length_forget (length t.stack) t.levels ∙ r.wide;
        }

    tail_length : (ms : List ℕ) → length (tail ms) ≡ length ms - 1
    tail_length [] = omega arith
    tail_length (m ∷ ms) = omega arith

    stacked : Stacked (levelled_or x p) (levelled p) Here
    stacked =
        record {
          high = λ s t r. ap (λ (u : LevelState). length u.stack) r.same;
          top = λ memo s t r. ap (λ (u : LevelState). is_top memo u.stack) r.same;
          pop = pop_h;
          lower = λ t. unfold pop in tail_length t.stack;
        }

    pub move_same : Good p → (n : ℕ) → n ≤ length p.contexts → (s : LevelState) → length s.levels ≡ level_count
        → set_context (levelled_or x p) (program_or x p) n s ≡ set_context (levelled p) p n s
    move_same G n l s w = ((set_k x p G stacked enter_h n l).keeps s s (record { same = refl; wide = w })).same
