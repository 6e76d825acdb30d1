-- The lines that only make a definition total: the end of a fuel, and what is read behind the end of a list. Here each has anything in
-- its place. That nothing changes then, on a book that passes the test, is NoFallback.
use Rattle.std.specs.Prelude.{ℕ, zero, suc, ◌<◌, ◌≡◌, Bool, false, not, ◌&&◌, ◌||◌, List, [], ◌∷◌, ◌++◌, eqb, length, get_or, drop}
use Rattle.std.proofs.Math.Option.{Option}
use Rattle.basics.specs.Text.{Text}
use Rattle.book.specs.RExpr.{RExpr, Literal}
use Rattle.book.specs.Program.{Axiom, Context, Program}
use Rattle.rsolver.specs.Step.{Step}
use Rattle.rsolver.specs.Methods.{Methods}
use Rattle.rsolver.specs.LevelState.{place, literal_places, literal_place, count, has_name, LevelState, level_state, is_top, push, pop, send, miss}
use Rattle.rsolver.specs.REngine.{walk, declare_new_symbols}

-- ---- FUEL: from this state every fuel above the number of axioms gives the same walk, and DeclareNewSymbols is that walk
pub record FuelEnough {S : Type 0} (M : Methods S) (p : Program) (s : S) : Type 0 where
  pub more :
      (e : RExpr) (exclude : List ℕ) (fuel fuel' : ℕ) → length p.axioms < fuel → length p.axioms < fuel'
      → walk M p fuel e exclude s ≡ walk M p fuel' e exclude s
  pub own : (e : RExpr) (fuel : ℕ) → length p.axioms < fuel → declare_new_symbols M p e s ≡ walk M p fuel e [] s

-- ---- LISTS: anything, for what is read behind the end of each
pub record Anything : Type 0 where
  pub levels : List ℕ  -- join_at
  pub level : ℕ  -- is_declared_at
  pub named : Bool  -- name_in
  pub popped : Step LevelState  -- pop, of an empty stack
  pub axioms : List Axiom  -- axiom_at
  pub contexts : List Context  -- node_at

module _ (x : Anything) where
  -- join_at
  unfoldable pub join_or : List ℕ → ℕ → ℕ → List ℕ
  join_or [] k n = x.levels
  join_or (zero ∷ ls) zero n = n ∷ ls
  join_or (suc l ∷ ls) zero n = suc l ∷ ls
  join_or (l ∷ ls) (suc k) n = l ∷ join_or ls k n

  -- name_in
  unfoldable pub name_or : Text → List (Option Literal) → List ℕ → Bool
  name_or name [] ls = false
  name_or name (t ∷ ts) [] = x.named
  name_or name (t ∷ ts) (l ∷ ls) = not (eqb l 0) && has_name name t || name_or name ts ls

  -- declare_at
  unfoldable pub declare_or : ℕ → Step LevelState
  declare_or k s = level_state s.stack (join_or s.levels k (length s.stack)) s.missing s.sent

  -- pop, by the stack
  unfoldable pub pop_or : List ℕ → Step LevelState
  pop_or [] s = x.popped s
  pop_or (memo ∷ memos) s = pop s

  -- levelled, with these
  abbrev pub levelled_or : Program → Methods LevelState
  levelled_or p =
      record {
        stack_length = λ s. length s.stack;
        is_top_memo = λ memo s. is_top memo s.stack;
        is_declared = λ m s. not (eqb (get_or s.levels (place m) x.level) 0);
        is_named = λ name s. name_or name p.literals (drop literal_places s.levels);
        declared_count = λ s. count s.levels;
        push = push;
        pop = λ s. pop_or s.stack s;
        send = send;
        add_declaration_marker = λ m. declare_or (place m);
        add_name = λ t name. declare_or (literal_place t);
        miss = miss;
      }

  -- the program, with more behind its axioms and contexts
  unfoldable pub program_or : Program → Program
  program_or p = record { axioms = p.axioms ++ x.axioms; literals = p.literals; contexts = p.contexts ++ x.contexts }
