-- DeclareNewSymbols of the terms of a book, as the code's functions do it.
use Rattle.std.specs.Prelude.{ℕ, ◌+◌, ◌≡◌, Bool, not, ◌||◌, List, [], eqb, length, get_or}
use Rattle.basics.specs.Lists.{all, member}
use Rattle.basics.specs.Write.{WroteAt}
use Rattle.book.specs.Book.{Book, entries}
use Rattle.book.specs.RExpr.{RExpr, UserDefinedFunction}
use Rattle.book.specs.Decode.{args_of, pattern_of, to_rpatterns, function_of, axiom_of, term, program}
use Rattle.smt_engines.specs.Command.{script}
use Rattle.rsolver.specs.Step.{Step, ◌⨟◌, for, unless}
use Rattle.rsolver.specs.Methods.{constant, axiom'}
use Rattle.rsolver.specs.LevelState.{LevelState, function_places, sent_by}
use Rattle.rsolver.specs.REngine.{assume, walk, include_axiom, declare_operator, declare_symbols, declare_all_symbols, declare_pattern_symbols, declare_new_symbols}
use Rattle.levels.specs.declared.Progress.{Progress}
use Rattle.levels.specs.Did.{Did}
use Rattle.levels.specs.Types.{engine, constant_step}
use Rattle.excluded.specs.Excluded.{Excludes}

-- the state's stack is n high, its levels are ls, and so much is missing
pub record Stands (s : LevelState) (n : ℕ) (ls : List ℕ) (m : Bool) : Type 0 where
  pub height : length s.stack ≡ n
  pub levels : s.levels ≡ ls
  pub missing : s.missing ≡ m

module _ (b : Book) where
  -- DeclareNewSymbols of an axiom's term
  abbrev pub inner : RExpr → List ℕ → Step LevelState
  inner e x = walk (engine b) (program b) (length (program b).axioms) e x

  -- of constant v, an Id
  unfoldable pub id_step : ℕ → (exclude : List ℕ) → Step LevelState
  id_step v exclude = unless (λ s. member v exclude || (engine b).is_declared (constant v) s) (constant_step b v)

  -- of term t
  unfoldable pub symbols_step : ℕ → (exclude : List ℕ) → Step LevelState
  symbols_step t exclude = declare_symbols (engine b) (program b) inner (term b t) exclude

  -- of the terms in a range of lists
  unfoldable pub terms_step : (start count : ℕ) → (exclude : List ℕ) → Step LevelState
  terms_step start count exclude = declare_all_symbols (engine b) (program b) inner (args_of b (term b) start count) exclude

  -- of the patterns in a range of lists
  unfoldable pub patterns_step : (start count : ℕ) → (exclude : List ℕ) → Step LevelState
  patterns_step start count exclude = declare_pattern_symbols (engine b) (program b) inner (to_rpatterns (pattern_of b (term b)) (entries b start count)) exclude

  -- of function k, where it is applied
  unfoldable pub operator_step : ℕ → (exclude : List ℕ) → Step LevelState
  operator_step k exclude = declare_operator (engine b) (program b) inner (UserDefinedFunction (function_of b k)) exclude

  -- the axioms in a range of lists, and one
  unfoldable pub axioms_step : (start count : ℕ) → (exclude : List ℕ) → Step LevelState
  axioms_step start count exclude = for (entries b start count) (include_axiom (engine b) (program b) inner exclude)

  unfoldable pub axiom_step : ℕ → (exclude : List ℕ) → Step LevelState
  axiom_step k exclude = include_axiom (engine b) (program b) inner exclude k

  -- axiom k, whose term is term t, sent
  unfoldable pub sent_axiom_step : ℕ → ℕ → (exclude : List ℕ) → Step LevelState
  sent_axiom_step k t exclude = (engine b).add_declaration_marker (axiom' k) ⨟ inner (term b t) [] ⨟ assume (engine b) (term b t)

  -- all functions that axiom k explains are declared
  unfoldable pub all_explained : ℕ → (levels : List ℕ) → Bool
  all_explained k levels = all (axiom_of b k).explains (λ f. not (eqb (get_or levels (function_places + f) 0) 0))

  -- THE WALK: DeclareNewSymbols of term t, from every state that stands so
  pub record NewSymbols (t n : ℕ) (ls ls' : List ℕ) (so : Progress) (o o' : List ℕ) (r : Progress) : Type 0 where
    pub levels : (s : LevelState) → Stands s n ls so.missing → (declare_new_symbols (engine b) (program b) (term b t) s).levels ≡ ls'
    pub missing : (s : LevelState) → Stands s n ls so.missing → (declare_new_symbols (engine b) (program b) (term b t) s).missing ≡ r.missing
    pub text : (s : LevelState) → Stands s n ls so.missing → WroteAt (script (sent_by (declare_new_symbols (engine b) (program b) (term b t)) s)) so.at o o' r.at

-- a walk with a set of exclusions, for every list that the set holds
pub record Walked (f : List ℕ → Step LevelState) (set : List ℕ) (n : ℕ) (ls ls' : List ℕ) (so : Progress) (o o' : List ℕ) (r : Progress) : Type 0 where
  pub did : (exclude : List ℕ) → Excludes set exclude → Did (f exclude) n ls ls' so o o' r

-- axioms, in which nothing is excluded, whatever is excluded where they are included
pub record Included (f : List ℕ → Step LevelState) (n : ℕ) (ls ls' : List ℕ) (so : Progress) (o o' : List ℕ) (r : Progress) : Type 0 where
  pub did : (exclude : List ℕ) → Did (f exclude) n ls ls' so o o' r
