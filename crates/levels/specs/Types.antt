-- The steps that declare types, constants and functions, of records of a book.
use Rattle.std.specs.Prelude.{ℕ, Bool, List, map}
use Rattle.basics.specs.Lists.{all}
use Rattle.book.specs.Book.{Book, constants, functions, axioms, field, entries}
use Rattle.book.specs.SType.{SUserType}
use Rattle.book.specs.Decode.{type_of, constant_of, function_of, axiom_of, program}
use Rattle.smt_engines.specs.Written.{type_decl_of}
use Rattle.rsolver.specs.Step.{Step, ◌⨟◌, for}
use Rattle.rsolver.specs.Methods.{Methods}
use Rattle.rsolver.specs.LevelState.{LevelState, levelled}
use Rattle.rsolver.specs.REngine.{declare_new_types, declare_type_of, declare_constant, declare_function}

module _ (b : Book) where
  abbrev pub engine : Methods LevelState
  engine = levelled (program b)

  -- DeclareNewTypes
  unfoldable pub user_type_step : ℕ → Step LevelState
  user_type_step k = declare_new_types engine (SUserType (type_decl_of b k))

  unfoldable pub type_step : ℕ → Step LevelState
  type_step typ = declare_new_types engine (type_of b typ)

  -- of each type in a range of lists
  unfoldable pub types_step : (start count : ℕ) → Step LevelState
  types_step start count = for (map (type_of b) (entries b start count)) (declare_new_types engine)

  -- of each constant's type in a range of lists
  unfoldable pub constant_types_step : (start count : ℕ) → Step LevelState
  constant_types_step start count = for (map (constant_of b) (entries b start count)) (declare_type_of engine)

  -- DeclareNewTypes and DeclareSymbol of constant k
  unfoldable pub constant_step : ℕ → Step LevelState
  constant_step k = declare_new_types engine (constant_of b k).typ ⨟ declare_constant engine (constant_of b k)

  -- the types of function k's signature, and DeclareSymbol
  unfoldable pub function_step : ℕ → Step LevelState
  function_step k =
      for (function_of b k).input_types (declare_new_types engine) ⨟ declare_new_types engine (function_of b k).typ ⨟ declare_function engine (function_of b k)
