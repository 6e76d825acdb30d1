-- NO FALLBACK IS EVER MET on a book that passes the test, and `shared` is the depth of the deepest node that two paths share.
-- Proved in proofs/NoFallback.antt: no_fallback, shared_deepest. No statement has a hypothesis but the one it shows.
use Rattle.std.specs.Prelude.{ℕ, suc, ◌≤◌, ◌<◌, ◌≡◌, ◌⊎◌, true, List, ◌∷◌, ◌++◌, length}
use Rattle.basics.specs.Lists.{member}
use Rattle.book.specs.Book.{Book, terms, contexts, size, field}
use Rattle.book.specs.Program.{Program, node_at, path, depth}
use Rattle.book.specs.Decode.{kinds, term_over, term, program}
use Rattle.rsolver.specs.LevelState.{LevelState, level_count, levelled, push}
use Rattle.rsolver.specs.SolverState.{SolverState, bodies}
use Rattle.rsolver.specs.REngine.{declare_new_symbols, set_context}
use Rattle.rsolver.specs.Trace.{print_trace}
use Rattle.solvers.specs.Fallbacks.{FuelEnough, Anything, levelled_or, program_or}
use Rattle.solvers.specs.Rule.{standing}

-- no fuel ends, and nothing is read behind the end of a list (Fallbacks)
pub record NoFallback (b : Book) : Type 0 where
  -- with anything behind the book's last byte, its program and its terms are the same
  pub bytes : (rest : List ℕ) → program (b ++ rest) ≡ program b
  pub term_bytes : (rest : List ℕ) (t : ℕ) → t < size b terms → term (b ++ rest) t ≡ term b t
  -- a term's kind is one of the nine, and it is what its record says over its children
  pub kinds : (t : ℕ) → t < size b terms → field b terms t 0 < length kinds
  pub children : (t : ℕ) → t < size b terms → term b t ≡ term_over b (term b) t
  -- a node's path is the node and its parent's path
  pub paths : (n : ℕ) → path (program b) (suc n) ≡ suc n ∷ path (program b) (node_at (program b) (suc n)).parent
  -- the levels have all their places
  pub levels : (ns : List ℕ) → length (standing (program b) ns).levels ≡ level_count
  -- more fuel changes no walk: neither in such a state, inside a level, nor in any state of the bodies
  pub walks : (n : ℕ) (s : LevelState) → length s.levels ≡ level_count → FuelEnough (levelled (program b)) (program b) (push n s)
  pub body_walks : (s : SolverState) → FuelEnough bodies (program b) s
  -- with anything behind the levels, the axioms and the contexts, a move to any node, the declarations of any goal and a node's trace are
  -- the same
  pub moves :
      (x : Anything) (n : ℕ) → n ≤ size b contexts → (s : LevelState) → length s.levels ≡ level_count
      → set_context (levelled_or x (program b)) (program_or x (program b)) n s ≡ set_context (levelled (program b)) (program b) n s
  pub goals :
      (x : Anything) (t : ℕ) → t < size b terms → (n : ℕ) (s : LevelState) → length s.levels ≡ level_count
      → declare_new_symbols (levelled_or x (program b)) (program_or x (program b)) (term b t) (push n s)
      ≡ declare_new_symbols (levelled (program b)) (program b) (term b t) (push n s)
  pub traces : (x : Anything) (n : ℕ) → n ≤ size b contexts → print_trace (program_or x (program b)) n ≡ print_trace (program b) n
  -- and so are the bodies' moves and declarations, from any state
  pub body_moves :
      (x : Anything) (n : ℕ) → n ≤ size b contexts → (s : SolverState)
      → set_context bodies (program_or x (program b)) n s ≡ set_context bodies (program b) n s
  pub body_goals :
      (x : Anything) (t : ℕ) → t < size b terms → (s : SolverState)
      → declare_new_symbols bodies (program_or x (program b)) (term b t) s ≡ declare_new_symbols bodies (program b) (term b t) s

-- s is the depth of the deepest node that both paths share (the root, of depth 0, is on all); proved of `shared`
pub record Deepest (p : Program) (old new s : ℕ) : Type 0 where
  pub most : (x : ℕ) → member x (path p old) ≡ true → member x (path p new) ≡ true → depth p x ≤ s
  pub met : (s ≡ 0) ⊎ ((x : ℕ) × (member x (path p old) ≡ true) × (member x (path p new) ≡ true) × (depth p x ≡ s))
