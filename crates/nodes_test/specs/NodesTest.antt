-- The test of a list of nodes: whether a fresh session could move to each of them, or which is the first that it could not.
use Rattle.std.specs.Prelude.{ℕ, suc, Bool, not, List, [], ◌∷◌, leb, ltb, length, if◌then◌else◌}
use Rattle.std.specs.Prelude.{Result, Ok, Err, Some, None}
use Rattle.std.specs.declared.option.Option as code
use Rattle.std.proofs.Math.Option.{Option, none, some, map}
use Rattle.basics.specs.Lists.{all}
use Rattle.basics.specs.Outcome.{Outcome, refused, accepted, refuse, ◌>>◌}
use Rattle.basics.specs.Buffer.{scratch_after}
use Rattle.book.specs.Refusal.{number}
use Rattle.book.specs.Book.{Book, contexts, size}
use Rattle.book.specs.Program.{Program, path}
use Rattle.book.specs.Decode.{program}
use Rattle.book_test.specs.BookTest.{ready}
use Rattle.number_lists.specs.Numbers.{numbers}
use Rattle.solvers.specs.Rule.{standing}
use Rattle.book.specs.declared.Refusal.{Refusal}

-- no axiom is missed on the way from the root down to the node
unfoldable pub could_move : Program → (node : ℕ) → Bool
could_move p node = not (standing p (path p node)).missing

-- counted from 0; none where a fresh session could move to each
unfoldable pub first_failing : Program → (nodes : List ℕ) → Option ℕ
first_failing p [] = none
first_failing p (n ∷ ns) = if could_move p n then map suc (first_failing p ns) else some 0

-- the nodes of a book are numbered from 1, and 0 is the root
unfoldable pub all_inside : Book → (nodes : List ℕ) → Bool
all_inside b nodes = all nodes (λ n. leb n (size b contexts))

-- the most nodes that a list may have
abbrev pub nodes_most : ℕ
nodes_most = 512

-- behind the book test
unfoldable pub nodes_in : Book → (nodes : List ℕ) → Outcome (Option ℕ)
nodes_in b nodes = do
  refuse 3 (ltb nodes_most (length nodes))
  refuse 7 (not (all_inside b nodes))
  accepted (first_failing (program b) nodes)

-- `scratch` is the scratch buffer's length
unfoldable pub nodes_tested : (scratch : ℕ) → Book → (nodes : List ℕ) → Outcome (Option ℕ)
nodes_tested scratch b nodes = do
  ready scratch b
  nodes_in b nodes

-- a position that is answered, or none
unfoldable pub position_value : code.Option ℕ → Option ℕ
position_value None = none
position_value (Some position) = some position

-- the number and values of each answer
unfoldable pub nodes_tested_value : Result (code.Option ℕ) Refusal → Outcome (Option ℕ)
nodes_tested_value (Ok position) = accepted (position_value position)
nodes_tested_value (Err r) = refused (number r)

-- THE CALL: its answer, and the scratch afterwards. The list is handed over as bytes.
pub record NodesCalled : Type 0 where
  pub answer : Outcome (Option ℕ)
  pub scratch : List ℕ

unfoldable pub nodes_test_call : Book → (scratch nodes : List ℕ) → NodesCalled
nodes_test_call b scratch nodes =
    record { answer = nodes_tested (length scratch) b (numbers nodes); scratch = scratch_after scratch }
