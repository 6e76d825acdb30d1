-- The test of a list of nodes, from book bytes.
use Prim.Native.Nat.{ℕ}
use mathlib.Core.Path.{◌≡◌, refl}
use mathlib.Core.Option.{some}
use mathlib.Core.Option as option
use mathlib.Core.List.{List, [], ◌∷◌, ◌++◌, map}
use lib.ListN.{replicate}
use Rattle.basics.specs.Text.{ascii}
use Rattle.basics.specs.Outcome.{refused, accepted}
use Rattle.book.specs.Book.{Book, no_term}
use Rattle.nodes_test.specs.NodesTest.{NodesCalled, nodes_test_call}
use Rattle.worked_examples.proofs.Everything.{everything}
use Rattle.worked_examples.proofs.Books.{books, bytes32, written, sample, explained, none}
use Rattle.worked_examples.proofs.Hosts.{hosts, dirty, clean}

-- Axiom 0, of f, has no term; axiom 1, of g, has f as its term. Nodes 1 and 5 are p, below the root; below node 1 are node 2, which is f,
-- and node 4, which is g; node 3, which is p, is below node 2.
lacking : Book
lacking =
    written (record {
      letters = ascii "fgp";
      names = 0 ∷ 1 ∷ 1 ∷ 1 ∷ 2 ∷ 1 ∷ [];
      types = [];
      constants = 2 ∷ 0 ∷ [];
      functions = 0 ∷ 1 ∷ 0 ∷ 0 ∷ 0 ∷ 1 ∷ 1 ∷ 1 ∷ 0 ∷ 0 ∷ 1 ∷ 1 ∷ [];
      axioms = no_term ∷ 0 ∷ 1 ∷ 0 ∷ 1 ∷ 1 ∷ [];
      patterns = [];
      terms =
          5 ∷ 0 ∷ 0 ∷ 0 ∷ 0 ∷ 0 ∷ 0 ∷  -- 0: f
          3 ∷ 0 ∷ 0 ∷ 0 ∷ 0 ∷ 0 ∷ 0 ∷  -- 1: p
          5 ∷ 0 ∷ 0 ∷ 0 ∷ 0 ∷ 0 ∷ 0 ∷  -- 2: f
          3 ∷ 0 ∷ 0 ∷ 0 ∷ 0 ∷ 0 ∷ 0 ∷  -- 3: p
          5 ∷ 1 ∷ 0 ∷ 0 ∷ 0 ∷ 0 ∷ 0 ∷  -- 4: g
          3 ∷ 0 ∷ 0 ∷ 0 ∷ 0 ∷ 0 ∷ 0 ∷ [];  -- 5: p
      contexts = 0 ∷ 1 ∷ 0 ∷ 1 ∷ 2 ∷ 0 ∷ 2 ∷ 3 ∷ 0 ∷ 1 ∷ 4 ∷ 0 ∷ 0 ∷ 5 ∷ 0 ∷ [];
      lists = 0 ∷ 1 ∷ [];
    })

test : Book → (bytes : List ℕ) → NodesCalled
test b bytes = nodes_test_call b dirty bytes

pass : NodesCalled
pass = record { answer = accepted option.none; scratch = clean }

fails : (position : ℕ) → NodesCalled
fails position = record { answer = accepted (some position); scratch = clean }

refused_by : ℕ → NodesCalled
refused_by n = record { answer = refused n; scratch = clean }

-- ---- POSITIONS
pub positions : List (NodesCalled × NodesCalled)
unfolding everything books hosts lacking test pass fails
positions =
    -- an empty list, the root, and a node twice
    (test lacking [], pass)
    ∷ (test lacking (bytes32 (0 ∷ [])), pass)
    ∷ (test lacking (bytes32 (1 ∷ 5 ∷ 0 ∷ 1 ∷ 1 ∷ [])), pass)
    -- one that fails: in the middle, counted from 0; the first of two; behind a way down, up and across
    ∷ (test lacking (bytes32 (1 ∷ 2 ∷ 5 ∷ [])), fails 1)
    ∷ (test lacking (bytes32 (2 ∷ 1 ∷ 4 ∷ [])), fails 0)
    ∷ (test lacking (bytes32 (1 ∷ 0 ∷ 5 ∷ 1 ∷ 2 ∷ [])), fails 4)
    -- a child of one that fails; one whose axiom's term needs what is missing
    ∷ (test lacking (bytes32 (5 ∷ 3 ∷ [])), fails 1)
    ∷ (test lacking (bytes32 (1 ∷ 4 ∷ [])), fails 1)
    -- an axiom that is missing is missed though it would not be sent
    ∷ (test (explained no_term 0) (bytes32 (3 ∷ 1 ∷ [])), fails 1)
    ∷ (test sample (bytes32 (3 ∷ 2 ∷ 1 ∷ [])), pass)
    ∷ []

pub positions_hold : map (λ e. e.0) positions ≡ map (λ e. e.1) positions
unfolding positions
positions_hold = refl

-- ---- REFUSALS
pub refusals : List (NodesCalled × NodesCalled)
unfolding everything books hosts lacking test pass refused_by
refusals =
    -- 7 for a node outside, wherever it stands, also behind one that fails
    (test lacking (bytes32 (2 ∷ 6 ∷ [])), refused_by 7)
    ∷ (test lacking (bytes32 (6 ∷ 2 ∷ [])), refused_by 7)
    ∷ (test lacking (bytes32 (1 ∷ 0xFFFFFFFF ∷ 5 ∷ [])), refused_by 7)
    -- a number that is cut short is no node, whatever its bytes are
    ∷ (test lacking (0 ∷ []), refused_by 7)
    ∷ (test lacking (0 ∷ 0 ∷ 0 ∷ []), refused_by 7)
    ∷ (test lacking (bytes32 (2 ∷ []) ++ (1 ∷ [])), refused_by 7)
    -- 512 numbers, and 513: 3, before 7; a number that is cut short counts
    ∷ (test lacking (replicate 2048 0), pass)
    ∷ (test lacking (replicate 2047 0), refused_by 7)
    ∷ (test lacking (replicate 2049 0), refused_by 3)
    ∷ (test lacking (replicate 2052 0xFF), refused_by 3)
    -- a book without nodes has the root
    ∷ (test none (bytes32 (0 ∷ 0 ∷ [])), pass)
    ∷ (test none (bytes32 (1 ∷ [])), refused_by 7)
    -- before all that: a bad book, and a short scratch, which stays as it is
    ∷ (test [] (replicate 2052 0xFF), refused_by 2)
    ∷ (
      nodes_test_call [] (replicate 127 0x55) (replicate 2052 0xFF),
      record { answer = refused 1; scratch = replicate 127 0x55 },
    )
    ∷ []

pub refusals_hold : map (λ e. e.0) refusals ≡ map (λ e. e.1) refusals
unfolding refusals
refusals_hold = refl
