-- Every marker that an expression of an accepted book names is the marker of one of the book's records; so it has its place in the levels.
use Prim.Native.Nat.{ℕ, zero, suc, ◌+◌, ◌≤◌, ◌<◌}
use native.Mathlib.Nat.{zero-add}
use native.Mathlib.Omega.{arith}
use mathlib.Core.Path.{◌≡◌, ◌∙◌}
use lib.ListN.{length}
use Rattle.basics.proofs.All.{All, end, all_map}
use Rattle.basics.proofs.Counting.{at_up}
use Rattle.book.specs.Book.{Book, types, constants, functions, axioms, terms, size, field, user_types}
use Rattle.book.specs.Program.{Axiom, Program, axiom_at}
use Rattle.book.specs.Decode.{custom_literal, kind_of, type_of, constant_of, function_of, literal_of, term, axiom_of, program}
use Rattle.book.proofs.Every.{EveryR}
use Rattle.book.proofs.Terms.{axioms_length, literals_length, literal-at, literal_here}
use Rattle.book_test.specs.Promise.{Promise}
use Rattle.book_test.proofs.Entries.{entries_each}
use Rattle.book_test.proofs.EveryTerm.{literal_good, every_term, every_node, every_axiom}
use Rattle.rsolver.specs.Methods.{Marker, type, constant, function, axiom'}
use Rattle.rsolver.proofs.Placed.{TypeHas, ConstantHas, FunctionHas, LiteralHas, having, ProgramHas, MarkerPlaced, placed, PlacedProgram}

-- the marker of one of the book's records
abbrev pub Known : Book → Marker → Type 0
Known b (type k) = k < size b types
Known b (constant k) = k < size b constants
Known b (function k) = k < size b functions
Known b (axiom' k) = k < size b axioms

-- a program of which Q says where its markers stand
pub record Bounded (Q : Marker → Type 0) (p : Program) : Type 0 where
  pub has : ProgramHas Q p
  pub placed : (m : Marker) → Q m → MarkerPlaced m
  pub listed : (k : ℕ) → Q (axiom' k) → k < length p.axioms
  pub axioms_few : length p.axioms ≤ axioms.most
  pub literals_few : length p.literals ≤ terms.most

module _ (b : Book) (P : Promise b) where
  -- ---- what all of these have, every marker has that is named
  module _ (Q : Marker → Type 0) (has : (m : Marker) → Known b m → Q m) where
    type_has : (k : ℕ) → k < user_types + size b types → TypeHas Q (type_of b k)
    unfolding type_of
    type_has zero l = tt
    type_has (suc zero) l = tt
    type_has (suc (suc k)) l = has (type k) (omega arith)

    constant_has : (k : ℕ) → k < size b constants → ConstantHas Q (constant_of b k)
    unfolding constant_of
    constant_has k l = record { own = has (constant k) l; typ = type_has _ (P.constant k l).typ }

    function_has : (k : ℕ) → k < size b functions → FunctionHas Q (function_of b k)
    unfolding function_of
    function_has k l =
        record {
          own = has (function k) l;
          input_types = all_map (TypeHas Q) (λ n. n < user_types + size b types) (type_of b) type_has (entries_each b _ _ _ (P.function k l).input_types.below);
          typ = type_has _ (P.function k l).typ;
          explained_by = entries_each b (λ n. Q (axiom' n)) _ _ (λ i m. has (axiom' _) ((P.function k l).explained_by.below i m));
        }

    literal_has : (t : ℕ) → t < size b terms → kind_of (field b terms t 0) ≡ custom_literal → LiteralHas Q (program b) t (literal_of b t)
    literal_has t l e =
        record {
          own = omega (arith, P.terms_laid.few);
          here = literal-at b t l ∙ literal_here b t e;
          typ = unfold literal_of in type_has _ (literal_good b P t l e).typ;
        }

    pub term_has : (t : ℕ) → t < size b terms → EveryR (having Q (program b)) (term b t)
    term_has = every_term b P (having Q (program b)) constant_has (λ t l e. tt) function_has literal_has

    explains_has : (k : ℕ) → All (λ f. Q (function f)) (axiom_at (program b) k).explains
    unfolding program axiom_of
    explains_has k =
        at_up (λ (a : Axiom). All (λ f. Q (function f)) a.explains) (axiom_of b) _ 0 (size b axioms) k
        (λ l. rw zero-add (entries_each b (λ f. Q (function f)) _ _ (λ i m. has (function _) ((P.axiom' k l).explains.below i m)))) end

    pub program_has : ProgramHas Q (program b)
    program_has =
        record {
          axiom_term = every_axiom b P (having Q (program b)) constant_has (λ t l e. tt) function_has literal_has;
          explains = explains_has;
          node = every_node b P (having Q (program b)) constant_has (λ t l e. tt) function_has literal_has;
        }

  -- ---- a place in the levels
  pub known_placed : (m : Marker) → Known b m → MarkerPlaced m
  known_placed (type k) h = omega (arith, P.types_laid.few)
  known_placed (constant k) h = omega (arith, P.constants_laid.few)
  known_placed (function k) h = omega (arith, P.functions_laid.few)
  known_placed (axiom' k) h = omega (arith, P.axioms_laid.few)

  pub term_placed : (t : ℕ) → t < size b terms → EveryR (placed (program b)) (term b t)
  term_placed = term_has MarkerPlaced known_placed

  pub program_placed : PlacedProgram (program b)
  program_placed = program_has MarkerPlaced known_placed

  -- ---- the book's own markers
  pub term_known : (t : ℕ) → t < size b terms → EveryR (having (Known b) (program b)) (term b t)
  term_known = term_has (Known b) (λ m h. h)

  pub bounded : Bounded (Known b) (program b)
  bounded =
      record {
        has = program_has (Known b) (λ m h. h);
        placed = known_placed;
        listed = λ k h. omega (arith, axioms_length b);
        axioms_few = omega (arith, axioms_length b, P.axioms_laid.few);
        literals_few = omega (arith, literals_length b, P.terms_laid.few);
      }
