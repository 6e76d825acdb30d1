-- What the stack rule asks of a program, and that an accepted book's program has it.
use Prim.Native.Nat.{ℕ, zero, suc, ◌+◌, ◌≤◌, ◌<◌}
use native.Mathlib.Omega.{arith}
use mathlib.Core.Path.{◌≡◌}
use Rattle.basics.proofs.All.{all_map}
use Rattle.basics.proofs.Clean.{Clean}
use Rattle.book.specs.Book.{Book, types, constants, functions, terms, size, field, name_text, user_types}
use Rattle.book.specs.Program.{Program, node_at, axiom_at}
use Rattle.book.specs.Decode.{custom_literal, built_in, kind_of, type_of, constant_of, function_of, literal_of, term, program}
use Rattle.book.proofs.Every.{EveryTerm}
use Rattle.book_test.specs.Promise.{Promise}
use Rattle.book_test.proofs.Entries.{entries_each}
use Rattle.book_test.proofs.EveryTerm.{parent_below, literal_good, builtin_good, every_term, every_node, every_axiom}
use Rattle.book_test.proofs.Names.{name_clean}
use Rattle.solver_expr.proofs.Clean.{CleanType, CleanConstant, CleanFunction, CleanLiteral, cleanly, CleanR}

-- a parent is smaller than its child, and no name that is reached holds a line end
pub record Good (p : Program) : Type 0 where
  pub parents : (n : ℕ) → (node_at p (suc n)).parent ≤ n
  pub nodes : (n : ℕ) → CleanR (node_at p n).expr
  pub axioms : (k : ℕ) → EveryTerm cleanly (axiom_at p k).term

module _ (b : Book) (P : Promise b) where
  type_clean : (k : ℕ) → k < user_types + size b types → CleanType (type_of b k)
  unfolding type_of
  type_clean zero l = tt
  type_clean (suc zero) l = tt
  type_clean (suc (suc k)) l = name_clean b P (field b types k 0) (P.type_name k (omega arith))

  constant_clean : (k : ℕ) → k < size b constants → CleanConstant (constant_of b k)
  unfolding constant_of
  constant_clean k l = record { name = name_clean b P _ (P.constant k l).name; typ = type_clean _ (P.constant k l).typ }

  function_clean : (k : ℕ) → k < size b functions → CleanFunction (function_of b k)
  unfolding function_of
  function_clean k l =
      record {
        name = name_clean b P _ (P.function k l).name;
        input_types = all_map CleanType (λ n. n < user_types + size b types) (type_of b) type_clean (entries_each b _ _ _ (P.function k l).input_types.below);
        typ = type_clean _ (P.function k l).typ;
      }

  literal_clean : (t : ℕ) → t < size b terms → kind_of (field b terms t 0) ≡ custom_literal → CleanLiteral (literal_of b t)
  unfolding literal_of
  literal_clean t l e =
      let g = literal_good b P t l e in
      record { s = name_clean b P _ g.name; typ = type_clean _ g.typ }

  builtin_clean : (t : ℕ) → t < size b terms → kind_of (field b terms t 0) ≡ built_in → Clean (name_text b (field b terms t 1))
  builtin_clean t l e = name_clean b P _ (builtin_good b P t l e).name

  pub term_clean : (t : ℕ) → t < size b terms → CleanR (term b t)
  term_clean = every_term b P cleanly constant_clean builtin_clean function_clean literal_clean

  pub good : Good (program b)
  good =
      record {
        parents = parent_below b P;
        nodes = every_node b P cleanly constant_clean builtin_clean function_clean literal_clean;
        axioms = every_axiom b P cleanly constant_clean builtin_clean function_clean literal_clean;
      }
