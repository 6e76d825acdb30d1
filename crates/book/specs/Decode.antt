-- From a book's bytes to the program that it holds.
use Rattle.std.specs.Prelude.{ℕ, zero, suc, ◌+◌, ◌*◌, ◌^◌, List, [], ◌∷◌, ◌++◌, map, Bool, true, false, not, eqb, get_or}
use Rattle.std.proofs.Math.Option.{Option, none, some}
use Rattle.basics.specs.Text.{Text}
use Rattle.basics.specs.Lists.{up_to}
use Rattle.basics.specs.Basics.{int64}
use Rattle.book.specs.SType.{SType, SBool, SInt, SUserType, SConstant}
use Rattle.book.specs.RExpr.{RExpr, RExprs, RPatterns, Function, Literal, BuiltInOperator, UserDefinedFunction, Boolean, Integer, CustomLiteral, Id, FuncAppl, IfThenElse, LetExpr, QuantifierExpr, []ʳ, ◌∷ʳ◌, []ᵖ, ◌∷ᵖ◌}
use Rattle.book.specs.Program.{Axiom, Context, Program}
use Rattle.book.specs.Book.{Book, types, constants, functions, axioms, patterns, terms, contexts, size, field, entries, name_text, no_term}

-- the nine term kinds, in the order of their codes
pub data Kind : Type 0 where
  boolean integer custom_literal id built_in application if_then_else let_expr quantifier_expr : Kind

abbrev pub kinds : List Kind
kinds = boolean ∷ integer ∷ custom_literal ∷ id ∷ built_in ∷ application ∷ if_then_else ∷ let_expr ∷ quantifier_expr ∷ []

unfoldable pub kind_of : ℕ → Kind
kind_of k = get_or kinds k boolean

unfoldable pub to_rexprs : (ℕ → RExpr) → List ℕ → RExprs
to_rexprs f [] = []ʳ
to_rexprs f (n ∷ ns) = f n ∷ʳ to_rexprs f ns

unfoldable pub to_rpatterns : (ℕ → RExprs) → List ℕ → RPatterns
to_rpatterns f [] = []ᵖ
to_rpatterns f (n ∷ ns) = f n ∷ᵖ to_rpatterns f ns

module _ (b : Book) where
  unfoldable pub type_of : ℕ → SType
  type_of zero = SBool
  type_of (suc zero) = SInt
  type_of (suc (suc k)) = SUserType (record { number = k; name = name_text b (field b types k 0) })

  unfoldable pub constant_of : ℕ → SConstant
  constant_of k = record { number = k; name = name_text b (field b constants k 0); typ = type_of (field b constants k 1) }

  unfoldable pub function_of : ℕ → Function
  function_of k =
      record {
        number = k;
        name = name_text b (field b functions k 0);
        input_types = map type_of (entries b (field b functions k 2) (field b functions k 3));
        typ = type_of (field b functions k 1);
        explained_by = entries b (field b functions k 4) (field b functions k 5);
      }

  unfoldable pub literal_of : ℕ → Literal
  literal_of t = record { s = name_text b (field b terms t 1); typ = type_of (field b terms t 2) }

  unfoldable pub args_of : (ℕ → RExpr) → (start count : ℕ) → RExprs
  args_of child start count = to_rexprs child (entries b start count)

  unfoldable pub pattern_of : (ℕ → RExpr) → ℕ → RExprs
  pattern_of child p = args_of child (field b patterns p 0) (field b patterns p 1)

  -- term t, over its children, by its kind
  unfoldable pub term_by : Kind → (ℕ → RExpr) → ℕ → RExpr
  term_by boolean child t = Boolean (not (eqb (field b terms t 1) 0))
  term_by integer child t = Integer (int64 (field b terms t 1 + 2 ^ 32 * field b terms t 2))
  term_by custom_literal child t = CustomLiteral t (literal_of t)
  term_by id child t = Id (constant_of (field b terms t 1))
  term_by built_in child t =
      FuncAppl (BuiltInOperator (name_text b (field b terms t 1))) (args_of child (field b terms t 2) (field b terms t 3))
  term_by application child t =
      FuncAppl (UserDefinedFunction (function_of (field b terms t 1))) (args_of child (field b terms t 2) (field b terms t 3))
  term_by if_then_else child t = IfThenElse (child (field b terms t 1)) (child (field b terms t 2)) (child (field b terms t 3))
  term_by let_expr child t = LetExpr (constant_of (field b terms t 1)) (child (field b terms t 2)) (child (field b terms t 3))
  term_by quantifier_expr child t =
      QuantifierExpr (not (eqb (field b terms t 1) 0)) (map constant_of (entries b (field b terms t 2) (field b terms t 3)))
      (to_rpatterns (pattern_of child) (entries b (field b terms t 4) (field b terms t 5)))
      (child (field b terms t 6))

  unfoldable pub term_over : (ℕ → RExpr) → ℕ → RExpr
  term_over child t = term_by (kind_of (field b terms t 0)) child t

  -- the first n terms: a child's number is smaller than its parent's
  unfoldable pub first_terms : ℕ → List RExpr
  first_terms zero = []
  first_terms (suc n) = let before = first_terms n in before ++ (term_over (λ c. get_or before c (Boolean false)) n ∷ [])

  unfoldable pub term : ℕ → RExpr
  term t = get_or (first_terms (suc t)) t (Boolean false)

  unfoldable pub literal_by : Kind → ℕ → Option Literal
  literal_by boolean t = none
  literal_by integer t = none
  literal_by custom_literal t = some (literal_of t)
  literal_by id t = none
  literal_by built_in t = none
  literal_by application t = none
  literal_by if_then_else t = none
  literal_by let_expr t = none
  literal_by quantifier_expr t = none

  unfoldable pub literal_at : ℕ → Option Literal
  literal_at t = literal_by (kind_of (field b terms t 0)) t

  unfoldable pub axiom_term : Bool → ℕ → Option RExpr
  axiom_term true t = none
  axiom_term false t = some (term t)

  unfoldable pub axiom_of : ℕ → Axiom
  axiom_of k =
      record {
        term = axiom_term (eqb (field b axioms k 0) no_term) (field b axioms k 0);
        explains = entries b (field b axioms k 1) (field b axioms k 2);
      }

  -- a trace is stored as its name's number + 1, 0 for none
  unfoldable pub trace_of : ℕ → Option Text
  trace_of zero = none
  trace_of (suc n) = some (name_text b n)

  unfoldable pub context_of : ℕ → Context
  context_of k =
      record {
        parent = field b contexts k 0;
        expr = term (field b contexts k 1);
        trace_string = trace_of (field b contexts k 2);
      }

  unfoldable pub program : Program
  program =
      record {
        axioms = map axiom_of (up_to 0 (size b axioms));
        literals = map literal_at (up_to 0 (size b terms));
        contexts = map context_of (up_to 0 (size b contexts));
      }
