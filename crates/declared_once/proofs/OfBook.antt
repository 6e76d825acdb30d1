-- The constants, functions, literals, operators and types that an accepted book's terms name are records of the book.
use Rattle.std.specs.Prelude.{if◌then◌else◌}
use Prim.Native.Nat.{ℕ, zero, suc, ◌+◌, ◌<◌}
use native.Mathlib.Omega.{arith}
use mathlib.Core.Path.{◌≡◌, refl}
use mathlib.Core.Bool.{Bool, true, false}
use mathlib.Core.List.{List, [], ◌∷◌, map}
use Rattle.basics.specs.Lists.{member}
use Rattle.basics.proofs.All.{All, end, more, all_append}
use Rattle.book.specs.SType.{SConstant}
use Rattle.book.specs.RExpr.{RExpr, RExprs, RPatterns, is_tag, ROperator, BuiltInOperator, UserDefinedFunction, Boolean, Integer, CustomLiteral, Id, FuncAppl, IfThenElse, LetExpr, QuantifierExpr, []ʳ, ◌∷ʳ◌, []ᵖ, ◌∷ᵖ◌}
use Rattle.book.specs.Book.{Book, types, constants, functions, terms, size, field, name_text, user_types}
use Rattle.book.specs.Program.{axiom_at, node_at}
use Rattle.book.specs.Decode.{custom_literal, built_in, kind_of, type_of, constant_of, function_of, literal_of, term, program}
use Rattle.book.proofs.Every.{Asked, EveryR, EveryRs, EveryPs, EveryTerm}
use Rattle.book_test.specs.Promise.{Promise}
use Rattle.book_test.proofs.Entries.{entries_each}
use Rattle.book_test.proofs.EveryTerm.{literal_good, every_term, every_node, every_axiom}
use Rattle.declared_once.specs.Symbols.{Symbol, a_sort, a_constant, a_function, a_literal, sorts_in, sorts_of_types, sorts_of_variables, sorts_of, with_sorts, operator_symbols, symbols_of, symbols_of_all, symbols_of_patterns, operator_names, operators_of, operators_of_all, operators_of_patterns}
use Rattle.declared_once.specs.ToldApart.{sort_of}
use Rattle.declared_once.proofs.Unique.{Of, OfOperator}

abbrev pub OperatorOf : Book → ROperator → Type 0
OperatorOf b (BuiltInOperator n) = OfOperator b n
OperatorOf b (UserDefinedFunction f) = Of b (a_function f)

abbrev pub asked : Book → Asked
asked b = record { constant = λ v. Of b (a_constant v); operator = OperatorOf b; literal = λ t l. is_tag l ≡ false → Of b (a_literal l) }

module _ (b : Book) (P : Promise b) where
  -- ---- the types that a symbol's declaration names
  type-of : (k : ℕ) → k < user_types + size b types → All (Of b) (sorts_in (type_of b k))
  unfolding type_of sorts_in sort_of
  type-of zero l = end
  type-of (suc zero) l = end
  type-of (suc (suc k)) l = more {a = a_sort (sort_of b k)} (k, omega arith, refl) end

  types_of : {ks : List ℕ} → All (λ k. k < user_types + size b types) ks → All (Of b) (sorts_of_types (map (type_of b) ks))
  unfolding sorts_of_types
  types_of end = end
  types_of (more {a = k} h hs) = all_append (type-of k h) (types_of hs)

  pub sorts-of : (x : Symbol) → Of b x → All (Of b) (sorts_of x)
  unfolding sorts_of constant_of function_of literal_of
  sorts-of (a_sort d) o = end
  sorts-of (a_constant v) o = rw o.2 (type-of _ (P.constant o.0 o.1).typ)
  sorts-of (a_function f) o =
      rw o.2
      (all_append (types_of (entries_each b (λ k. k < user_types + size b types) _ _ (P.function o.0 o.1).input_types.below)) (type-of _ (P.function o.0 o.1).typ))
  sorts-of (a_literal l) o = rw o.4 (type-of _ (literal_good b P o.0 o.1 o.2).typ)

  pub with-sorts : (x : Symbol) → Of b x → All (Of b) (with_sorts x)
  unfolding with_sorts
  with-sorts x o = more o (sorts-of x o)

  pub variables_of : {vv : List SConstant} → All (λ v. Of b (a_constant v)) vv → All (Of b) (sorts_of_variables vv)
  unfolding sorts_of_variables sorts_of
  variables_of end = end
  variables_of (more {a = v} h hs) = all_append (sorts-of (a_constant v) h) (variables_of hs)

  -- ---- an expression's symbols and operators
  operator-symbols : (op : ROperator) → OperatorOf b op → All (Of b) (operator_symbols op)
  unfolding operator_symbols
  operator-symbols (BuiltInOperator n) h = end
  operator-symbols (UserDefinedFunction f) h = with-sorts (a_function f) h

  mutual
    unfolding symbols_of

    pub symbols-of : (e : RExpr) (x : List ℕ) → EveryR (asked b) e → All (Of b) (symbols_of e x)
    symbols-of (Boolean c) x h = end
    symbols-of (Integer n) x h = end
    symbols-of (CustomLiteral t l) x h = at (is_tag l) refl
      where
        at : (c : Bool) → is_tag l ≡ c → All (Of b) (if c then [] else with_sorts (a_literal l))
        at true e = end
        at false e = with-sorts (a_literal l) (h e)
    symbols-of (Id v) x h = at (member v.number x)
      where
        at : (c : Bool) → All (Of b) (if c then [] else with_sorts (a_constant v))
        at true = end
        at false = with-sorts (a_constant v) h
    symbols-of (FuncAppl op args) x h = all_append (operator-symbols op h.0) (all_symbols_of args x h.1)
    symbols-of (IfThenElse g t e) x h = all_append (symbols-of g x h.0) (all_append (symbols-of t x h.1) (symbols-of e x h.2))
    symbols-of (LetExpr v r c) x h = all_append (symbols-of r _ h.1) (symbols-of c _ h.2)
    symbols-of (QuantifierExpr u vv ps c) x h =
        all_append (variables_of h.0) (all_append (pattern_symbols_of ps _ h.1) (symbols-of c _ h.2))

    all_symbols_of : (es : RExprs) (x : List ℕ) → EveryRs (asked b) es → All (Of b) (symbols_of_all es x)
    all_symbols_of []ʳ x h = end
    all_symbols_of (e ∷ʳ es) x h = all_append (symbols-of e x h.0) (all_symbols_of es x h.1)

    pattern_symbols_of : (ps : RPatterns) (x : List ℕ) → EveryPs (asked b) ps → All (Of b) (symbols_of_patterns ps x)
    pattern_symbols_of []ᵖ x h = end
    pattern_symbols_of (q ∷ᵖ ps) x h = all_append (all_symbols_of q x h.0) (pattern_symbols_of ps x h.1)

  operator-names : (op : ROperator) → OperatorOf b op → All (OfOperator b) (operator_names op)
  unfolding operator_names
  operator-names (BuiltInOperator n) h = more h end
  operator-names (UserDefinedFunction f) h = end

  mutual
    unfolding operators_of

    pub operators-of : (e : RExpr) → EveryR (asked b) e → All (OfOperator b) (operators_of e)
    operators-of (Boolean c) h = end
    operators-of (Integer n) h = end
    operators-of (CustomLiteral t l) h = end
    operators-of (Id v) h = end
    operators-of (FuncAppl op args) h = all_append (operator-names op h.0) (all_operators_of args h.1)
    operators-of (IfThenElse g t e) h = all_append (operators-of g h.0) (all_append (operators-of t h.1) (operators-of e h.2))
    operators-of (LetExpr v r c) h = all_append (operators-of r h.1) (operators-of c h.2)
    operators-of (QuantifierExpr u vv ps c) h = all_append (pattern_operators_of ps h.1) (operators-of c h.2)

    all_operators_of : (es : RExprs) → EveryRs (asked b) es → All (OfOperator b) (operators_of_all es)
    all_operators_of []ʳ h = end
    all_operators_of (e ∷ʳ es) h = all_append (operators-of e h.0) (all_operators_of es h.1)

    pattern_operators_of : (ps : RPatterns) → EveryPs (asked b) ps → All (OfOperator b) (operators_of_patterns ps)
    pattern_operators_of []ᵖ h = end
    pattern_operators_of (q ∷ᵖ ps) h = all_append (all_operators_of q h.0) (pattern_operators_of ps h.1)

  -- ---- every term of the book
  constant-of : (k : ℕ) → k < size b constants → Of b (a_constant (constant_of b k))
  constant-of k l = (k, l, refl)

  function-of : (k : ℕ) → k < size b functions → Of b (a_function (function_of b k))
  function-of k l = (k, l, refl)

  operator-of : (t : ℕ) → t < size b terms → kind_of (field b terms t 0) ≡ built_in → OfOperator b (name_text b (field b terms t 1))
  operator-of t l e = (t, l, e, refl)

  literal-of : (t : ℕ) → t < size b terms → kind_of (field b terms t 0) ≡ custom_literal → is_tag (literal_of b t) ≡ false → Of b (a_literal (literal_of b t))
  literal-of t l e z = (t, l, e, z, refl)

  pub term_of : (t : ℕ) → t < size b terms → EveryR (asked b) (term b t)
  term_of = every_term b P (asked b) constant-of operator-of function-of literal-of

  pub node_of : (n : ℕ) → EveryR (asked b) (node_at (program b) n).expr
  node_of = every_node b P (asked b) constant-of operator-of function-of literal-of

  pub axiom-of : (k : ℕ) → EveryTerm (asked b) (axiom_at (program b) k).term
  axiom-of = every_axiom b P (asked b) constant-of operator-of function-of literal-of
