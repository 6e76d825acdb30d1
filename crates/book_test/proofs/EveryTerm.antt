-- What is asked of constants, operators and literals holds throughout an accepted book's terms, if it holds of the book's own.
use Prim.Native.Nat.{ℕ, zero, suc, ◌-◌, ◌≤◌, ◌<◌}
use native.Mathlib.Nat.{zero-add}
use native.Mathlib.Omega.{arith}
use mathlib.Core.Path.{◌≡◌, refl, subst}
use mathlib.Core.List.{List, [], ◌∷◌}
use mathlib.Core.Bool.{Bool, true, false}
use lib.Dec.{eqb}
use lib.ListN.{get_or}
use borrow.Author.Tests.{eqb-false}
use Rattle.basics.proofs.All.{All, end, more, all_append, all_map, all_get_d}
use Rattle.basics.proofs.Counting.{at_up}
use Rattle.book.specs.Book.{Book, constants, functions, axioms, terms, contexts, size, field, name_text, no_term}
use Rattle.book.specs.RExpr.{RExpr, Boolean, BuiltInOperator, UserDefinedFunction}
use Rattle.book.specs.Program.{Axiom, Context, axiom_at, node_at}
use Rattle.book.specs.Decode.{Kind, boolean, integer, custom_literal, id, built_in, application, if_then_else, let_expr, quantifier_expr, kind_of, constant_of, function_of, literal_of, to_rexprs, to_rpatterns, args_of, pattern_of, term_by, term_over, first_terms, term, axiom_term, axiom_of, context_of, program}
use Rattle.book.proofs.Every.{Asked, EveryR, EveryRs, EveryPs, EveryTerm}
use Rattle.book_test.specs.Promise.{GoodLiteral, GoodBuiltIn, GoodKind, Promise}
use Rattle.book_test.proofs.Entries.{entries_each}

module _ (b : Book) (P : Promise b) where
  pub parent_below : (n : ℕ) → (node_at (program b) (suc n)).parent ≤ n
  unfolding program node_at context_of
  parent_below n =
      let e : suc n - 1 ≡ n = omega arith in
      rw e (at_up (λ (c : Context). c.parent ≤ n) (context_of b) _ 0 (size b contexts) n (λ l. rw zero-add (P.context n l).parent) (omega arith))

  pub literal_good : (t : ℕ) → t < size b terms → kind_of (field b terms t 0) ≡ custom_literal → GoodLiteral b t
  unfolding GoodKind
  literal_good t l e = subst (λ (k : Kind). GoodKind k b t) e (P.term t l).fields

  pub builtin_good : (t : ℕ) → t < size b terms → kind_of (field b terms t 0) ≡ built_in → GoodBuiltIn b t
  unfolding GoodKind
  builtin_good t l e = subst (λ (k : Kind). GoodKind k b t) e (P.term t l).fields

  module _ (A : Asked)
      (constant_is : (k : ℕ) → k < size b constants → A.constant (constant_of b k))
      (builtin-is : (t : ℕ) → t < size b terms → kind_of (field b terms t 0) ≡ built_in → A.operator (BuiltInOperator (name_text b (field b terms t 1))))
      (function_is : (k : ℕ) → k < size b functions → A.operator (UserDefinedFunction (function_of b k)))
      (literal-is : (t : ℕ) → t < size b terms → kind_of (field b terms t 0) ≡ custom_literal → A.literal t (literal_of b t)) where
    every_child : (child : ℕ → RExpr) → ((c : ℕ) → EveryR A (child c)) → (cs : List ℕ) → EveryRs A (to_rexprs child cs)
    unfolding to_rexprs
    every_child child h [] = tt
    every_child child h (c ∷ cs) = (h c, every_child child h cs)

    every_pattern : (child : ℕ → RExpr) → ((c : ℕ) → EveryR A (child c)) → (ps : List ℕ) → EveryPs A (to_rpatterns (pattern_of b child) ps)
    unfolding to_rpatterns pattern_of args_of
    every_pattern child h [] = tt
    every_pattern child h (p ∷ ps) = (every_child child h _, every_pattern child h ps)

    every_by : (child : ℕ → RExpr) → ((c : ℕ) → EveryR A (child c)) → (t : ℕ) → t < size b terms → (k : Kind) → kind_of (field b terms t 0) ≡ k → GoodKind k b t
        → EveryR A (term_by b k child t)
    unfolding term_by GoodKind args_of
    every_by child kids t l boolean e g = tt
    every_by child kids t l integer e g = tt
    every_by child kids t l custom_literal e g = literal-is t l e
    every_by child kids t l id e g = constant_is _ g
    every_by child kids t l built_in e g = (builtin-is t l e, every_child child kids _)
    every_by child kids t l application e g = (function_is _ g.function, every_child child kids _)
    every_by child kids t l if_then_else e g = (kids _, kids _, kids _)
    every_by child kids t l let_expr e g = (constant_is _ g.v, kids _, kids _)
    every_by child kids t l quantifier_expr e g = (
      all_map A.constant (λ k. k < size b constants) (constant_of b) constant_is (entries_each b (λ k. k < size b constants) _ _ g.vars.below),
      every_pattern child kids _,
      kids _,
    )

    every_first : (n : ℕ) → n ≤ size b terms → All (EveryR A) (first_terms b n)
    unfolding first_terms term_over
    every_first zero l = end
    every_first (suc n) l =
        let before = every_first n (omega arith) in
        all_append before (more (every_by (λ c. get_or (first_terms b n) c (Boolean false)) (λ c. all_get_d before c (Boolean false) tt) n l (kind_of (field b terms n 0)) refl (P.term n l).fields) end)

    pub every_term : (t : ℕ) → t < size b terms → EveryR A (term b t)
    unfolding term
    every_term t l = all_get_d (every_first (suc t) l) t (Boolean false) tt

    pub every_node : (n : ℕ) → EveryR A (node_at (program b) n).expr
    unfolding program node_at context_of
    every_node n =
        at_up (λ (c : Context). EveryR A c.expr) (context_of b) _ 0 (size b contexts) (n - 1) (λ l. rw zero-add (every_term _ (P.context (n - 1) l).term)) tt

    every_own : (k : ℕ) → k < size b axioms → (x : Bool) → eqb (field b axioms k 0) no_term ≡ x → EveryTerm A (axiom_term b x (field b axioms k 0))
    unfolding axiom_term
    every_own k l true e = tt
    every_own k l false e = every_term _ ((P.axiom' k l).term (eqb-false (field b axioms k 0) no_term e))

    pub every_axiom : (k : ℕ) → EveryTerm A (axiom_at (program b) k).term
    unfolding program axiom_of
    every_axiom k =
        at_up (λ (a : Axiom). EveryTerm A a.term) (axiom_of b) _ 0 (size b axioms) k (λ l. rw zero-add (every_own k l (eqb (field b axioms k 0) no_term) refl)) tt
