-- Pop `requires stack.Cons?`: the walk asks for no Pop, SetContext for none of an empty stack, and Prove ends where its own item stands.
-- So it makes no difference what a Pop of an empty stack does (bodies_or).
use Prim.Native.Nat.{ℕ, zero, suc, ◌-◌, ◌≤◌, ◌<◌}
use native.Mathlib.Nat.{not-suc-le-zero}
use native.Mathlib.Omega.{arith}
use mathlib.Core.Path.{◌≡◌, refl, ap, ◌∙◌}
use mathlib.Core.Option.{Option, none, some}
use mathlib.Core.Bool.{Bool, true, false, not, ◌||◌}
use mathlib.Core.List.{List, [], ◌∷◌}
use lib.Dec.{ltb}
use lib.ListN.{length}
use borrow.Author.Tests.{ltb-false}
use Rattle.basics.specs.Lists.{all, member}
use Rattle.book.specs.SType.{SType, SBool, SInt, SUserType}
use Rattle.book.specs.RExpr.{RExpr, RExprs, RPatterns, is_tag, ROperator, BuiltInOperator, UserDefinedFunction, Boolean, Integer, CustomLiteral, Id, FuncAppl, IfThenElse, LetExpr, QuantifierExpr, []ʳ, ◌∷ʳ◌, []ᵖ, ◌∷ᵖ◌}
use Rattle.book.specs.Program.{Program, axiom_at, node_at, depth}
use Rattle.solver_expr.specs.Lowering.{literal_name}
use Rattle.smt_engines.specs.Command.{Pop}
use Rattle.rsolver.specs.Step.{Step, skip, ◌⨟◌, for, do_unless, unless, do_either, either}
use Rattle.rsolver.specs.Methods.{constant, function, axiom', Methods, with_pop}
use Rattle.rsolver.specs.SolverState.{StackItem, SolverState, is_top, pop_to, popped, pop_to_or, popped_or, told, bodies, bodies_or}
use Rattle.rsolver.specs.REngine.{with_constants, declare_type, declare_constant, declare_function, declare_literal, assume, assume_not, check, ask_model, end_check, declare_new_types, declare_type_of, send_axiom, include_axiom, declare_operator, declare_symbols, declare_all_symbols, declare_pattern_symbols, walk, declare_new_symbols, enter, adjust_context, pop_times, set_context, ask_goal, close_goal}
use Rattle.rsolver.proofs.ContractsContext.{pop_length, ask_length}

-- ---- the walk never pops: methods that differ in Pop alone take the same steps
module _ {S : Type 0} (M : Methods S) (pop : Step S) where
  types_same : (typ : SType) → declare_new_types (with_pop pop M) typ ≡ declare_new_types M typ
  unfolding declare_new_types declare_type
  types_same SBool = refl
  types_same SInt = refl
  types_same (SUserType decl) = refl

  module _ (p : Program) where
    module _ (inner' inner : RExpr → List ℕ → Step S) (inner-same : (e : RExpr) (x : List ℕ) → inner' e x ≡ inner e x) where
      axiom_same : (x : List ℕ) (k : ℕ) (explains : List ℕ) (term : Option RExpr)
          → send_axiom (with_pop pop M) p inner' x k explains term ≡ send_axiom M p inner x k explains term
      unfolding send_axiom assume
      axiom_same x k explains none = refl
      axiom_same x k explains (some cond) = λ i.
          unless (λ s. M.is_declared (axiom' k) s || not (all explains (λ f. M.is_declared (function f) s)))
          (M.add_declaration_marker (axiom' k) ⨟ inner-same cond [] i ⨟ assume M cond)

      operator_same : (op : ROperator) (x : List ℕ) → declare_operator (with_pop pop M) p inner' op x ≡ declare_operator M p inner op x
      unfolding declare_operator include_axiom declare_function
      operator_same (BuiltInOperator name) x = refl
      operator_same (UserDefinedFunction func) x = λ i.
          unless (M.is_declared (function func.number))
          (for func.input_types (λ typ. types_same typ i)
          ⨟ types_same func.typ i
          ⨟ declare_function M func
          ⨟ for func.explained_by (λ k. axiom_same x k (axiom_at p k).explains (axiom_at p k).term i))

      mutual
        unfolding declare_symbols declare_type_of declare_literal declare_constant

        symbols_in_same : (e : RExpr) (x : List ℕ) → declare_symbols (with_pop pop M) p inner' e x ≡ declare_symbols M p inner e x
        symbols_in_same (Boolean b) x = refl
        symbols_in_same (Integer n) x = refl
        symbols_in_same (CustomLiteral k l) x = λ i.
            unless (λ s. is_tag l || M.is_named (literal_name l) s) (types_same l.typ i ⨟ declare_literal M k l)
        symbols_in_same (Id v) x = λ i.
            unless (λ s. member v.number x || M.is_declared (constant v.number) s) (types_same v.typ i ⨟ declare_constant M v)
        symbols_in_same (FuncAppl op args) x = λ i. operator_same op x i ⨟ all_symbols_same args x i
        symbols_in_same (IfThenElse guard thn els) x = λ i. symbols_in_same guard x i ⨟ symbols_in_same thn x i ⨟ symbols_in_same els x i
        symbols_in_same (LetExpr v rhs body) x = λ i.
            types_same v.typ i ⨟ symbols_in_same rhs x i ⨟ symbols_in_same body (v.number ∷ x) i
        symbols_in_same (QuantifierExpr univ vv patterns body) x = λ i.
            for vv (λ v. types_same v.typ i)
            ⨟ pattern_symbols_same patterns (with_constants vv x) i
            ⨟ symbols_in_same body (with_constants vv x) i

        all_symbols_same : (es : RExprs) (x : List ℕ) → declare_all_symbols (with_pop pop M) p inner' es x ≡ declare_all_symbols M p inner es x
        all_symbols_same []ʳ x = refl
        all_symbols_same (e ∷ʳ es) x = λ i. symbols_in_same e x i ⨟ all_symbols_same es x i

        pattern_symbols_same : (ps : RPatterns) (x : List ℕ)
            → declare_pattern_symbols (with_pop pop M) p inner' ps x ≡ declare_pattern_symbols M p inner ps x
        pattern_symbols_same []ᵖ x = refl
        pattern_symbols_same (q ∷ᵖ ps) x = λ i. all_symbols_same q x i ⨟ pattern_symbols_same ps x i

    walk_same : (fuel : ℕ) (e : RExpr) (x : List ℕ) → walk (with_pop pop M) p fuel e x ≡ walk M p fuel e x
    unfolding walk
    walk_same zero e x = refl
    walk_same (suc fuel) e x = symbols_in_same _ _ (λ cond y. walk_same fuel cond y) e x

    symbols_same : (e : RExpr) → declare_new_symbols (with_pop pop M) p e ≡ declare_new_symbols M p e
    unfolding declare_new_symbols
    symbols_same e = walk_same _ e []

    enter_same : (node : ℕ) → enter (with_pop pop M) p node ≡ enter M p node
    unfolding enter assume
    enter_same node = λ i. M.push node ⨟ symbols_same (node_at p node).expr i ⨟ assume M (node_at p node).expr

    -- Prove up to the check
    pub ask_same : (node : ℕ) (e : RExpr) → ask_goal (with_pop pop M) p node e ≡ ask_goal M p node e
    unfolding ask_goal check assume_not
    ask_same node e = λ i. M.push node ⨟ symbols_same e i ⨟ check M e

-- ---- whatever a Pop of an empty stack does
module _ (wrong : Step SolverState) where
  pop_same : (s : SolverState) → 0 < length s.stack → popped_or wrong s ≡ popped s
  unfolding popped_or pop_to_or popped
  pop_same s h = at s.stack h
    where
      at : (items : List StackItem) → 0 < length items → pop_to_or wrong items s ≡ pop_to items s
      at [] h = absurd (not-suc-le-zero h)
      at (item ∷ items) h = refl

  -- the end of Prove
  pub close_same : (s : SolverState) → 0 < length s.stack → close_goal (bodies_or wrong) s ≡ close_goal bodies s
  unfolding close_goal end_check ◌⨟◌ told
  close_same s h = pop_same (told Pop s) h

  module _ (p : Program) where
    pop_times_same : (n : ℕ) (s : SolverState) → n ≤ length s.stack → pop_times (bodies_or wrong) p n s ≡ pop_times bodies p n s
    unfolding pop_times
    pop_times_same zero s h = refl
    pop_times_same (suc n) s h =
        ap (pop_times (bodies_or wrong) p n) (pop_same s (omega arith)) ∙ pop_times_same n (popped s) (omega (arith, pop_length s))

    -- AdjustContext pops where the stack is as long as a node's depth, which is not 0
    adjust_same : (d node : ℕ) (s : SolverState) → adjust_context (bodies_or wrong) p d node s ≡ adjust_context bodies p d node s
    unfolding adjust_context skip ◌⨟◌ either do_either unless do_unless
    adjust_same zero node s = refl
    adjust_same (suc d) node s =
        at (λ t i. enter_same bodies (popped_or wrong) p node i (adjust_same d (node_at p node).parent t i)) (ltb (length s.stack) (suc d)) refl
      where
        next' : Step SolverState
        next' t = enter (bodies_or wrong) p node (adjust_context (bodies_or wrong) p d (node_at p node).parent t)

        next : Step SolverState
        next t = enter bodies p node (adjust_context bodies p d (node_at p node).parent t)

        full : ((t : SolverState) → next' t ≡ next t) → suc d ≤ length s.stack → (b : Bool)
            → do_unless b (λ t. next' (popped_or wrong t)) s ≡ do_unless b (λ t. next (popped t)) s
        full ih h true = refl
        full ih h false = ap next' (pop_same s (omega arith)) ∙ ih (popped s)

        at : ((t : SolverState) → next' t ≡ next t) → (b : Bool) → ltb (length s.stack) (suc d) ≡ b
            → do_either b next' (unless (λ t. is_top node t.stack) (λ t. next' (popped_or wrong t))) s
            ≡ do_either b next (unless (λ t. is_top node t.stack) (λ t. next (popped t))) s
        at ih true e = ih s
        at ih false e = full ih (ltb-false (length s.stack) (suc d) e) (is_top node s.stack)

    pub set_same : (node : ℕ) (s : SolverState) → set_context (bodies_or wrong) p node s ≡ set_context bodies p node s
    unfolding set_context
    set_same node s =
        ap (adjust_context (bodies_or wrong) p (depth p node) node) (pop_times_same (length s.stack - depth p node) s (omega arith))
        ∙ adjust_same (depth p node) node (pop_times bodies p (length s.stack - depth p node) s)

    -- Prove to its end, without a model and with one
    pub prove_same : (node : ℕ) (e : RExpr) (s : SolverState)
        → close_goal (bodies_or wrong) (ask_goal (bodies_or wrong) p node e s) ≡ close_goal bodies (ask_goal bodies p node e s)
    prove_same node e s =
        ap (λ (f : Step SolverState). close_goal (bodies_or wrong) (f s)) (ask_same bodies (popped_or wrong) p node e)
        ∙ close_same (ask_goal bodies p node e s) (ask_length p node e s)

    pub prove_model_same : (node : ℕ) (e : RExpr) (s : SolverState)
        → close_goal (bodies_or wrong) (ask_model (bodies_or wrong) (ask_goal (bodies_or wrong) p node e s)) ≡ close_goal bodies (ask_model bodies (ask_goal bodies p node e s))
    unfolding ask_model told
    prove_model_same node e s =
        ap (λ (f : Step SolverState). close_goal (bodies_or wrong) (ask_model (bodies_or wrong) (f s))) (ask_same bodies (popped_or wrong) p node e)
        ∙ close_same (ask_model bodies (ask_goal bodies p node e s)) (ask_length p node e s)
