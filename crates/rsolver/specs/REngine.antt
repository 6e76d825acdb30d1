-- RSolver.dfy: class REngine, on a program that a book holds, over either form of the solver state.
use Rattle.std.specs.Prelude.{ℕ, zero, suc, ◌-◌, List, [], ◌∷◌, Bool, true, false, not, ◌||◌, ltb, length}
use Rattle.std.proofs.Math.Option.{Option, none, some}
use Rattle.basics.specs.Lists.{all, member}
use Rattle.book.specs.SType.{STypeDecl, SType, SBool, SInt, SUserType, SConstant}
use Rattle.book.specs.RExpr.{RExpr, RExprs, RPatterns, Function, Literal, is_tag, ROperator, BuiltInOperator, UserDefinedFunction, Boolean, Integer, CustomLiteral, Id, FuncAppl, IfThenElse, LetExpr, QuantifierExpr, []ʳ, ◌∷ʳ◌, []ᵖ, ◌∷ᵖ◌}
use Rattle.book.specs.Program.{Program, axiom_at, node_at, depth}
use Rattle.solver_expr.specs.Lowering.{literal_name}
use Rattle.smt_engines.specs.Command.{Push, Pop, CheckSat, GetModel, Assume, AssumeNot, DeclareSort, DeclareConstant, DeclareFunction, DeclareLiteral}
use Rattle.rsolver.specs.Step.{Step, skip, ◌⨟◌, for, unless, either}
use Rattle.rsolver.specs.Methods.{type, constant, function, axiom', Methods}

-- exclude' := exclude + {v} for each v; constants are told apart by their numbers
unfoldable pub with_constants : List SConstant → List ℕ → List ℕ
with_constants [] exclude = exclude
with_constants (v ∷ vv) exclude = with_constants vv (v.number ∷ exclude)

module _ {S : Type 0} (M : Methods S) where
  -- state.DeclareType(decl, decl)
  unfoldable pub declare_type : STypeDecl → Step S
  declare_type decl = M.send (DeclareSort decl) ⨟ M.add_declaration_marker (type decl.number)

  -- state.DeclareSymbol(v, v)
  unfoldable pub declare_constant : SConstant → Step S
  declare_constant v = M.send (DeclareConstant v) ⨟ M.add_declaration_marker (constant v.number)

  -- state.DeclareSymbol(decl, func)
  unfoldable pub declare_function : Function → Step S
  declare_function func = M.send (DeclareFunction func) ⨟ M.add_declaration_marker (function func.number)

  -- state.DeclareAdditionalName(c, name)
  unfoldable pub declare_literal : ℕ → Literal → Step S
  declare_literal t l = M.send (DeclareLiteral l) ⨟ M.add_name t (literal_name l)

  -- state.AddAssumption(e.ToSExpr(LiteralMapper()))
  unfoldable pub assume : RExpr → Step S
  assume e s = M.send (Assume e (M.declared_count s)) s

  unfoldable pub assume_not : RExpr → Step S
  assume_not e s = M.send (AssumeNot e (M.declared_count s)) s

  -- state.Prove(e.ToSExpr(LiteralMapper())): up to the check; behind it GetModel, where the reply asks for it; and its last statement
  unfoldable pub check : RExpr → Step S
  check e = M.send Push ⨟ assume_not e ⨟ M.send CheckSat

  unfoldable pub ask_model : Step S
  ask_model = M.send GetModel

  unfoldable pub end_check : Step S
  end_check = M.send Pop

  unfoldable pub declare_new_types : SType → Step S
  declare_new_types SBool = skip
  declare_new_types SInt = skip
  declare_new_types (SUserType decl) = unless (M.is_declared (type decl.number)) (declare_type decl)

  unfoldable pub declare_type_of : SConstant → Step S
  declare_type_of v = declare_new_types v.typ

  module _ (p : Program) where
    -- DeclareNewSymbols; `inner` is the same for an axiom's term
    module _ (inner : RExpr → (exclude : List ℕ) → Step S) where
      -- An axiom that is not in axiomMap is missed, whether or not it would be sent. The exclusions in force, which the body has in
      -- scope here, are not those of the axiom: nothing is excluded in it.
      unfoldable pub send_axiom : (exclude : List ℕ) → ℕ → List ℕ → Option RExpr → Step S
      send_axiom exclude k explains none = M.miss
      send_axiom exclude k explains (some cond) =
          unless (λ s. M.is_declared (axiom' k) s || not (all explains (λ f. M.is_declared (function f) s)))
          (M.add_declaration_marker (axiom' k) ⨟ inner cond [] ⨟ assume cond)

      unfoldable pub include_axiom : (exclude : List ℕ) → ℕ → Step S
      include_axiom exclude k = send_axiom exclude k (axiom_at p k).explains (axiom_at p k).term

      unfoldable pub declare_operator : ROperator → (exclude : List ℕ) → Step S
      declare_operator (BuiltInOperator name) exclude = skip
      declare_operator (UserDefinedFunction func) exclude =
          unless (M.is_declared (function func.number))
          (for func.input_types declare_new_types
          ⨟ declare_new_types func.typ
          ⨟ declare_function func
          ⨟ for func.explained_by (include_axiom exclude))

      unfoldable mutual
        pub declare_symbols : RExpr → (exclude : List ℕ) → Step S
        declare_symbols (Boolean b) exclude = skip
        declare_symbols (Integer x) exclude = skip
        declare_symbols (CustomLiteral t l) exclude =
            unless (λ s. is_tag l || M.is_named (literal_name l) s) (declare_new_types l.typ ⨟ declare_literal t l)
        declare_symbols (Id v) exclude =
            unless (λ s. member v.number exclude || M.is_declared (constant v.number) s)
            (declare_new_types v.typ ⨟ declare_constant v)
        declare_symbols (FuncAppl op args) exclude = declare_operator op exclude ⨟ declare_all_symbols args exclude
        declare_symbols (IfThenElse guard thn els) exclude =
            declare_symbols guard exclude ⨟ declare_symbols thn exclude ⨟ declare_symbols els exclude
        declare_symbols (LetExpr v rhs body) exclude =
            declare_new_types v.typ ⨟ declare_symbols rhs exclude ⨟ declare_symbols body (v.number ∷ exclude)
        declare_symbols (QuantifierExpr univ vv patterns body) exclude =
            for vv declare_type_of
            ⨟ declare_pattern_symbols patterns (with_constants vv exclude)
            ⨟ declare_symbols body (with_constants vv exclude)

        pub declare_all_symbols : RExprs → (exclude : List ℕ) → Step S
        declare_all_symbols []ʳ exclude = skip
        declare_all_symbols (e ∷ʳ es) exclude = declare_symbols e exclude ⨟ declare_all_symbols es exclude

        pub declare_pattern_symbols : RPatterns → (exclude : List ℕ) → Step S
        declare_pattern_symbols []ᵖ exclude = skip
        declare_pattern_symbols (t ∷ᵖ ts) exclude = declare_all_symbols t exclude ⨟ declare_pattern_symbols ts exclude

    -- an axiom is sent once, so walks nest no deeper than there are axioms
    unfoldable pub walk : (fuel : ℕ) → RExpr → (exclude : List ℕ) → Step S
    walk zero e exclude = skip
    walk (suc fuel) e exclude = declare_symbols (λ cond x. walk fuel cond x) e exclude

    unfoldable pub declare_new_symbols : RExpr → Step S
    declare_new_symbols e = walk (suc (length p.axioms)) e []

    -- the last three statements of AdjustContext
    unfoldable pub enter : ℕ → Step S
    enter node = M.push node ⨟ declare_new_symbols (node_at p node).expr ⨟ assume (node_at p node).expr

    -- AdjustContext, of a node of depth d
    unfoldable pub adjust_context : (d node : ℕ) → Step S
    adjust_context zero node = skip
    adjust_context (suc d) node =
        let adjust_parent : Step S = λ s. adjust_context d (node_at p node).parent s in
        either (λ s. ltb (M.stack_length s) (suc d))
        (adjust_parent ⨟ enter node)
        (unless (M.is_top_memo node) (M.pop ⨟ adjust_parent ⨟ enter node))

    unfoldable pub pop_times : ℕ → Step S
    pop_times zero s = s
    pop_times (suc n) s = pop_times n (M.pop s)

    unfoldable pub set_context : ℕ → Step S
    set_context node s = adjust_context (depth p node) node (pop_times (M.stack_length s - depth p node) s)

    -- Prove behind SetContext, up to the check in state.Prove
    unfoldable pub ask_goal : ℕ → RExpr → Step S
    ask_goal node e = M.push node ⨟ declare_new_symbols e ⨟ check e

  -- the end of both: in state.Prove a pop of the solver alone, and state.Pop
  unfoldable pub close_goal : Step S
  close_goal = end_check ⨟ M.pop
