-- Valid() as requires and ensures of the methods, of the bodies' state: each keeps it, where no name that it sends holds a line end. A tested
-- book has only such names.
use Prim.Native.Nat.{ℕ, zero, suc, ◌+◌, ◌<◌}
use native.Mathlib.Omega.{arith}
use mathlib.Core.Path.{◌≡◌, refl, sym, ap, ◌∙◌}
use mathlib.Core.Option.{Option, none, some}
use mathlib.Core.Bool.{Bool, true, false}
use mathlib.Core.List.{List, [], ◌∷◌, ◌++◌}
use lib.ListN.{length}
use Rattle.basics.specs.Text.{Text}
use Rattle.basics.proofs.All.{All, end, more, all_append}
use Rattle.basics.proofs.Clean.{Clean}
use Rattle.book.specs.SType.{SType, STypeDecl, SBool, SInt, SUserType, SConstant}
use Rattle.book.specs.RExpr.{RExpr, RExprs, RPatterns, Function, Literal, ROperator, BuiltInOperator, UserDefinedFunction, Boolean, Integer, CustomLiteral, Id, FuncAppl, IfThenElse, LetExpr, QuantifierExpr, []ʳ, ◌∷ʳ◌, []ᵖ, ◌∷ᵖ◌}
use Rattle.book.specs.Program.{Program, axiom_at, node_at}
use Rattle.book.proofs.Every.{EveryRs, EveryPs, EveryTerm}
use Rattle.solver_expr.proofs.Clean.{CleanType, CleanConstant, CleanFunction, CleanLiteral, CleanOperator, cleanly, CleanR}
use Rattle.smt_engines.specs.Command.{Command, Push, Pop, CheckSat, GetModel, command_to_string, script}
use Rattle.smt_engines.specs.Reader.{cut, lines, Stack, first, over, height, live, Kind, join, hear_kind, hear, hear_all, read}
use Rattle.smt_engines.proofs.Commands.{Plain, plain_assume, plain_assume_not, plain_sort, plain_constant, plain_function, plain_literal}
use Rattle.smt_engines.proofs.Hearing.{Whole, hears, hears_append, hears_push, hears_pop, hears_check, hears_model, whole_push, whole_pop, whole_check, whole_model, read_script}
use Rattle.rsolver.specs.Step.{Step, skip, ◌⨟◌, for, do_unless, unless}
use Rattle.rsolver.specs.Methods.{Marker}
use Rattle.rsolver.specs.SolverState.{StackItem, SolverState, new_solver, pushed, pop_to, popped, told, marked, named, missed, bodies, Valid}
use Rattle.rsolver.specs.REngine.{with_constants, declare_type, declare_constant, declare_function, declare_literal, assume, assume_not, check, ask_model, end_check, declare_new_types, declare_type_of, send_axiom, include_axiom, declare_operator, declare_symbols, declare_all_symbols, declare_pattern_symbols, walk, declare_new_symbols, enter, adjust_context, set_context, ask_goal, close_goal}
use Rattle.rsolver.proofs.ContractsContext.{pop_length, ask_length, adjust_keeps, set_keeps}

-- Valid, and each command so far is one line
pub record ValidLines (inner : ℕ) (s : SolverState) : Type 0 where
  pub valid : Valid inner s
  pub wholes : All Whole s.sent

-- ---- one command more
reads_more : (cs : List Command) (c : Command) (st st' : Stack) → All Whole cs → Whole c → read (script cs) ≡ live st
    → hears (live st) (c ∷ []) ≡ live st' → read (script (cs ++ (c ∷ []))) ≡ live st'
reads_more cs c st st' hs h r e =
    read_script (all_append hs (more h end)) ∙ hears_append (live (first [])) cs (c ∷ []) ∙ ap (λ x. hears x (c ∷ [])) (sym (read_script hs) ∙ r) ∙ e

sends : {n : ℕ} {s : SolverState} (v : ValidLines n s) (c : Command) → Whole c → (st : Stack) → hears (live v.valid.command_stacks) (c ∷ []) ≡ live st
    → (m : ℕ) (t : SolverState) → t.sent ≡ s.sent ++ (c ∷ []) → height st ≡ m + suc (length t.stack) → ValidLines m t
sends {s = s} v c h st e m t k l =
    record {
      valid =
          record {
            command_stacks = st;
            reads = ap (λ cs. read (script cs)) k ∙ reads_more s.sent c v.valid.command_stacks st v.wholes h v.valid.reads e;
            lengths = l;
          };
      wholes = rw k (all_append v.wholes (more h end));
    }

hears_one : (c : Command) → Plain c → (st : Stack) → hears (live st) (c ∷ []) ≡ live (join st (command_to_string c ∷ []))
unfolding hears hear_all hear hear_kind lines
hears_one c h st = ap (λ (k : Kind). hear_kind k (command_to_string c) st) h.joins

join_height : (st : Stack) (l : List Text) → height (join st l) ≡ height st
unfolding join height
join_height (first k) l = refl
join_height (over k st) l = refl

-- ---- Solvers.dfy
pub new_valid : ValidLines 0 new_solver
unfolding new_solver script read cut hear_all height
new_valid = record { valid = record { command_stacks = first []; reads = refl; lengths = refl }; wholes = end }

pub push_valid : (memo : ℕ) (s : SolverState) → ValidLines 0 s → ValidLines 0 (pushed memo s)
unfolding pushed height
push_valid memo s v =
    let st = v.valid.command_stacks in
    sends v Push whole_push (over (lines []) st) (hears_push st end) 0 (pushed memo s) refl (omega (arith, v.valid.lengths))

pop_sent : (s : SolverState) → (popped s).sent ≡ s.sent ++ (Pop ∷ [])
unfolding popped pop_to
pop_sent s = at s.stack
  where
    at : (items : List StackItem) → (pop_to items s).sent ≡ s.sent ++ (Pop ∷ [])
    at [] = refl
    at (item ∷ items) = refl

-- of a stack that is not empty
pub pop_valid : (s : SolverState) → 0 < length s.stack → ValidLines 0 s → ValidLines 0 (popped s)
unfolding height
pop_valid s h v = at v.valid.command_stacks refl
  where
    at : (st : Stack) → v.valid.command_stacks ≡ st → ValidLines 0 (popped s)
    at (first l) e = absurd (omega (arith, v.valid.lengths, ap height e))
    at (over l st) e =
        sends v Pop whole_pop st (ap (λ x. hears (live x) (Pop ∷ [])) e ∙ hears_pop l st) 0 (popped s) (pop_sent s)
        (omega (arith, v.valid.lengths, ap height e, pop_length s))

-- DeclareSymbolByName
pub told_valid : {n : ℕ} (c : Command) → Plain c → (s : SolverState) → ValidLines n s → ValidLines n (told c s)
unfolding told
told_valid {n} c h s v =
    let st = v.valid.command_stacks in
    sends v c h.one (join st (command_to_string c ∷ [])) (hears_one c h st) n (told c s) refl (join_height st _ ∙ v.valid.lengths)

-- AddAssumption
pub assume_valid : {n : ℕ} (e : RExpr) → CleanR e → (s : SolverState) → ValidLines n s → ValidLines n (assume bodies e s)
unfolding assume
assume_valid e h s v = told_valid _ (plain_assume e _ h) s v

assume_not_valid : {n : ℕ} (e : RExpr) → CleanR e → (s : SolverState) → ValidLines n s → ValidLines n (assume_not bodies e s)
unfolding assume_not
assume_not_valid e h s v = told_valid _ (plain_assume_not e _ h) s v

-- what is not sent
unsent : {n : ℕ} {s t : SolverState} → ValidLines n s → t.sent ≡ s.sent → t.stack ≡ s.stack → ValidLines n t
unsent {n} v e f =
    record {
      valid =
          record {
            command_stacks = v.valid.command_stacks;
            reads = ap (λ cs. read (script cs)) e ∙ v.valid.reads;
            lengths = v.valid.lengths ∙ ap (λ st. n + suc (length st)) (sym f);
          };
      wholes = rw e v.wholes;
    }

-- AddDeclarationMarker
pub marker_valid : {n : ℕ} (m : Marker) (s : SolverState) → ValidLines n s → ValidLines n (marked m s)
unfolding marked
marker_valid m s v = unsent v refl refl

name_valid : {n : ℕ} (name : Text) (s : SolverState) → ValidLines n s → ValidLines n (named name s)
unfolding named
name_valid name s v = unsent v refl refl

miss_valid : {n : ℕ} (s : SolverState) → ValidLines n s → ValidLines n (missed s)
unfolding missed
miss_valid s v = unsent v refl refl

pub declare_type_valid : {n : ℕ} (decl : STypeDecl) → Clean decl.name → (s : SolverState) → ValidLines n s → ValidLines n (declare_type bodies decl s)
unfolding declare_type ◌⨟◌
declare_type_valid decl h s v = marker_valid _ _ (told_valid _ (plain_sort decl h) s v)

-- DeclareSymbol, of a constant and of a function
pub declare_constant_valid : {n : ℕ} (c : SConstant) → CleanConstant c → (s : SolverState) → ValidLines n s → ValidLines n (declare_constant bodies c s)
unfolding declare_constant ◌⨟◌
declare_constant_valid c h s v = marker_valid _ _ (told_valid _ (plain_constant c h) s v)

pub declare_function_valid : {n : ℕ} (f : Function) → CleanFunction f → (s : SolverState) → ValidLines n s → ValidLines n (declare_function bodies f s)
unfolding declare_function ◌⨟◌
declare_function_valid f h s v = marker_valid _ _ (told_valid _ (plain_function f h) s v)

-- DeclareAdditionalName
pub declare_literal_valid : {n : ℕ} (t : ℕ) (l : Literal) → CleanLiteral l → (s : SolverState) → ValidLines n s → ValidLines n (declare_literal bodies t l s)
unfolding declare_literal ◌⨟◌
declare_literal_valid t l h s v = name_valid _ _ (told_valid _ (plain_literal l h) s v)

-- Prove: a level more up to its end
pub check_valid : (e : RExpr) → CleanR e → (s : SolverState) → ValidLines 0 s → ValidLines 1 (check bodies e s)
unfolding check ◌⨟◌ told height
check_valid e h s v =
    let st = v.valid.command_stacks in
    let inside : ValidLines 1 (told Push s) =
    sends v Push whole_push (over (lines []) st) (hears_push st end) 1 (told Push s) refl (omega (arith, v.valid.lengths)) in
    let d = assume_not_valid e h (told Push s) inside in
    sends d CheckSat whole_check d.valid.command_stacks (hears_check _) 1 _ refl d.valid.lengths

pub model_valid : {n : ℕ} (s : SolverState) → ValidLines n s → ValidLines n (ask_model bodies s)
unfolding ask_model told
model_valid {n} s v = sends v GetModel whole_model v.valid.command_stacks (hears_model _) n _ refl v.valid.lengths

pub end_valid : (s : SolverState) → ValidLines 1 s → ValidLines 0 (end_check bodies s)
unfolding end_check told height
end_valid s v = at v.valid.command_stacks refl
  where
    at : (st : Stack) → v.valid.command_stacks ≡ st → ValidLines 0 (told Pop s)
    at (first l) e = absurd (omega (arith, v.valid.lengths, ap height e))
    at (over l st) e =
        sends v Pop whole_pop st (ap (λ x. hears (live x) (Pop ∷ [])) e ∙ hears_pop l st) 0 (told Pop s) refl (omega (arith, v.valid.lengths, ap height e))

-- ---- RSolver.dfy
close_valid : (s : SolverState) → 0 < length s.stack → ValidLines 1 s → ValidLines 0 (close_goal bodies s)
unfolding close_goal ◌⨟◌ end_check told
close_valid s h v = pop_valid (told Pop s) h (end_valid s v)

abbrev Keeping : Step SolverState → Type 0
Keeping f = (s : SolverState) → ValidLines 0 s → ValidLines 0 (f s)

skip_v : Keeping skip
unfolding skip
skip_v s v = v

then_v : {f g : Step SolverState} → Keeping f → Keeping g → Keeping (f ⨟ g)
unfolding ◌⨟◌
then_v {f} F G s v = G (f s) (F s v)

for_v : {A : Type 0} {P : A → Type 0} {xs : List A} {body : A → Step SolverState} → All P xs → ((x : A) → P x → Keeping (body x)) → Keeping (for xs body)
unfolding for skip ◌⨟◌
for_v end h = skip_v
for_v (more {a = x} k ks) h = then_v (h x k) (for_v ks h)

any_v : {A : Type 0} (xs : List A) {body : A → Step SolverState} → ((x : A) → Keeping (body x)) → Keeping (for xs body)
unfolding for skip ◌⨟◌
any_v [] h = skip_v
any_v (x ∷ xs) h = then_v (h x) (any_v xs h)

unless_v : (test : SolverState → Bool) {f : Step SolverState} → Keeping f → Keeping (unless test f)
unfolding unless do_unless
unless_v test {f} F s v = at (test s)
  where
    at : (b : Bool) → ValidLines 0 (do_unless b f s)
    at true = v
    at false = F s v

-- DeclareNewTypes
pub types_valid : (typ : SType) → CleanType typ → Keeping (declare_new_types bodies typ)
unfolding declare_new_types
types_valid SBool h = skip_v
types_valid SInt h = skip_v
types_valid (SUserType decl) h = unless_v _ (declare_type_valid decl h)

-- where every axiom's term has such names
module _ (p : Program) (clean-axioms : (k : ℕ) → EveryTerm cleanly (axiom_at p k).term) where
  module _ (inner : RExpr → List ℕ → Step SolverState) (inner-v : (e : RExpr) (x : List ℕ) → CleanR e → Keeping (inner e x)) where
    axiom_v : (x : List ℕ) (k : ℕ) (fs : List ℕ) (t : Option RExpr) → EveryTerm cleanly t → Keeping (send_axiom bodies p inner x k fs t)
    unfolding send_axiom
    axiom_v x k fs none h = miss_valid
    axiom_v x k fs (some e) h = unless_v _ (then_v (marker_valid _) (then_v (inner-v e [] h) (assume_valid e h)))

    operator_v : (op : ROperator) (x : List ℕ) → CleanOperator op → Keeping (declare_operator bodies p inner op x)
    unfolding declare_operator include_axiom
    operator_v (BuiltInOperator n) x h = skip_v
    operator_v (UserDefinedFunction f) x h =
        unless_v _
        (then_v (for_v h.input_types types_valid)
        (then_v (types_valid f.typ h.typ)
        (then_v (declare_function_valid f h) (any_v f.explained_by (λ k. axiom_v x k _ _ (clean-axioms k))))))

    mutual
      unfolding declare_symbols declare_type_of

      symbols_in_v : (e : RExpr) (x : List ℕ) → CleanR e → Keeping (declare_symbols bodies p inner e x)
      symbols_in_v (Boolean b) x h = skip_v
      symbols_in_v (Integer n) x h = skip_v
      symbols_in_v (CustomLiteral t l) x h = unless_v _ (then_v (types_valid l.typ h.typ) (declare_literal_valid t l h))
      symbols_in_v (Id c) x h = unless_v _ (then_v (types_valid c.typ h.typ) (declare_constant_valid c h))
      symbols_in_v (FuncAppl op args) x h = then_v (operator_v op x h.0) (all_symbols_v args x h.1)
      symbols_in_v (IfThenElse g t e) x h = then_v (symbols_in_v g x h.0) (then_v (symbols_in_v t x h.1) (symbols_in_v e x h.2))
      symbols_in_v (LetExpr c r b) x h =
          then_v (types_valid c.typ h.0.typ) (then_v (symbols_in_v r x h.1) (symbols_in_v b (c.number ∷ x) h.2))
      symbols_in_v (QuantifierExpr u vv ps b) x h =
          then_v (for_v h.0 (λ c k. types_valid c.typ k.typ))
          (then_v (pattern_symbols_v ps (with_constants vv x) h.1) (symbols_in_v b (with_constants vv x) h.2))

      all_symbols_v : (es : RExprs) (x : List ℕ) → EveryRs cleanly es → Keeping (declare_all_symbols bodies p inner es x)
      all_symbols_v []ʳ x h = skip_v
      all_symbols_v (e ∷ʳ es) x h = then_v (symbols_in_v e x h.0) (all_symbols_v es x h.1)

      pattern_symbols_v : (ps : RPatterns) (x : List ℕ) → EveryPs cleanly ps → Keeping (declare_pattern_symbols bodies p inner ps x)
      pattern_symbols_v []ᵖ x h = skip_v
      pattern_symbols_v (q ∷ᵖ ps) x h = then_v (all_symbols_v q x h.0) (pattern_symbols_v ps x h.1)

  -- DeclareNewSymbols, with every `exclude`
  pub walk_valid : (fuel : ℕ) (e : RExpr) (exclude : List ℕ) → CleanR e → Keeping (walk bodies p fuel e exclude)
  unfolding walk
  walk_valid zero e x h = skip_v
  walk_valid (suc fuel) e x h = symbols_in_v _ (λ c y k. walk_valid fuel c y k) e x h

  symbols_valid : (e : RExpr) → CleanR e → Keeping (declare_new_symbols bodies p e)
  unfolding declare_new_symbols
  symbols_valid e h = walk_valid _ e [] h

  module _ (clean-nodes : (n : ℕ) → CleanR (node_at p n).expr) where
    enter_valid : (node : ℕ) → Keeping (enter bodies p node)
    unfolding enter
    enter_valid node =
        then_v (push_valid node) (then_v (symbols_valid (node_at p node).expr (clean-nodes node)) (assume_valid (node_at p node).expr (clean-nodes node)))

    -- AdjustContext
    pub adjust_valid : (d node : ℕ) → Keeping (adjust_context bodies p d node)
    adjust_valid d node s v = adjust_keeps p (ValidLines 0) enter_valid pop_valid d node s v

    -- SetContext
    pub set_valid : (node : ℕ) → Keeping (set_context bodies p node)
    set_valid node s v = set_keeps p (ValidLines 0) enter_valid pop_valid node s v

  -- Prove behind SetContext, up to the check
  pub ask_valid : (node : ℕ) (e : RExpr) → CleanR e → (s : SolverState) → ValidLines 0 s → ValidLines 1 (ask_goal bodies p node e s)
  unfolding ask_goal ◌⨟◌
  ask_valid node e h s v = check_valid e h _ (symbols_valid e h _ (push_valid node s v))

  -- to its end, without a model and with one
  pub prove_valid : (node : ℕ) (e : RExpr) → CleanR e → (s : SolverState) → ValidLines 0 s → ValidLines 0 (close_goal bodies (ask_goal bodies p node e s))
  prove_valid node e h s v = close_valid _ (ask_length p node e s) (ask_valid node e h s v)

  pub prove_model_valid : (node : ℕ) (e : RExpr) → CleanR e → (s : SolverState)
      → ValidLines 0 s → ValidLines 0 (close_goal bodies (ask_model bodies (ask_goal bodies p node e s)))
  unfolding ask_model told
  prove_model_valid node e h s v = close_valid _ (ask_length p node e s) (model_valid _ (ask_valid node e h s v))
