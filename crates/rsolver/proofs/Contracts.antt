-- The contracts of Solvers.dfy's methods, of the bodies' state: what each `ensures` says of the stack, the declarations and the names.
use Prim.Native.Nat.{ℕ}
use mathlib.Core.Path.{◌≡◌, refl, ◌∙◌}
use mathlib.Core.Bool.{true, false, ◌||◌}
use mathlib.Core.Logic.{◌⊎◌}
use mathlib.Core.List.{List, [], ◌∷◌}
use borrow.Author.Tests.{eqb-true, eq-eqb}
use Rattle.basics.specs.Text.{Text, same}
use Rattle.basics.proofs.Texts.{same_eq}
use Rattle.book.specs.SType.{STypeDecl, SConstant}
use Rattle.book.specs.RExpr.{RExpr, Function, Literal}
use Rattle.solver_expr.specs.Lowering.{literal_name}
use Rattle.smt_engines.specs.Command.{Command}
use Rattle.rsolver.specs.Step.{◌⨟◌}
use Rattle.rsolver.specs.Methods.{Marker, type, constant, function}
use Rattle.rsolver.specs.SolverState.{same_marker, is_in, StackItem, SolverState, new_solver, is_top, pushed, pop_to, popped, told, marked, named, bodies}
use Rattle.rsolver.specs.REngine.{declare_type, declare_constant, declare_function, declare_literal, assume, assume_not, check, ask_model, end_check}
use Rattle.rsolver.proofs.Sets.{marker_eq, with_list, in_with}

-- the constructor
pub new_ensures : (new_solver.stack ≡ []) × (new_solver.declarations ≡ []) × (new_solver.additional_declared_names ≡ [])
unfolding new_solver
new_ensures = (refl, refl, refl)

-- IsTopMemo: stack.Cons? && stack.head.memo == m
pub top_empty : (memo : ℕ) → is_top memo [] ≡ false
unfolding is_top
top_empty memo = refl

pub top_memo : (memo : ℕ) (item : StackItem) (items : List StackItem) → is_top memo (item ∷ items) ≡ true → item.memo ≡ memo
unfolding is_top
top_memo memo item items h = eqb-true item.memo memo h

pub memo_top : (memo : ℕ) (item : StackItem) (items : List StackItem) → item.memo ≡ memo → is_top memo (item ∷ items) ≡ true
unfolding is_top
memo_top memo item items h = eq-eqb item.memo memo h

-- ---- the old state s, and the new state t
-- stack, declarations and additional_declared_names are the old ones
pub record Same (s t : SolverState) : Type 0 where
  pub stack : t.stack ≡ s.stack
  pub declarations : t.declarations ≡ s.declarations
  pub names : t.additional_declared_names ≡ s.additional_declared_names

-- declarations == old(declarations) + {m}, the rest as it was
pub record MarkerAdded (m : Marker) (s t : SolverState) : Type 0 where
  pub stack : t.stack ≡ s.stack
  pub declarations : (n : Marker) → is_in same_marker n t.declarations ≡ (same_marker n m || is_in same_marker n s.declarations)
  pub list : (t.declarations ≡ s.declarations) ⊎ (t.declarations ≡ m ∷ s.declarations)
  pub names : t.additional_declared_names ≡ s.additional_declared_names

-- additional_declared_names == old(additional_declared_names) + {name}, the rest as it was
pub record NameAdded (name : Text) (s t : SolverState) : Type 0 where
  pub stack : t.stack ≡ s.stack
  pub declarations : t.declarations ≡ s.declarations
  pub names : (x : Text) → is_in same x t.additional_declared_names ≡ (same x name || is_in same x s.additional_declared_names)
  pub list : (t.additional_declared_names ≡ s.additional_declared_names) ⊎ (t.additional_declared_names ≡ name ∷ s.additional_declared_names)

pub record PushEnsures (memo : ℕ) (s t : SolverState) : Type 0 where
  pub stack : t.stack ≡ record { memo = memo; decls = t.declarations; names = t.additional_declared_names } ∷ s.stack
  pub declarations : t.declarations ≡ s.declarations
  pub names : t.additional_declared_names ≡ s.additional_declared_names

pub record PopEnsures (item : StackItem) (items : List StackItem) (t : SolverState) : Type 0 where
  pub stack : t.stack ≡ items
  pub declarations : t.declarations ≡ item.decls
  pub names : t.additional_declared_names ≡ item.names

pub push_ensures : (memo : ℕ) (s : SolverState) → PushEnsures memo s (pushed memo s)
unfolding pushed
push_ensures memo s = record { stack = refl; declarations = refl; names = refl }

-- of a stack that is not empty
pub pop_ensures : (item : StackItem) (items : List StackItem) (s : SolverState) → s.stack ≡ item ∷ items → PopEnsures item items (popped s)
unfolding popped pop_to
pop_ensures item items s e = rw e (record { stack = refl; declarations = refl; names = refl })

-- after a push, steps that keep the stack lead to t: a pop gives back the old stack, declarations and names
pub pop_undoes_push : (memo : ℕ) (s t : SolverState) → t.stack ≡ (pushed memo s).stack → Same s (popped t)
pop_undoes_push memo s t e =
    let i = push_ensures memo s in
    let o = pop_ensures _ _ t (e ∙ i.stack) in
    record { stack = o.stack; declarations = o.declarations ∙ i.declarations; names = o.names ∙ i.names }

-- DeclareSymbolByName, and whatever else smtEngine is told
pub told_ensures : (c : Command) (s : SolverState) → Same s (told c s)
unfolding told
told_ensures c s = record { stack = refl; declarations = refl; names = refl }

-- AddAssumption
pub assume_ensures : (e : RExpr) (s : SolverState) → Same s (assume bodies e s)
unfolding assume
assume_ensures e s = told_ensures _ s

pub assume_not_ensures : (e : RExpr) (s : SolverState) → Same s (assume_not bodies e s)
unfolding assume_not
assume_not_ensures e s = told_ensures _ s

-- AddDeclarationMarker
pub marker_ensures : (m : Marker) (s : SolverState) → MarkerAdded m s (marked m s)
unfolding marked
marker_ensures m s =
    record {
      stack = refl;
      declarations = λ n. in_with same_marker marker_eq n m s.declarations;
      list = with_list same_marker m s.declarations;
      names = refl;
    }

name_ensures : (name : Text) (s : SolverState) → NameAdded name s (named name s)
unfolding named
name_ensures name s =
    record {
      stack = refl;
      declarations = refl;
      names = λ x. in_with same same_eq x name s.additional_declared_names;
      list = with_list same name s.additional_declared_names;
    }

-- a command that is sent first changes nothing of this
told_marker : (c : Command) (m : Marker) (s : SolverState) → MarkerAdded m s (marked m (told c s))
unfolding told
told_marker c m s = let r = marker_ensures m (told c s) in record { stack = r.stack; declarations = r.declarations; list = r.list; names = r.names }

pub declare_type_ensures : (decl : STypeDecl) (s : SolverState) → MarkerAdded (type decl.number) s (declare_type bodies decl s)
unfolding declare_type ◌⨟◌
declare_type_ensures decl s = told_marker _ _ s

-- DeclareSymbol, of a constant and of a function
pub declare_constant_ensures : (v : SConstant) (s : SolverState) → MarkerAdded (constant v.number) s (declare_constant bodies v s)
unfolding declare_constant ◌⨟◌
declare_constant_ensures v s = told_marker _ _ s

pub declare_function_ensures : (func : Function) (s : SolverState) → MarkerAdded (function func.number) s (declare_function bodies func s)
unfolding declare_function ◌⨟◌
declare_function_ensures func s = told_marker _ _ s

-- DeclareAdditionalName
pub declare_literal_ensures : (t : ℕ) (l : Literal) (s : SolverState) → NameAdded (literal_name l) s (declare_literal bodies t l s)
unfolding declare_literal ◌⨟◌ told
declare_literal_ensures t l s =
    let r = name_ensures (literal_name l) (told _ s) in record { stack = r.stack; declarations = r.declarations; names = r.names; list = r.list }

-- SolverState.Prove, of every state: also of the one that has the goal's declarations. Each of its parts alone, so that it holds while a
-- reply or a model is owed; and the whole of it, without a model and with one
same_again : {s t u : SolverState} → Same s t → Same t u → Same s u
same_again a b =
    record { stack = b.stack ∙ a.stack; declarations = b.declarations ∙ a.declarations; names = b.names ∙ a.names }

pub check_ensures : (e : RExpr) (s : SolverState) → Same s (check bodies e s)
unfolding check ◌⨟◌
check_ensures e s = same_again (told_ensures _ s) (same_again (assume_not_ensures e _) (told_ensures _ _))

pub model_ensures : (s : SolverState) → Same s (ask_model bodies s)
unfolding ask_model
model_ensures s = told_ensures _ s

pub end_ensures : (s : SolverState) → Same s (end_check bodies s)
unfolding end_check
end_ensures s = told_ensures _ s

pub solver_prove_ensures : (e : RExpr) (s : SolverState) → Same s (end_check bodies (check bodies e s))
solver_prove_ensures e s = same_again (check_ensures e s) (end_ensures _)

pub solver_prove_model_ensures : (e : RExpr) (s : SolverState) → Same s (end_check bodies (ask_model bodies (check bodies e s)))
solver_prove_model_ensures e s = same_again (check_ensures e s) (same_again (model_ensures _) (end_ensures _))
