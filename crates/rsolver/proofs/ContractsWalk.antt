-- The contracts of DeclareNewSymbols and DeclareNewTypes: the bodies' state evolves, and nothing comes to stand twice in its sets. For every program.
use Prim.Native.Nat.{ℕ, zero, suc}
use mathlib.Core.Path.{◌≡◌, refl, ◌∙◌}
use mathlib.Core.Option.{Option, none, some}
use mathlib.Core.Bool.{Bool, true, false, or-true}
use mathlib.Core.List.{List, [], ◌∷◌}
use Rattle.basics.specs.Text.{Text, same}
use Rattle.basics.proofs.All.{All}
use Rattle.basics.proofs.Texts.{same_eq}
use Rattle.book.specs.SType.{SType, SBool, SInt, SUserType}
use Rattle.book.specs.RExpr.{RExpr, RExprs, RPatterns, ROperator, BuiltInOperator, UserDefinedFunction, Boolean, Integer, CustomLiteral, Id, FuncAppl, IfThenElse, LetExpr, QuantifierExpr, []ʳ, ◌∷ʳ◌, []ᵖ, ◌∷ᵖ◌}
use Rattle.book.specs.Program.{Program}
use Rattle.smt_engines.specs.Command.{Command}
use Rattle.rsolver.specs.Step.{Step, skip, ◌⨟◌, for, do_unless, unless}
use Rattle.rsolver.specs.Methods.{Marker}
use Rattle.rsolver.specs.SolverState.{same_marker, is_in, with', SolverState, told, marked, named, missed, bodies}
use Rattle.rsolver.specs.REngine.{with_constants, declare_type, declare_constant, declare_function, declare_literal, assume, declare_new_types, declare_type_of, send_axiom, include_axiom, declare_operator, declare_symbols, declare_all_symbols, declare_pattern_symbols, walk, declare_new_symbols}
use Rattle.rsolver.proofs.Sets.{marker_eq, in_with, Distinct, distinct_with}

-- the twostate predicate: s is the old state
pub record Evolves (s t : SolverState) : Type 0 where
  pub stack : t.stack ≡ s.stack
  pub declarations : (m : Marker) → is_in same_marker m s.declarations ≡ true → is_in same_marker m t.declarations ≡ true
  pub names : (name : Text) → is_in same name s.additional_declared_names ≡ true → is_in same name t.additional_declared_names ≡ true

-- nothing stands twice, in the sets and in the copies on the stack
abbrev pub NoneTwice : List Marker → List Text → Type 0
NoneTwice d n = Distinct same_marker d × Distinct same n

pub record Unrepeated (s : SolverState) : Type 0 where
  pub here : NoneTwice s.declarations s.additional_declared_names
  pub copies : All (λ item. NoneTwice item.decls item.names) s.stack

record Grows (s t : SolverState) : Type 0 where
  evolves : Evolves s t
  unrepeated : Unrepeated s → Unrepeated t

abbrev Growing : Step SolverState → Type 0
Growing f = (s : SolverState) → Grows s (f s)

stays : {s : SolverState} → Grows s s
stays = record { evolves = record { stack = refl; declarations = λ m h. h; names = λ n h. h }; unrepeated = λ u. u }

skip_g : Growing skip
unfolding skip
skip_g s = stays

then_g : {f g : Step SolverState} → Growing f → Growing g → Growing (f ⨟ g)
unfolding ◌⨟◌
then_g {f} F G s =
    let a = F s in
    let b = G (f s) in
    record {
      evolves =
          record {
            stack = b.evolves.stack ∙ a.evolves.stack;
            declarations = λ m h. b.evolves.declarations m (a.evolves.declarations m h);
            names = λ n h. b.evolves.names n (a.evolves.names n h);
          };
      unrepeated = λ u. b.unrepeated (a.unrepeated u);
    }

for_g : {A : Type 0} (xs : List A) {body : A → Step SolverState} → ((x : A) → Growing (body x)) → Growing (for xs body)
unfolding for skip ◌⨟◌
for_g [] h = skip_g
for_g (x ∷ xs) {body} h = then_g (h x) (for_g xs h)

unless_g : (test : SolverState → Bool) {f : Step SolverState} → Growing f → Growing (unless test f)
unfolding unless do_unless
unless_g test {f} F s = at (test s)
  where
    at : (b : Bool) → Grows s (do_unless b f s)
    at true = stays
    at false = F s

told_g : (c : Command) → Growing (told c)
unfolding told
told_g c s =
    record {
      evolves = record { stack = refl; declarations = λ m h. h; names = λ n h. h };
      unrepeated = λ u. record { here = u.here; copies = u.copies };
    }

missed_g : Growing missed
unfolding missed
missed_g s =
    record {
      evolves = record { stack = refl; declarations = λ m h. h; names = λ n h. h };
      unrepeated = λ u. record { here = u.here; copies = u.copies };
    }

-- what stood in a set stands in it with one element more
in_more : {A : Type 0} (eq : A → A → Bool) → ((x y : A) → eq x y ≡ true → x ≡ y) → (y x : A) (xs : List A)
    → is_in eq y xs ≡ true → is_in eq y (with' eq x xs) ≡ true
in_more eq sound y x xs h = in_with eq sound y x xs ∙ rw h (or-true (eq y x))

marked_g : (m : Marker) → Growing (marked m)
unfolding marked
marked_g m s =
    record {
      evolves = record { stack = refl; declarations = λ n h. in_more same_marker marker_eq n m s.declarations h; names = λ n h. h };
      unrepeated = λ u. record { here = (distinct_with same_marker m s.declarations u.here.0, u.here.1); copies = u.copies };
    }

named_g : (name : Text) → Growing (named name)
unfolding named
named_g name s =
    record {
      evolves = record { stack = refl; declarations = λ m h. h; names = λ n h. in_more same same_eq n name s.additional_declared_names h };
      unrepeated = λ u. record { here = (u.here.0, distinct_with same name s.additional_declared_names u.here.1); copies = u.copies };
    }

assume_g : (e : RExpr) → Growing (assume bodies e)
unfolding assume
assume_g e s = told_g _ s

types_g : (typ : SType) → Growing (declare_new_types bodies typ)
unfolding declare_new_types declare_type
types_g SBool = skip_g
types_g SInt = skip_g
types_g (SUserType decl) = unless_g _ (then_g (told_g _) (marked_g _))

module _ (p : Program) where
  module _ (inner : RExpr → List ℕ → Step SolverState) (inner-g : (e : RExpr) (x : List ℕ) → Growing (inner e x)) where
    axiom_g : (x : List ℕ) (k : ℕ) (explains : List ℕ) (term : Option RExpr) → Growing (send_axiom bodies p inner x k explains term)
    unfolding send_axiom
    axiom_g x k explains none = missed_g
    axiom_g x k explains (some cond) = unless_g _ (then_g (marked_g _) (then_g (inner-g cond []) (assume_g cond)))

    operator_g : (op : ROperator) (x : List ℕ) → Growing (declare_operator bodies p inner op x)
    unfolding declare_operator include_axiom declare_function
    operator_g (BuiltInOperator name) x = skip_g
    operator_g (UserDefinedFunction func) x =
        unless_g _
        (then_g (for_g func.input_types types_g)
        (then_g (types_g func.typ) (then_g (then_g (told_g _) (marked_g _)) (for_g func.explained_by (λ k. axiom_g x k _ _)))))

    mutual
      unfolding declare_symbols declare_type_of declare_literal declare_constant

      symbols_in_g : (e : RExpr) (x : List ℕ) → Growing (declare_symbols bodies p inner e x)
      symbols_in_g (Boolean b) x = skip_g
      symbols_in_g (Integer n) x = skip_g
      symbols_in_g (CustomLiteral k l) x = unless_g _ (then_g (types_g l.typ) (then_g (told_g _) (named_g _)))
      symbols_in_g (Id v) x = unless_g _ (then_g (types_g v.typ) (then_g (told_g _) (marked_g _)))
      symbols_in_g (FuncAppl op args) x = then_g (operator_g op x) (all_symbols_g args x)
      symbols_in_g (IfThenElse guard thn els) x = then_g (symbols_in_g guard x) (then_g (symbols_in_g thn x) (symbols_in_g els x))
      symbols_in_g (LetExpr v rhs body) x = then_g (types_g v.typ) (then_g (symbols_in_g rhs x) (symbols_in_g body (v.number ∷ x)))
      symbols_in_g (QuantifierExpr univ vv patterns body) x =
          then_g (for_g vv (λ v. types_g v.typ)) (then_g (pattern_symbols_g patterns (with_constants vv x)) (symbols_in_g body (with_constants vv x)))

      all_symbols_g : (es : RExprs) (x : List ℕ) → Growing (declare_all_symbols bodies p inner es x)
      all_symbols_g []ʳ x = skip_g
      all_symbols_g (e ∷ʳ es) x = then_g (symbols_in_g e x) (all_symbols_g es x)

      pattern_symbols_g : (ps : RPatterns) (x : List ℕ) → Growing (declare_pattern_symbols bodies p inner ps x)
      pattern_symbols_g []ᵖ x = skip_g
      pattern_symbols_g (q ∷ᵖ ps) x = then_g (all_symbols_g q x) (pattern_symbols_g ps x)

  walk_g : (fuel : ℕ) (e : RExpr) (x : List ℕ) → Growing (walk bodies p fuel e x)
  unfolding walk
  walk_g zero e x = skip_g
  walk_g (suc fuel) e x = symbols_in_g _ (λ cond y. walk_g fuel cond y) e x

  -- DeclareNewSymbols, with every `exclude` and every fuel: ensures state.Evolves()
  pub walk_evolves : (fuel : ℕ) (e : RExpr) (exclude : List ℕ) (s : SolverState) → Evolves s (walk bodies p fuel e exclude s)
  walk_evolves fuel e exclude s = (walk_g fuel e exclude s).evolves

  pub walk_unrepeated : (fuel : ℕ) (e : RExpr) (exclude : List ℕ) (s : SolverState) → Unrepeated s → Unrepeated (walk bodies p fuel e exclude s)
  walk_unrepeated fuel e exclude s u = (walk_g fuel e exclude s).unrepeated u

  -- with nothing excluded, as AdjustContext and Prove call it
  pub symbols_evolve : (e : RExpr) (s : SolverState) → Evolves s (declare_new_symbols bodies p e s)
  unfolding declare_new_symbols
  symbols_evolve e s = walk_evolves _ e [] s

  pub symbols_unrepeated : (e : RExpr) (s : SolverState) → Unrepeated s → Unrepeated (declare_new_symbols bodies p e s)
  unfolding declare_new_symbols
  symbols_unrepeated e s u = walk_unrepeated _ e [] s u

-- DeclareNewTypes: ensures state.Evolves()
pub types_evolve : (typ : SType) (s : SolverState) → Evolves s (declare_new_types bodies typ s)
types_evolve typ s = (types_g typ s).evolves

pub types_unrepeated : (typ : SType) (s : SolverState) → Unrepeated s → Unrepeated (declare_new_types bodies typ s)
types_unrepeated typ s u = (types_g typ s).unrepeated u
