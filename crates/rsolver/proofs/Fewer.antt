-- A walk's fuel does not matter once it exceeds the number of undeclared axioms, in any form of the state that counts them.
use Prim.Native.Nat.{ℕ, zero, suc, ◌≤◌, ◌<◌}
use native.Mathlib.Nat.{le_refl, le_trans, le_of_suc-le-suc, not-suc-le-zero, lt_of_lt_of_le}
use native.Mathlib.Omega.{arith}
use native.Mathlib.Decide.{dec_lt}
use mathlib.Core.Path.{◌≡◌, refl, sym, ap, ◌∙◌, subst}
use mathlib.Core.Option.{Option, none, some}
use mathlib.Core.List.{List, [], ◌∷◌}
use mathlib.Core.Bool.{Bool, true, false}
use lib.ListN.{length, get_or-eq_default}
use Rattle.basics.specs.Text.{Text}
use Rattle.basics.proofs.Bool.{or_left}
use Rattle.book.specs.SType.{SType, SBool, SInt, SUserType, SConstant}
use Rattle.book.specs.RExpr.{RExpr, RExprs, RPatterns, Function, ROperator, BuiltInOperator, UserDefinedFunction, Boolean, Integer, CustomLiteral, Id, FuncAppl, IfThenElse, LetExpr, QuantifierExpr, []ʳ, ◌∷ʳ◌, []ᵖ, ◌∷ᵖ◌}
use Rattle.book.specs.Program.{Program, Axiom, axiom_at}
use Rattle.smt_engines.specs.Command.{Command, Assume}
use Rattle.rsolver.specs.Step.{Step, skip, ◌⨟◌, for, do_unless, unless}
use Rattle.rsolver.specs.Methods.{Marker, axiom', Methods}
use Rattle.rsolver.specs.REngine.{with_constants, declare_type, declare_constant, declare_function, declare_literal, assume, declare_new_types, declare_type_of, send_axiom, include_axiom, declare_operator, declare_symbols, declare_all_symbols, declare_pattern_symbols, walk, declare_new_symbols}

-- a step that stays inside and has no more left afterwards
pub record Fewer {S : Type 0} (Inside : S → Type 0) (left : S → ℕ) (f : Step S) : Type 0 where
  pub stays : (s : S) → Inside s → Inside (f s)
  pub falls : (s : S) → Inside s → left (f s) ≤ left s

-- two steps that agree at the states with at most n left; the first one falls
record Agree {S : Type 0} (Inside : S → Type 0) (left : S → ℕ) (n : ℕ) (f g : Step S) : Type 0 where
  first : Fewer Inside left f
  agree : (s : S) → Inside s → left s ≤ n → f s ≡ g s

-- `left` counts the axioms that are not declared: no method adds one, and the marker of one takes it away
pub record Counts {S : Type 0} (M : Methods S) (p : Program) (Inside : S → Type 0) (left : S → ℕ) : Type 0 where
  pub send : (c : Command) → Fewer Inside left (M.send c)
  pub miss : Fewer Inside left M.miss
  pub mark : (m : Marker) → Fewer Inside left (M.add_declaration_marker m)
  pub name : (t : ℕ) (x : Text) → Fewer Inside left (M.add_name t x)
  pub new : (k : ℕ) (s : S) → Inside s → k < length p.axioms → M.is_declared (axiom' k) s ≡ false → left (M.add_declaration_marker (axiom' k) s) < left s
  pub most : (s : S) → left s ≤ length p.axioms

module _ {S : Type 0} {Inside : S → Type 0} {left : S → ℕ} where
  skip_f : Fewer Inside left skip
  unfolding skip
  skip_f = record { stays = λ s i. i; falls = λ s i. le_refl _ }

  pub then_f : {f g : Step S} → Fewer Inside left f → Fewer Inside left g → Fewer Inside left (f ⨟ g)
  unfolding ◌⨟◌
  then_f {f} {g} F G =
      record {
        stays = λ s i. G.stays (f s) (F.stays s i);
        falls = λ s i. le_trans (G.falls (f s) (F.stays s i)) (F.falls s i);
      }

  for_f : {A : Type 0} (xs : List A) {body : A → Step S} → ((x : A) → Fewer Inside left (body x)) → Fewer Inside left (for xs body)
  unfolding for skip ◌⨟◌
  for_f [] h = skip_f
  for_f (x ∷ xs) h = then_f (h x) (for_f xs h)

  unless_f : (test : S → Bool) {f : Step S} → Fewer Inside left f → Fewer Inside left (unless test f)
  unfolding do_unless unless
  unless_f test {f} F = record { stays = λ s i. one s i (test s); falls = λ s i. two s i (test s) }
    where
      one : (s : S) → Inside s → (b : Bool) → Inside (do_unless b f s)
      one s i true = i
      one s i false = F.stays s i

      two : (s : S) → Inside s → (b : Bool) → left (do_unless b f s) ≤ left s
      two s i true = le_refl _
      two s i false = F.falls s i

  one_f : {n : ℕ} {f : Step S} → Fewer Inside left f → Agree Inside left n f f
  one_f F = record { first = F; agree = λ s i h. refl }

  then_a : {n : ℕ} {f f' g g' : Step S} → Agree Inside left n f f' → Agree Inside left n g g' → Agree Inside left n (f ⨟ g) (f' ⨟ g')
  unfolding ◌⨟◌
  then_a {n} {f} {f'} {g} {g'} F G =
      record {
        first = then_f F.first G.first;
        agree = λ s i h. G.agree (f s) (F.first.stays s i) (le_trans (F.first.falls s i) h) ∙ ap g' (F.agree s i h);
      }

  for_a : {A : Type 0} {n : ℕ} (xs : List A) {body body' : A → Step S} → ((x : A) → Agree Inside left n (body x) (body' x)) → Agree Inside left n (for xs body) (for xs body')
  unfolding for skip ◌⨟◌
  for_a [] h = one_f skip_f
  for_a (x ∷ xs) h = then_a (h x) (for_a xs h)

  -- only where the test fails must they agree
  unless_a : {n : ℕ} (test : S → Bool) {f g : Step S} → Fewer Inside left f
      → ((s : S) → test s ≡ false → Inside s → left s ≤ n → f s ≡ g s) → Agree Inside left n (unless test f) (unless test g)
  unfolding do_unless unless
  unless_a {n} test {f} {g} F h = record { first = unless_f test F; agree = λ s i l. at s i l (test s) refl }
    where
      at : (s : S) → Inside s → left s ≤ n → (b : Bool) → test s ≡ b → do_unless b f s ≡ do_unless b g s
      at s i l true e = refl
      at s i l false e = h s e i l

  unless_a' : {n : ℕ} (test : S → Bool) {f g : Step S} → Agree Inside left n f g → Agree Inside left n (unless test f) (unless test g)
  unless_a' test F = unless_a test F.first (λ s e i l. F.agree s i l)

module _ {S : Type 0} {M : Methods S} {p : Program} {Inside : S → Type 0} {left : S → ℕ} (C : Counts M p Inside left) where
  assume_f : (e : RExpr) → Fewer Inside left (assume M e)
  unfolding assume
  assume_f e =
      record {
        stays = λ s i. (C.send (Assume e (M.declared_count s))).stays s i;
        falls = λ s i. (C.send (Assume e (M.declared_count s))).falls s i;
      }

  told_f : (c : Command) (m : Marker) → Fewer Inside left (M.send c ⨟ M.add_declaration_marker m)
  told_f c m = then_f (C.send c) (C.mark m)

  -- ---- what has no axiom in it has no more left afterwards
  pub type_falls : (t : SType) → Fewer Inside left (declare_new_types M t)
  unfolding declare_new_types declare_type
  type_falls SBool = skip_f
  type_falls SInt = skip_f
  type_falls (SUserType d) = unless_f _ (told_f _ _)

  pub types_fall : (ts : List SType) → Fewer Inside left (for ts (declare_new_types M))
  types_fall ts = for_f ts type_falls

  pub variables_fall : (vv : List SConstant) → Fewer Inside left (for vv (declare_type_of M))
  unfolding declare_type_of
  variables_fall vv = for_f vv (λ v. type_falls v.typ)

  pub function_falls : (f : Function) → Fewer Inside left (declare_function M f)
  unfolding declare_function
  function_falls f = told_f _ _

  module _ (n : ℕ) (inner inner' : RExpr → List ℕ → Step S) (inner-f : (e : RExpr) (x : List ℕ) → Fewer Inside left (inner e x))
      (same : (e : RExpr) (x : List ℕ) (s : S) → Inside s → left s < n → inner e x s ≡ inner' e x s) where
    send_axiom_a : (x : List ℕ) (k : ℕ) (fs : List ℕ) (t : Option RExpr) → k < length p.axioms → Agree Inside left n (send_axiom M p inner x k fs t) (send_axiom M p inner' x k fs t)
    unfolding send_axiom ◌⨟◌
    send_axiom_a x k fs none h = one_f C.miss
    send_axiom_a x k fs (some cond) h =
        unless_a _ (then_f (C.mark (axiom' k)) (then_f (inner-f cond []) (assume_f cond)))
        (λ s e i l.
        ap (assume M cond)
        (same cond [] (M.add_declaration_marker (axiom' k) s) ((C.mark (axiom' k)).stays s i) (lt_of_lt_of_le (C.new k s i h (or_left _ _ e)) l)))

    include_axiom_a : (x : List ℕ) (k : ℕ) → Agree Inside left n (include_axiom M p inner x k) (include_axiom M p inner' x k)
    unfolding include_axiom send_axiom
    include_axiom_a x k = at (dec_lt k (length p.axioms))
      where
        at : Dec (k < length p.axioms) → Agree Inside left n (include_axiom M p inner x k) (include_axiom M p inner' x k)
        at (yes h) = send_axiom_a x k (axiom_at p k).explains (axiom_at p k).term h
        at (no h) =
            subst
            (λ (a : Axiom). Agree Inside left n (send_axiom M p inner x k a.explains a.term) (send_axiom M p inner' x k a.explains a.term))
            (sym (get_or-eq_default p.axioms (record { term = none; explains = [] }) (omega arith)))
            (one_f C.miss)

    operator_a : (op : ROperator) (x : List ℕ) → Agree Inside left n (declare_operator M p inner op x) (declare_operator M p inner' op x)
    unfolding declare_operator
    operator_a (BuiltInOperator name) x = one_f skip_f
    operator_a (UserDefinedFunction f) x =
        unless_a' _
        (then_a (one_f (types_fall f.input_types))
        (then_a (one_f (type_falls f.typ)) (then_a (one_f (function_falls f)) (for_a f.explained_by (include_axiom_a x)))))

    mutual
      unfolding declare_symbols declare_constant declare_literal

      declare_a : (e : RExpr) (x : List ℕ) → Agree Inside left n (declare_symbols M p inner e x) (declare_symbols M p inner' e x)
      declare_a (Boolean b) x = one_f skip_f
      declare_a (Integer z) x = one_f skip_f
      declare_a (CustomLiteral t l) x = one_f (unless_f _ (then_f (type_falls l.typ) (then_f (C.send _) (C.name _ _))))
      declare_a (Id v) x = one_f (unless_f _ (then_f (type_falls v.typ) (told_f _ _)))
      declare_a (FuncAppl op args) x = then_a (operator_a op x) (declares_a args x)
      declare_a (IfThenElse g t e) x = then_a (declare_a g x) (then_a (declare_a t x) (declare_a e x))
      declare_a (LetExpr v r b) x = then_a (one_f (type_falls v.typ)) (then_a (declare_a r x) (declare_a b (v.number ∷ x)))
      declare_a (QuantifierExpr u vv ps b) x =
          then_a (one_f (variables_fall vv)) (then_a (patterns_a ps (with_constants vv x)) (declare_a b (with_constants vv x)))

      declares_a : (es : RExprs) (x : List ℕ) → Agree Inside left n (declare_all_symbols M p inner es x) (declare_all_symbols M p inner' es x)
      declares_a []ʳ x = one_f skip_f
      declares_a (e ∷ʳ es) x = then_a (declare_a e x) (declares_a es x)

      patterns_a : (ps : RPatterns) (x : List ℕ) → Agree Inside left n (declare_pattern_symbols M p inner ps x) (declare_pattern_symbols M p inner' ps x)
      patterns_a []ᵖ x = one_f skip_f
      patterns_a (q ∷ᵖ ps) x = then_a (declares_a q x) (patterns_a ps x)

  walk_f : (fuel : ℕ) (e : RExpr) (x : List ℕ) → Fewer Inside left (walk M p fuel e x)
  unfolding walk
  walk_f zero e x = skip_f
  walk_f (suc fuel) e x = (declare_a 0 _ _ (λ c y. walk_f fuel c y) (λ c y s i h. refl) e x).first

  -- ---- nor has what walks an axiom's term with some fuel
  pub symbols_fall : (fuel : ℕ) (e : RExpr) (x : List ℕ) → Fewer Inside left (declare_symbols M p (λ c y. walk M p fuel c y) e x)
  symbols_fall fuel e x = (declare_a 0 _ _ (λ c y. walk_f fuel c y) (λ c y s i h. refl) e x).first

  pub all_fall : (fuel : ℕ) (es : RExprs) (x : List ℕ) → Fewer Inside left (declare_all_symbols M p (λ c y. walk M p fuel c y) es x)
  all_fall fuel es x = (declares_a 0 _ _ (λ c y. walk_f fuel c y) (λ c y s i h. refl) es x).first

  pub patterns_fall : (fuel : ℕ) (ps : RPatterns) (x : List ℕ) → Fewer Inside left (declare_pattern_symbols M p (λ c y. walk M p fuel c y) ps x)
  patterns_fall fuel ps x = (patterns_a 0 _ _ (λ c y. walk_f fuel c y) (λ c y s i h. refl) ps x).first

  pub operator_falls : (fuel : ℕ) (op : ROperator) (x : List ℕ) → Fewer Inside left (declare_operator M p (λ c y. walk M p fuel c y) op x)
  operator_falls fuel op x = (operator_a 0 _ _ (λ c y. walk_f fuel c y) (λ c y s i h. refl) op x).first

  pub axioms_fall : (fuel : ℕ) (ks : List ℕ) (x : List ℕ) → Fewer Inside left (for ks (include_axiom M p (λ c y. walk M p fuel c y) x))
  axioms_fall fuel ks x = for_f ks (λ k. (include_axiom_a 0 _ _ (λ c y. walk_f fuel c y) (λ c y s i h. refl) x k).first)

  -- with more fuel than there are undeclared axioms, the walk is the same
  pub fuel_free : (n fuel fuel' : ℕ) → n < fuel → n < fuel' → (e : RExpr) (x : List ℕ) (s : S) → Inside s → left s ≤ n
      → walk M p fuel e x s ≡ walk M p fuel' e x s
  unfolding walk
  fuel_free n zero fuel' h h' e x s i l = absurd (not-suc-le-zero h)
  fuel_free n (suc f) zero h h' e x s i l = absurd (not-suc-le-zero h')
  fuel_free zero (suc f) (suc f') h h' e x s i l =
      (declare_a zero _ _ (λ c y. walk_f f c y) (λ c y t j m. absurd (not-suc-le-zero m)) e x).agree s i l
  fuel_free (suc n) (suc f) (suc f') h h' e x s i l =
      (declare_a (suc n) _ _ (λ c y. walk_f f c y)
      (λ c y t j m. fuel_free n f f' (le_of_suc-le-suc h) (le_of_suc-le-suc h') c y t j (le_of_suc-le-suc m)) e x).agree s i l

  -- as many axioms as there are, and one more, is fuel enough
  pub fuel_enough : (fuel : ℕ) → length p.axioms < fuel → (e : RExpr) (x : List ℕ) (s : S) → Inside s
      → walk M p fuel e x s ≡ walk M p (suc (length p.axioms)) e x s
  fuel_enough fuel h e x s i = fuel_free (length p.axioms) fuel (suc (length p.axioms)) h (le_refl _) e x s i (C.most s)

  pub symbols_enough : (fuel : ℕ) → length p.axioms < fuel → (e : RExpr) (s : S) → Inside s → declare_new_symbols M p e s ≡ walk M p fuel e [] s
  unfolding declare_new_symbols
  symbols_enough fuel h e s i = sym (fuel_enough fuel h e [] s i)
