-- Two walks of one expression, over any two forms of the state and any two lists of axioms: what relates the states before them relates
-- the states after them, if each method keeps it.
use Prim.Native.Nat.{ℕ, zero, suc}
use mathlib.Core.Path.{◌≡◌, refl, sym, ap, ap₂, subst}
use mathlib.Core.Option.{Option, none, some}
use mathlib.Core.List.{List, [], ◌∷◌}
use mathlib.Core.Bool.{Bool, true, false, not, ◌&&◌, ◌||◌}
use Rattle.basics.specs.Text.{Text}
use Rattle.basics.specs.Lists.{all, member}
use Rattle.basics.proofs.All.{All, end, more}
use Rattle.basics.proofs.Bool.{or_right}
use Rattle.book.specs.SType.{SType, SBool, SInt, SUserType, SConstant}
use Rattle.book.specs.RExpr.{RExpr, RExprs, RPatterns, Literal, is_tag, ROperator, BuiltInOperator, UserDefinedFunction, Boolean, Integer, CustomLiteral, Id, FuncAppl, IfThenElse, LetExpr, QuantifierExpr, []ʳ, ◌∷ʳ◌, []ᵖ, ◌∷ᵖ◌}
use Rattle.book.specs.Program.{Program, Axiom, axiom_at}
use Rattle.book.proofs.Every.{EveryR, EveryRs, EveryPs, EveryTerm}
use Rattle.solver_expr.specs.Lowering.{literal_name}
use Rattle.smt_engines.specs.Command.{Command, Assume, AssumeNot}
use Rattle.rsolver.specs.Step.{Step, skip, ◌⨟◌, for, do_unless, unless, do_either, either}
use Rattle.rsolver.specs.Methods.{Marker, type, constant, function, axiom', Methods}
use Rattle.rsolver.specs.REngine.{with_constants, declare_type, declare_constant, declare_function, declare_literal, assume, assume_not, declare_new_types, declare_type_of, send_axiom, include_axiom, declare_operator, declare_symbols, declare_all_symbols, declare_pattern_symbols, walk}
use Rattle.rsolver.proofs.Placed.{TypeHas, ConstantHas, OperatorHas, LiteralHas, having}

-- ---- two steps that keep a relation, joined as statements are joined
pub record Keeps {S T : Type 0} (R : S → T → Type 0) (f : Step S) (g : Step T) : Type 0 where
  pub keeps : (s : S) (t : T) → R s t → R (f s) (g t)

-- at one pair of states: the tests agree, and where they fail the steps keep it
pub unless_r : {S T : Type 0} (R : S → T → Type 0) (test : S → Bool) (test' : T → Bool) (f : Step S) (g : Step T) (s : S) (t : T) → test s ≡ test' t → R s t
    → (test' t ≡ false → R (f s) (g t)) → R (unless test f s) (unless test' g t)
unfolding unless do_unless
unless_r R test test' f g s t same r h = rw same (at (test' t) refl)
  where
    at : (b : Bool) → test' t ≡ b → R (do_unless b f s) (do_unless b g t)
    at true e = r
    at false e = h e

module _ {S T : Type 0} {R : S → T → Type 0} where
  pub skip_k : Keeps R skip skip
  unfolding skip
  skip_k = record { keeps = λ s t r. r }

  pub then_k : {f f' : Step S} {g g' : Step T} → Keeps R f g → Keeps R f' g' → Keeps R (f ⨟ f') (g ⨟ g')
  unfolding ◌⨟◌
  then_k {f} {f'} {g} {g'} F F' = record { keeps = λ s t r. F'.keeps (f s) (g t) (F.keeps s t r) }

  for_k : {A : Type 0} {P : A → Type 0} {xs : List A} {f : A → Step S} {g : A → Step T}
      → All P xs → ((x : A) → P x → Keeps R (f x) (g x)) → Keeps R (for xs f) (for xs g)
  unfolding for skip ◌⨟◌
  for_k end h = skip_k
  for_k (more {a = x} k ks) h = then_k (h x k) (for_k ks h)

  -- the tests agree, and where they fail the steps keep it
  pub unless_k : (test : S → Bool) (test' : T → Bool) {f : Step S} {g : Step T}
      → ((s : S) (t : T) → R s t → test s ≡ test' t)
      → ((s : S) (t : T) → R s t → test' t ≡ false → R (f s) (g t)) → Keeps R (unless test f) (unless test' g)
  unless_k test test' {f} {g} same h = record { keeps = λ s t r. unless_r R test test' f g s t (same s t r) r (h s t r) }

  pub either_k : (test : S → Bool) (test' : T → Bool) {f f' : Step S} {g g' : Step T}
      → ((s : S) (t : T) → R s t → test s ≡ test' t) → Keeps R f g
      → ((s : S) (t : T) → R s t → test' t ≡ false → R (f' s) (g' t)) → Keeps R (either test f f') (either test' g g')
  unfolding either do_either
  either_k test test' {f} {f'} {g} {g'} same F h = record { keeps = λ s t r. rw (same s t r) (at s t r (test' t) refl) }
    where
      at : (s : S) (t : T) → R s t → (b : Bool) → test' t ≡ b → R (do_either b f f' s) (do_either b g g' t)
      at s t r true e = F.keeps s t r
      at s t r false e = h s t r e

-- a test of a list's elements, by two tests that agree on them
all_same : {A : Type 0} {P : A → Type 0} {xs : List A} (f g : A → Bool) → All P xs → ((x : A) → P x → f x ≡ g x) → all xs f ≡ all xs g
unfolding all
all_same f g end h = refl
all_same f g (more {a = x} k ks) h = ap₂ (λ a b. a && b) (h x k) (all_same f g ks h)

-- a step from equal states
pub same_k : {S : Type 0} (f : Step S) → Keeps (λ s t. s ≡ t) f f
same_k f = record { keeps = λ s t e. ap f e }

-- ---- what is asked of the methods, at markers that have Q
pub record Marks {S T : Type 0} (M : Methods S) (N : Methods T) (R : S → T → Type 0) (Q : Marker → Type 0) : Type 0 where
  pub declared : (m : Marker) → Q m → (s : S) (t : T) → R s t → M.is_declared m s ≡ N.is_declared m t
  pub send : (c : Command) → Keeps R (M.send c) (N.send c)
  pub mark : (m : Marker) → Q m → Keeps R (M.add_declaration_marker m) (N.add_declaration_marker m)

pub types_k : {S T : Type 0} {M : Methods S} {N : Methods T} {R : S → T → Type 0} {Q : Marker → Type 0} → Marks M N R Q
    → (typ : SType) → TypeHas Q typ → Keeps R (declare_new_types M typ) (declare_new_types N typ)
unfolding declare_new_types declare_type
types_k X SBool h = skip_k
types_k X SInt h = skip_k
types_k X (SUserType decl) h =
    unless_k _ _ (λ s t r. X.declared (type decl.number) h s t r) (λ s t r e. (then_k (X.send _) (X.mark _ h)).keeps s t r)

-- p is the program that the second walk reads, whose literals stand at their terms' numbers
pub record Alike {S T : Type 0} (M : Methods S) (N : Methods T) (R : S → T → Type 0) (Q : Marker → Type 0) (p : Program) : Type 0 where
  pub marks : Marks M N R Q
  pub miss : Keeps R M.miss N.miss
  pub named : (name : Text) (s : S) (t : T) → R s t → M.is_named name s ≡ N.is_named name t
  pub counted : (s : S) (t : T) → R s t → M.declared_count s ≡ N.declared_count t
  pub literal :
      (k : ℕ) (l : Literal) → LiteralHas Q p k l → (s : S) (t : T) → R s t → N.is_named (literal_name l) t ≡ false
      → R ((declare_new_types M l.typ ⨟ declare_literal M k l) s) ((declare_new_types N l.typ ⨟ declare_literal N k l) t)

-- one form beside itself
pub itself : {S : Type 0} (M : Methods S) (Q : Marker → Type 0) (p : Program) → Alike M M (λ s t. s ≡ t) Q p
itself M Q p =
    record {
      marks =
          record {
            declared = λ m h s t e. ap (M.is_declared m) e;
            send = λ c. same_k (M.send c);
            mark = λ m h. same_k (M.add_declaration_marker m);
          };
      miss = same_k M.miss;
      named = λ name s t e. ap (M.is_named name) e;
      counted = λ s t e. ap M.declared_count e;
      literal = λ k l h s t e f. ap (declare_new_types M l.typ ⨟ declare_literal M k l) e;
    }

-- the axioms that are looked up are the same, and have Q too
pub record SameAxioms (Q : Marker → Type 0) (q p : Program) : Type 0 where
  pub same : (k : ℕ) → Q (axiom' k) → axiom_at q k ≡ axiom_at p k
  pub explains : (k : ℕ) → All (λ f. Q (function f)) (axiom_at p k).explains
  pub term : (k : ℕ) → EveryTerm (having Q p) (axiom_at p k).term

module _ {S T : Type 0} {M : Methods S} {N : Methods T} {R : S → T → Type 0} {Q : Marker → Type 0} {p : Program} (X : Alike M N R Q p) where
  pub assume_k : (e : RExpr) → Keeps R (assume M e) (assume N e)
  unfolding assume
  assume_k e =
      record {
        keeps = λ s t r.
            let send = (X.marks.send (Assume e (N.declared_count t))).keeps s t r in
            subst (λ (n : ℕ). R (M.send (Assume e n) s) (N.send (Assume e (N.declared_count t)) t)) (sym (X.counted s t r)) send;
      }

  pub assume_not_k : (e : RExpr) → Keeps R (assume_not M e) (assume_not N e)
  unfolding assume_not
  assume_not_k e =
      record {
        keeps = λ s t r.
            let send = (X.marks.send (AssumeNot e (N.declared_count t))).keeps s t r in
            subst (λ (n : ℕ). R (M.send (AssumeNot e n) s) (N.send (AssumeNot e (N.declared_count t)) t)) (sym (X.counted s t r)) send;
      }

  constant_k : (v : SConstant) → ConstantHas Q v
      → Keeps R (declare_new_types M v.typ ⨟ declare_constant M v) (declare_new_types N v.typ ⨟ declare_constant N v)
  unfolding declare_constant
  constant_k v h = then_k (types_k X.marks v.typ h.typ) (then_k (X.marks.send _) (X.marks.mark _ h.own))

  module _ {q : Program} (A : SameAxioms Q q p) where
    module _ (inner : RExpr → List ℕ → Step S) (inner' : RExpr → List ℕ → Step T)
        (inner-k : (e : RExpr) (x : List ℕ) → EveryR (having Q p) e → Keeps R (inner e x) (inner' e x)) where
      send_axiom_k : (x : List ℕ) (k : ℕ) (explains : List ℕ) (term : Option RExpr) → Q (axiom' k) → All (λ f. Q (function f)) explains → EveryTerm (having Q p) term
          → Keeps R (send_axiom M q inner x k explains term) (send_axiom N p inner' x k explains term)
      unfolding send_axiom
      send_axiom_k x k explains none own fs h = X.miss
      send_axiom_k x k explains (some cond) own fs h =
          unless_k _ _
          (λ s t r.
          ap₂ (λ a b. a || not b) (X.marks.declared (axiom' k) own s t r)
          (all_same _ _ fs (λ f i. X.marks.declared (function f) i s t r)))
          (λ s t r e. (then_k (X.marks.mark (axiom' k) own) (then_k (inner-k cond [] h) (assume_k cond))).keeps s t r)

      include_axiom_k : (x : List ℕ) (k : ℕ) → Q (axiom' k) → Keeps R (include_axiom M q inner x k) (include_axiom N p inner' x k)
      unfolding include_axiom
      include_axiom_k x k own =
          subst (λ (a : Axiom). Keeps R (send_axiom M q inner x k a.explains a.term) (send_axiom N p inner' x k (axiom_at p k).explains (axiom_at p k).term))
          (sym (A.same k own)) (send_axiom_k x k _ _ own (A.explains k) (A.term k))

      operator_k : (op : ROperator) (x : List ℕ) → OperatorHas Q op → Keeps R (declare_operator M q inner op x) (declare_operator N p inner' op x)
      unfolding declare_operator declare_function
      operator_k (BuiltInOperator name) x h = skip_k
      operator_k (UserDefinedFunction func) x h =
          unless_k _ _ (λ s t r. X.marks.declared (function func.number) h.own s t r)
          (λ s t r e.
          (then_k (for_k h.input_types (types_k X.marks))
          (then_k (types_k X.marks func.typ h.typ)
          (then_k (then_k (X.marks.send _) (X.marks.mark _ h.own)) (for_k h.explained_by (include_axiom_k x))))
          ).keeps s t r)

      mutual
        unfolding declare_symbols declare_type_of

        symbols_k : (e : RExpr) (x : List ℕ) → EveryR (having Q p) e → Keeps R (declare_symbols M q inner e x) (declare_symbols N p inner' e x)
        symbols_k (Boolean b) x h = skip_k
        symbols_k (Integer n) x h = skip_k
        symbols_k (CustomLiteral k l) x h =
            unless_k _ _ (λ s t r. ap (λ b. is_tag l || b) (X.named (literal_name l) s t r))
            (λ s t r e. X.literal k l h s t r (or_right (is_tag l) _ e))
        symbols_k (Id v) x h =
            unless_k _ _ (λ s t r. ap (λ b. member v.number x || b) (X.marks.declared (constant v.number) h.own s t r))
            (λ s t r e. (constant_k v h).keeps s t r)
        symbols_k (FuncAppl op args) x h = then_k (operator_k op x h.0) (all_symbols_k args x h.1)
        symbols_k (IfThenElse guard thn els) x h =
            then_k (symbols_k guard x h.0) (then_k (symbols_k thn x h.1) (symbols_k els x h.2))
        symbols_k (LetExpr v rhs body) x h =
            then_k (types_k X.marks v.typ h.0.typ) (then_k (symbols_k rhs x h.1) (symbols_k body (v.number ∷ x) h.2))
        symbols_k (QuantifierExpr univ vv patterns body) x h =
            then_k (for_k h.0 (λ v i. types_k X.marks v.typ i.typ))
            (then_k (pattern_symbols_k patterns (with_constants vv x) h.1) (symbols_k body (with_constants vv x) h.2))

        all_symbols_k : (es : RExprs) (x : List ℕ) → EveryRs (having Q p) es → Keeps R (declare_all_symbols M q inner es x) (declare_all_symbols N p inner' es x)
        all_symbols_k []ʳ x h = skip_k
        all_symbols_k (e ∷ʳ es) x h = then_k (symbols_k e x h.0) (all_symbols_k es x h.1)

        pattern_symbols_k : (ps : RPatterns) (x : List ℕ) → EveryPs (having Q p) ps
            → Keeps R (declare_pattern_symbols M q inner ps x) (declare_pattern_symbols N p inner' ps x)
        pattern_symbols_k []ᵖ x h = skip_k
        pattern_symbols_k (t ∷ᵖ ts) x h = then_k (all_symbols_k t x h.0) (pattern_symbols_k ts x h.1)

    pub walk_k : (fuel : ℕ) (e : RExpr) (x : List ℕ) → EveryR (having Q p) e → Keeps R (walk M q fuel e x) (walk N p fuel e x)
    unfolding walk
    walk_k zero e x h = skip_k
    walk_k (suc fuel) e x h = symbols_k _ _ (λ cond y i. walk_k fuel cond y i) e x h
