-- What the walk does on levels: it sends plain lines, whatever was sent before; it keeps the stack; it declares only what was not
-- declared, at the present level.
use Prim.Native.Nat.{ℕ, zero, suc}
use mathlib.Core.Path.{◌≡◌, refl, sym, ap, ◌∙◌, subst}
use mathlib.Core.Option.{Option, none, some}
use mathlib.Core.List.{List, [], ◌∷◌, ◌++◌, append_assoc, append-nil}
use mathlib.Core.Bool.{Bool, true, false, ◌||◌}
use lib.ListN.{length}
use Rattle.basics.proofs.All.{All, end, more, all_append}
use Rattle.basics.proofs.Bool.{or_left}
use Rattle.basics.proofs.Clean.{Clean}
use Rattle.book.specs.SType.{SType, SBool, SInt, SUserType, SConstant}
use Rattle.book.specs.RExpr.{RExpr, RExprs, RPatterns, Function, Literal, ROperator, BuiltInOperator, UserDefinedFunction, Boolean, Integer, CustomLiteral, Id, FuncAppl, IfThenElse, LetExpr, QuantifierExpr, []ʳ, ◌∷ʳ◌, []ᵖ, ◌∷ᵖ◌}
use Rattle.book.specs.Program.{Program, axiom_at}
use Rattle.book.proofs.Every.{EveryRs, EveryPs, EveryTerm}
use Rattle.solver_expr.proofs.Clean.{CleanType, CleanConstant, CleanFunction, CleanLiteral, CleanOperator, cleanly, CleanR}
use Rattle.smt_engines.specs.Command.{Command}
use Rattle.smt_engines.proofs.Commands.{Plain, plain_assume, plain_assume_not, plain_sort, plain_constant, plain_function, plain_literal}
use Rattle.rsolver.specs.Step.{Step, skip, ◌⨟◌, for, do_unless, unless}
use Rattle.rsolver.specs.LevelState.{LevelState, level_state, is_declared_at, send, declare_at, miss, sent_by, levelled}
use Rattle.rsolver.specs.REngine.{with_constants, declare_type, declare_constant, declare_function, declare_literal, assume, assume_not, declare_new_types, declare_type_of, send_axiom, include_axiom, declare_operator, declare_symbols, declare_all_symbols, declare_pattern_symbols, walk, declare_new_symbols}
use Rattle.rsolver.proofs.Levels.{Grown, grown_refl, grown_trans, grown_join}

-- the state, with other commands sent and another mark of what is missing
abbrev pub put : List Command → Bool → LevelState → LevelState
put l m s = level_state s.stack s.levels m l

or-false : (m : Bool) → m ≡ (m || false)
or-false true = refl
or-false false = refl

or-true : (m : Bool) → true ≡ (m || true)
or-true true = refl
or-true false = refl

or_assoc : (a b c : Bool) → ((a || b) || c) ≡ (a || (b || c))
or_assoc true b c = refl
or_assoc false b c = refl

pub record Declares (f : Step LevelState) : Type 0 where
  pub more : LevelState → List Command
  pub missed : LevelState → Bool
  pub plains : (s : LevelState) → All Plain (more s)
  pub blind : (s : LevelState) (l : List Command) (m : Bool) → f (put l m s) ≡ put (l ++ more s) (m || missed s) (f s)
  pub stack : (s : LevelState) → (f s).stack ≡ s.stack
  pub grows : (s : LevelState) → Grown (length s.stack) s.levels (f s).levels

-- what it sends, and what it misses
pub sent-by : {f : Step LevelState} (F : Declares f) (s : LevelState) → sent_by f s ≡ F.more s
unfolding sent_by
sent-by F s = ap (λ (x : LevelState). x.sent) (F.blind s [] s.missing)

pub missing_is : {f : Step LevelState} (F : Declares f) (s : LevelState) → (f s).missing ≡ (s.missing || F.missed s)
missing_is F s = ap (λ (x : LevelState). x.missing) (F.blind s s.sent s.missing)

-- what was missing stays so
pub missing_down : {f : Step LevelState} (F : Declares f) (s : LevelState) → (f s).missing ≡ false → s.missing ≡ false
missing_down F s e = or_left s.missing _ (sym (missing_is F s) ∙ e)

skip_d : Declares skip
unfolding skip
skip_d =
    record {
      more = λ s. [];
      missed = λ s. false;
      plains = λ s. end;
      blind = λ s l m i. put (sym (append-nil l) i) (or-false m i) s;
      stack = λ s. refl;
      grows = λ s. grown_refl _ _;
    }

pub then_d : {f g : Step LevelState} → Declares f → Declares g → Declares (f ⨟ g)
unfolding ◌⨟◌
then_d {f} {g} F G =
    record {
      more = λ s. F.more s ++ G.more (f s);
      missed = λ s. F.missed s || G.missed (f s);
      plains = λ s. all_append (F.plains s) (G.plains (f s));
      blind = λ s l m.
          ap g (F.blind s l m) ∙ G.blind (f s) (l ++ F.more s) (m || F.missed s)
          ∙ (λ i. put (append_assoc l (F.more s) (G.more (f s)) i) (or_assoc m (F.missed s) (G.missed (f s)) i) (g (f s)));
      stack = λ s. G.stack (f s) ∙ F.stack s;
      grows = λ s.
          grown_trans (F.grows s) (subst (λ (st : List ℕ). Grown (length st) (f s).levels (g (f s)).levels) (F.stack s) (G.grows (f s)));
    }

for_d : {A : Type 0} {P : A → Type 0} {xs : List A} {body : A → Step LevelState} → All P xs → ((x : A) → P x → Declares (body x)) → Declares (for xs body)
unfolding for skip ◌⨟◌
for_d end h = skip_d
for_d (more {a = x} k ks) h = then_d (h x k) (for_d ks h)

-- for a body that is fine whatever it is given
any_d : {A : Type 0} (xs : List A) {body : A → Step LevelState} → ((x : A) → Declares (body x)) → Declares (for xs body)
unfolding for skip ◌⨟◌
any_d [] h = skip_d
any_d (x ∷ xs) h = then_d (h x) (any_d xs h)

unless_d : (test : LevelState → Bool) → ((s : LevelState) (l : List Command) (m : Bool) → test (put l m s) ≡ test s) → {f : Step LevelState} → Declares f → Declares (unless test f)
unfolding do_unless unless skip
unless_d test same {f} F =
    record {
      more = λ s. (at (test s)).more s;
      missed = λ s. (at (test s)).missed s;
      plains = λ s. (at (test s)).plains s;
      blind = λ s l m. ap (λ b. do_unless b f (put l m s)) (same s l m) ∙ (at (test s)).blind s l m;
      stack = λ s. (at (test s)).stack s;
      grows = λ s. (at (test s)).grows s;
    }
  where
    at : (b : Bool) → Declares (do_unless b f)
    at true = skip_d
    at false = F

send_d : (c : Command) → Plain c → Declares (send c)
unfolding send
send_d c h =
    record {
      more = λ s. c ∷ [];
      missed = λ s. false;
      plains = λ s. more h end;
      blind = λ s l m i. put (l ++ (c ∷ [])) (or-false m i) s;
      stack = λ s. refl;
      grows = λ s. grown_refl _ _;
    }

miss_d : Declares miss
unfolding miss
miss_d =
    record {
      more = λ s. [];
      missed = λ s. true;
      plains = λ s. end;
      blind = λ s l m i. put (sym (append-nil l) i) (or-true m i) s;
      stack = λ s. refl;
      grows = λ s. grown_refl _ _;
    }

mark_d : (k : ℕ) → Declares (declare_at k)
unfolding declare_at
mark_d k =
    record {
      more = λ s. [];
      missed = λ s. false;
      plains = λ s. end;
      blind = λ s l b i. put (sym (append-nil l) i) (or-false b i) (declare_at k s);
      stack = λ s. refl;
      grows = λ s. grown_join (length s.stack) s.levels k;
    }

-- an assertion, whose %tag number is what is declared when it is sent
assert_d : (c : LevelState → Command) → ((s : LevelState) → Plain (c s)) → ((s : LevelState) (l : List Command) (m : Bool) → c (put l m s) ≡ c s) → Declares (λ s. send (c s) s)
unfolding send
assert_d c h same =
    record {
      more = λ s. c s ∷ [];
      missed = λ s. false;
      plains = λ s. more (h s) end;
      blind = λ s l m i. put (l ++ (same s l m i ∷ [])) (or-false m i) s;
      stack = λ s. refl;
      grows = λ s. grown_refl _ _;
    }

module _ (p : Program) where
  pub assume_d : (e : RExpr) → CleanR e → Declares (assume (levelled p) e)
  unfolding assume
  assume_d e h = assert_d _ (λ s. plain_assume e _ h) (λ s l m. refl)

  pub assume_not_d : (e : RExpr) → CleanR e → Declares (assume_not (levelled p) e)
  unfolding assume_not
  assume_not_d e h = assert_d _ (λ s. plain_assume_not e _ h) (λ s l m. refl)

  types_d : (t : SType) → CleanType t → Declares (declare_new_types (levelled p) t)
  unfolding declare_new_types declare_type is_declared_at
  types_d SBool h = skip_d
  types_d SInt h = skip_d
  types_d (SUserType d) h = unless_d _ (λ s l m. refl) (then_d (send_d _ (plain_sort d h)) (mark_d _))

  -- ---- the walk, where every axiom's term has clean names
  module _ (clean-axioms : (k : ℕ) → EveryTerm cleanly (axiom_at p k).term) where
    module _ (inner : RExpr → List ℕ → Step LevelState) (inner-d : (e : RExpr) (x : List ℕ) → CleanR e → Declares (inner e x)) where
      send_axiom_d : (x : List ℕ) (k : ℕ) (fs : List ℕ) (t : Option RExpr) → EveryTerm cleanly t → Declares (send_axiom (levelled p) p inner x k fs t)
      unfolding send_axiom is_declared_at
      send_axiom_d x k fs none h = miss_d
      send_axiom_d x k fs (some e) h = unless_d _ (λ s l m. refl) (then_d (mark_d _) (then_d (inner-d e [] h) (assume_d e h)))

      operator_d : (op : ROperator) (x : List ℕ) → CleanOperator op → Declares (declare_operator (levelled p) p inner op x)
      unfolding declare_operator declare_function include_axiom is_declared_at
      operator_d (BuiltInOperator n) x h = skip_d
      operator_d (UserDefinedFunction f) x h =
          unless_d _ (λ s l m. refl)
          (then_d (for_d h.input_types types_d)
          (then_d (types_d f.typ h.typ)
          (then_d (then_d (send_d _ (plain_function f h)) (mark_d _)) (any_d f.explained_by (λ k. send_axiom_d x k _ _ (clean-axioms k))))))

      mutual
        unfolding declare_symbols is_declared_at declare_constant declare_literal declare_type_of

        declare_d : (e : RExpr) (x : List ℕ) → CleanR e → Declares (declare_symbols (levelled p) p inner e x)
        declare_d (Boolean b) x h = skip_d
        declare_d (Integer n) x h = skip_d
        declare_d (CustomLiteral t l) x h =
            unless_d _ (λ s c m. refl) (then_d (types_d l.typ h.typ) (then_d (send_d _ (plain_literal l h)) (mark_d _)))
        declare_d (Id v) x h = unless_d _ (λ s l m. refl) (then_d (types_d v.typ h.typ) (then_d (send_d _ (plain_constant v h)) (mark_d _)))
        declare_d (FuncAppl op args) x h = then_d (operator_d op x h.0) (declares_d args x h.1)
        declare_d (IfThenElse g t e) x h = then_d (declare_d g x h.0) (then_d (declare_d t x h.1) (declare_d e x h.2))
        declare_d (LetExpr v r b) x h =
            then_d (types_d v.typ h.0.typ) (then_d (declare_d r x h.1) (declare_d b (v.number ∷ x) h.2))
        declare_d (QuantifierExpr u vv ps b) x h =
            then_d (for_d h.0 (λ v k. types_d v.typ k.typ))
            (then_d (patterns_d ps (with_constants vv x) h.1) (declare_d b (with_constants vv x) h.2))

        declares_d : (es : RExprs) (x : List ℕ) → EveryRs cleanly es → Declares (declare_all_symbols (levelled p) p inner es x)
        declares_d []ʳ x h = skip_d
        declares_d (e ∷ʳ es) x h = then_d (declare_d e x h.0) (declares_d es x h.1)

        patterns_d : (ps : RPatterns) (x : List ℕ) → EveryPs cleanly ps → Declares (declare_pattern_symbols (levelled p) p inner ps x)
        patterns_d []ᵖ x h = skip_d
        patterns_d (q ∷ᵖ ps) x h = then_d (declares_d q x h.0) (patterns_d ps x h.1)

    walk_d : (fuel : ℕ) (e : RExpr) (x : List ℕ) → CleanR e → Declares (walk (levelled p) p fuel e x)
    unfolding walk
    walk_d zero e x h = skip_d
    walk_d (suc fuel) e x h = declare_d _ (λ c y k. walk_d fuel c y k) e x h

    -- DeclareNewSymbols
    pub symbols_d : (e : RExpr) → CleanR e → Declares (declare_new_symbols (levelled p) p e)
    unfolding declare_new_symbols
    symbols_d e h = walk_d _ e [] h
