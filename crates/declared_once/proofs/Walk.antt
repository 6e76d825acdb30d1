-- DeclareNewSymbols keeps what holds of the sets and the log, and declares the symbols of its expression, if it has fuel for the axioms that
-- are not sent. On the bodies' state.
use Rattle.std.specs.Prelude.{if◌then◌else◌}
use Prim.Native.Nat.{ℕ, zero, suc, ◌≤◌, ◌<◌}
use native.Mathlib.Nat.{le_refl, le_trans, not-suc-le-zero, le_of_suc-le-suc, lt_of_lt_of_le}
use native.Mathlib.Omega.{arith}
use native.Mathlib.Decide.{dec_lt}
use mathlib.Core.Path.{◌≡◌, refl, sym, ◌∙◌, subst}
use mathlib.Core.Option.{Option, none, some}
use mathlib.Core.Bool.{Bool, true, false, ◌||◌, true≢false}
use mathlib.Core.List.{List, [], ◌∷◌, ◌++◌}
use lib.ListN.{length, get_or-eq_default}
use Rattle.basics.specs.Text.{Text, same}
use Rattle.basics.specs.Lists.{member}
use Rattle.basics.proofs.All.{All, end, more, all_split, all_head, all_weaken}
use Rattle.basics.proofs.Bool.{or_left}
use Rattle.book.specs.SType.{SType, SBool, SInt, SUserType, SConstant}
use Rattle.book.specs.RExpr.{RExpr, RExprs, RPatterns, Function, Literal, is_tag, ROperator, BuiltInOperator, UserDefinedFunction, Boolean, Integer, CustomLiteral, Id, FuncAppl, IfThenElse, LetExpr, QuantifierExpr, []ʳ, ◌∷ʳ◌, []ᵖ, ◌∷ᵖ◌}
use Rattle.book.specs.Book.{Book}
use Rattle.book.specs.Program.{Axiom, axiom_at}
use Rattle.book.specs.Decode.{program}
use Rattle.book.proofs.Every.{EveryR, EveryRs, EveryPs, EveryTerm}
use Rattle.book_test.specs.Promise.{Promise}
use Rattle.solver_expr.specs.Lowering.{literal_name}
use Rattle.smt_engines.specs.Command.{Assume, AssumeNot}
use Rattle.rsolver.specs.Step.{Step, skip, ◌⨟◌, for, do_unless, unless}
use Rattle.rsolver.specs.Methods.{Marker, type, constant, function, axiom'}
use Rattle.rsolver.specs.SolverState.{same_marker, is_in, with', SolverState, told, marked, named, missed, bodies}
use Rattle.rsolver.specs.REngine.{with_constants, declare_type, declare_constant, declare_function, declare_literal, assume, assume_not, declare_new_types, declare_type_of, send_axiom, include_axiom, declare_operator, declare_symbols, declare_all_symbols, declare_pattern_symbols, walk, declare_new_symbols}
use Rattle.rsolver.proofs.Sets.{marker_eq, in_with}
use Rattle.rsolver.proofs.Fuel.{body_counts}
use Rattle.declared_once.specs.Symbols.{Symbol, a_sort, a_constant, a_function, a_literal, sorts_in, sorts_of_types, sorts_of_variables, sorts_of, with_sorts, operator_symbols, symbols_of, symbols_of_all, symbols_of_patterns, declared_by, declaration_of, asserted, is_sort}
use Rattle.declared_once.specs.ToldApart.{prints_apart}
use Rattle.declared_once.proofs.Unique.{Of}
use Rattle.declared_once.proofs.OfBook.{OperatorOf, asked, sorts-of, variables_of, symbols-of, axiom-of}
use Rattle.declared_once.proofs.Posts.{has_in, Have, Holds, unsent, unsent_key, Post, Does, post_then, post_have, skip_p, then_p, unless_p, for_p, for_any}
use Rattle.declared_once.proofs.Log.{key, has_key, has, markers_with, names_with, has_keeps, has_own, has_axiom, inv_declare, inv_assert, inv_axiom}

-- ---- declaring types leaves what is no type as it is
types_others : (typ : SType) (x : Symbol) → is_sort x ≡ false → (t : SolverState) → has_in x (declare_new_types bodies typ t) ≡ has_in x t
unfolding declare_new_types declare_type skip ◌⨟◌ unless do_unless told marked is_sort
types_others SBool x n t = refl
types_others SInt x n t = refl
types_others (SUserType d) x n t = at (is_in same_marker (type d.number) t.declarations)
  where
    other : (x : Symbol) → is_sort x ≡ false → (ds : List Marker) (ns : List Text) → has x (with' same_marker (type d.number) ds) ns ≡ has x ds ns
    other (a_sort c) n ds ns = absurd (true≢false (unfold is_sort in n))
    other (a_constant v) n ds ns = unfold has has_key key same_marker in in_with same_marker marker_eq (constant v.number) (type d.number) ds
    other (a_function f) n ds ns = unfold has has_key key same_marker in in_with same_marker marker_eq (function f.number) (type d.number) ds
    other (a_literal l) n ds ns = unfold has has_key key in refl

    at : (b : Bool) → has_in x (do_unless b (declare_type bodies d) t) ≡ has_in x t
    at true = refl
    at false = other x n t.declarations t.additional_declared_names

for_others : (ts : List SType) (x : Symbol) → is_sort x ≡ false → (t : SolverState) → has_in x (for ts (declare_new_types bodies) t) ≡ has_in x t
unfolding for
for_others [] x n t = refl
for_others (s ∷ ts) x n t = for_others ts x n (declare_new_types bodies s t) ∙ types_others s x n t

module _ (b : Book) (P : Promise b) (T : prints_apart b ≡ true) where
  -- ---- the declaring steps
  declare_p : (y : Symbol) → Of b y → (t u : SolverState) → Holds b t → has_in y t ≡ false → Have t (sorts_of y)
      → u.declarations ≡ markers_with (key y) t.declarations → u.additional_declared_names ≡ names_with (key y) t.additional_declared_names
      → u.sent ≡ t.sent ++ (declaration_of y ∷ []) → Post b t u (with_sorts y)
  unfolding with_sorts
  declare_p y o t u I new sorts d m s =
      let k : (x : Symbol) → has_in x t ≡ true → has_in x u ≡ true =
      λ x g. rw (d, m) (has_keeps x (key y) t.declarations t.additional_declared_names g) in
      record {
        holds = rw (d, m, s) (inv_declare b T I y o new sorts);
        keeps = k;
        less = rw d (unsent_key b (key y) t);
        there = more {a = y} (rw (d, m) (has_own y t.declarations t.additional_declared_names)) (all_weaken k sorts);
      }

  assume_p : (e : RExpr) → EveryR (asked b) e → (t : SolverState) → Holds b t → Have t (symbols_of e []) → Post b t (assume bodies e t) []
  unfolding assume told
  assume_p e h t I hs =
      record {
        holds = inv_assert b T I (Assume e _) e (unfold asserted in refl) (unfold declared_by in refl) h (symbols-of b P e [] h) hs;
        keeps = λ x g. g;
        less = le_refl _;
        there = end;
      }

  pub deny_p : (e : RExpr) → EveryR (asked b) e → (t : SolverState) → Holds b t → Have t (symbols_of e []) → Post b t (assume_not bodies e t) []
  unfolding assume_not told
  deny_p e h t I hs =
      record {
        holds = inv_assert b T I (AssumeNot e _) e (unfold asserted in refl) (unfold declared_by in refl) h (symbols-of b P e [] h) hs;
        keeps = λ x g. g;
        less = le_refl _;
        there = end;
      }

  missed_p : (t : SolverState) → Holds b t → Post b t (missed t) []
  unfolding missed
  missed_p t I = record { holds = I; keeps = λ x g. g; less = le_refl _; there = end }

  marked_p : (k : ℕ) (t : SolverState) → Holds b t → Post b t (marked (axiom' k) t) []
  unfolding marked
  marked_p k t I =
      record {
        holds = inv_axiom b T I k;
        keeps = λ x g. has_axiom x k t.declarations t.additional_declared_names ∙ g;
        less = ((body_counts (program b)).mark (axiom' k)).falls t tt;
        there = end;
      }

  marked_new : (k : ℕ) (t : SolverState) → k < length (program b).axioms → is_in same_marker (axiom' k) t.declarations ≡ false → unsent b (marked (axiom' k) t) < unsent b t
  marked_new k t own e = (body_counts (program b)).new k t tt own e

  module _ {n : ℕ} where
    types_p : (typ : SType) → All (Of b) (sorts_in typ) → Does b n (declare_new_types bodies typ) (sorts_in typ)
    unfolding declare_new_types declare_type sorts_in with_sorts sorts_of ◌⨟◌ told marked markers_with names_with key declaration_of has has_key
    types_p SBool h = skip_p
    types_p SInt h = skip_p
    types_p (SUserType d) h =
        unless_p _ (λ t I e. more {a = a_sort d} e end) (λ t I l e. declare_p (a_sort d) (all_head h) t (declare_type bodies d t) I e end refl refl refl)

  module _ {n : ℕ} where
    inputs_p : (ts : List SType) → All (Of b) (sorts_of_types ts) → Does b n (for ts (declare_new_types bodies)) (sorts_of_types ts)
    unfolding sorts_of_types
    inputs_p ts h = for_p sorts_in sorts_of_types refl (λ x xs. refl) types_p ts h

    variables_p : (vv : List SConstant) → All (Of b) (sorts_of_variables vv) → Does b n (for vv (declare_type_of bodies)) (sorts_of_variables vv)
    unfolding sorts_of_variables declare_type_of
    variables_p vv h = for_p (λ v. sorts_in v.typ) sorts_of_variables refl (λ x xs. refl) (λ v. types_p v.typ) vv h

    -- a constant that is not bound, a literal that is not %tag, and a function, each with its types
    constant_p : (v : SConstant) → Of b (a_constant v) → (bound : Bool)
        → Does b n (unless (λ s. bound || is_in same_marker (constant v.number) s.declarations) (declare_new_types bodies v.typ ⨟ declare_constant bodies v)) (if bound then [] else with_sorts (a_constant v))
    unfolding declare_constant with_sorts sorts_of ◌⨟◌ told marked markers_with names_with key declaration_of has has_key is_sort
    constant_p v o true = unless_p _ (λ t I e. end) (λ t I l e. absurd (true≢false e))
    constant_p v o false =
        unless_p _ (λ t I e. more {a = a_constant v} e (I.closed (a_constant v) o e))
        (λ t I l e.
        let u = declare_new_types bodies v.typ t in
        let A = types_p {n = n} v.typ (sorts-of b P (a_constant v) o) t I l in
        let B = declare_p (a_constant v) o u (declare_constant bodies v u) A.holds (types_others v.typ (a_constant v) refl t ∙ e) A.there refl refl refl in
        post_have (post_then A B) B.there)

    literal_p : (k : ℕ) (l : Literal) → (is_tag l ≡ false → Of b (a_literal l)) → (tag : Bool) → is_tag l ≡ tag
        → Does b n (unless (λ s. tag || is_in same (literal_name l) s.additional_declared_names) (declare_new_types bodies l.typ ⨟ declare_literal bodies k l)) (if tag then [] else with_sorts (a_literal l))
    unfolding declare_literal with_sorts sorts_of ◌⨟◌ told named markers_with names_with key declaration_of has has_key is_sort
    literal_p k l h true z = unless_p _ (λ t I e. end) (λ t I m e. absurd (true≢false e))
    literal_p k l h false z =
        unless_p _ (λ t I e. more {a = a_literal l} e (I.closed (a_literal l) (h z) e))
        (λ t I m e.
        let u = declare_new_types bodies l.typ t in
        let A = types_p {n = n} l.typ (sorts-of b P (a_literal l) (h z)) t I m in
        let B = declare_p (a_literal l) (h z) u (declare_literal bodies k l u) A.holds (types_others l.typ (a_literal l) refl t ∙ e) A.there refl refl refl in
        post_have (post_then A B) B.there)

    function_p : (f : Function) → Of b (a_function f) → (t : SolverState) → Holds b t → unsent b t ≤ n → is_in same_marker (function f.number) t.declarations ≡ false
        → Post b t ((for f.input_types (declare_new_types bodies) ⨟ declare_new_types bodies f.typ ⨟ declare_function bodies f) t) (with_sorts (a_function f))
    unfolding declare_function with_sorts sorts_of ◌⨟◌ told marked markers_with names_with key declaration_of has has_key is_sort
    function_p f o t I l e =
        let s = all_split (sorts_of_types f.input_types) (sorts_in f.typ) (sorts-of b P (a_function f) o) in
        let v = for f.input_types (declare_new_types bodies) t in
        let u = declare_new_types bodies f.typ v in
        let A = then_p {n = n} (inputs_p f.input_types s.0) (types_p f.typ s.1) t I l in
        let B = declare_p (a_function f) o u (declare_function bodies f u) A.holds
        (types_others f.typ (a_function f) refl v ∙ for_others f.input_types (a_function f) refl t ∙ e) A.there refl refl refl in
        post_have (post_then A B) B.there

    -- ---- the walk; `inner` walks an axiom's term, with one axiom less that is not sent
    module _ (inner : RExpr → List ℕ → Step SolverState)
        (inner-p : (e : RExpr) (x : List ℕ) → EveryR (asked b) e → (t : SolverState) → Holds b t → unsent b t < n → Post b t (inner e x t) (symbols_of e x)) where
      send_axiom_p : (x : List ℕ) (k : ℕ) (fs : List ℕ) (term : Option RExpr) → k < length (program b).axioms → EveryTerm (asked b) term
          → Does b n (send_axiom bodies (program b) inner x k fs term) []
      unfolding send_axiom ◌⨟◌
      send_axiom_p x k fs none own h = λ t I l. missed_p t I
      send_axiom_p x k fs (some cond) own h =
          unless_p _ (λ t I e. end)
          (λ t I l e.
          let A = marked_p k t I in
          let m : unsent b (marked (axiom' k) t) < n = lt_of_lt_of_le (marked_new k t own (or_left _ _ e)) l in
          let B = inner-p cond [] h (marked (axiom' k) t) A.holds m in
          let C = assume_p cond h (inner cond [] (marked (axiom' k) t)) B.holds B.there in
          post_have (post_then A (post_then B C)) end)

      axiom_p : (x : List ℕ) (k : ℕ) → Does b n (include_axiom bodies (program b) inner x k) []
      unfolding include_axiom send_axiom
      axiom_p x k = at (dec_lt k (length (program b).axioms))
        where
          at : Dec (k < length (program b).axioms) → Does b n (include_axiom bodies (program b) inner x k) []
          at (yes h) = send_axiom_p x k (axiom_at (program b) k).explains (axiom_at (program b) k).term h (axiom-of b P k)
          at (no h) =
              subst
              (λ (a : Axiom). Does b n (send_axiom bodies (program b) inner x k a.explains a.term) [])
              (sym (get_or-eq_default (program b).axioms (record { term = none; explains = [] }) (omega arith)))
              (λ t I l. missed_p t I)

      operator_p : (op : ROperator) (x : List ℕ) → OperatorOf b op → Does b n (declare_operator bodies (program b) inner op x) (operator_symbols op)
      unfolding declare_operator operator_symbols ◌⨟◌
      operator_p (BuiltInOperator name) x h = skip_p
      operator_p (UserDefinedFunction f) x h =
          unless_p _ (λ t I e. unfold with_sorts has has_key key in more {a = a_function f} e (I.closed (a_function f) h e))
          (λ t I l e.
          let A = function_p f h t I l e in
          let B = for_any (axiom_p x) f.explained_by _ A.holds (le_trans A.less l) in
          let C = post_then A B in
          post_have C (all_split (with_sorts (a_function f)) [] C.there).0)

      -- what comes after types that are not asked for
      after_p : {f g : Step SolverState} {xs ys : List Symbol} → Does b n f xs → Does b n g ys → Does b n (f ⨟ g) ys
      after_p {f} {g} {xs} {ys} F G t I l = let A = then_p F G t I l in post_have A (all_split xs ys A.there).1

      mutual
        unfolding declare_symbols symbols_of sorts_of

        symbols_in_p : (e : RExpr) (x : List ℕ) → EveryR (asked b) e → Does b n (declare_symbols bodies (program b) inner e x) (symbols_of e x)
        symbols_in_p (Boolean c) x h = skip_p
        symbols_in_p (Integer z) x h = skip_p
        symbols_in_p (CustomLiteral k l) x h = literal_p k l h (is_tag l) refl
        symbols_in_p (Id v) x h = constant_p v h (member v.number x)
        symbols_in_p (FuncAppl op args) x h = then_p (operator_p op x h.0) (all_symbols_p args x h.1)
        symbols_in_p (IfThenElse g t e) x h = then_p (symbols_in_p g x h.0) (then_p (symbols_in_p t x h.1) (symbols_in_p e x h.2))
        symbols_in_p (LetExpr v r c) x h =
            after_p (types_p v.typ (sorts-of b P (a_constant v) h.0)) (then_p (symbols_in_p r x h.1) (symbols_in_p c (v.number ∷ x) h.2))
        symbols_in_p (QuantifierExpr u vv ps c) x h =
            then_p (variables_p vv (variables_of b P h.0))
            (then_p (pattern_symbols_p ps (with_constants vv x) h.1) (symbols_in_p c (with_constants vv x) h.2))

        all_symbols_p : (es : RExprs) (x : List ℕ) → EveryRs (asked b) es → Does b n (declare_all_symbols bodies (program b) inner es x) (symbols_of_all es x)
        all_symbols_p []ʳ x h = skip_p
        all_symbols_p (e ∷ʳ es) x h = then_p (symbols_in_p e x h.0) (all_symbols_p es x h.1)

        pattern_symbols_p : (ps : RPatterns) (x : List ℕ) → EveryPs (asked b) ps → Does b n (declare_pattern_symbols bodies (program b) inner ps x) (symbols_of_patterns ps x)
        pattern_symbols_p []ᵖ x h = skip_p
        pattern_symbols_p (q ∷ᵖ ps) x h = then_p (all_symbols_p q x h.0) (pattern_symbols_p ps x h.1)

  walk_p : (fuel : ℕ) (e : RExpr) (x : List ℕ) → EveryR (asked b) e → (t : SolverState) → Holds b t → unsent b t < fuel → Post b t (walk bodies (program b) fuel e x t) (symbols_of e x)
  unfolding walk
  walk_p zero e x h t I l = absurd (not-suc-le-zero l)
  walk_p (suc fuel) e x h t I l = symbols_in_p {n = fuel} (λ c y. walk bodies (program b) fuel c y) (λ c y k u J m. walk_p fuel c y k u J m) e x h t I (le_of_suc-le-suc l)

  -- DeclareNewSymbols, from any state: there are no more axioms than it has fuel for
  pub symbols_p : (e : RExpr) → EveryR (asked b) e → (t : SolverState) → Holds b t → Post b t (declare_new_symbols bodies (program b) e t) (symbols_of e [])
  unfolding declare_new_symbols
  symbols_p e h t I = walk_p (suc (length (program b).axioms)) e [] h t I (omega (arith, (body_counts (program b)).most t))

  -- a node's declarations and its assertion
  pub settle_p : (e : RExpr) → EveryR (asked b) e → (t : SolverState) → Holds b t → Holds b ((declare_new_symbols bodies (program b) e ⨟ assume bodies e) t)
  unfolding ◌⨟◌
  settle_p e h t I = let A = symbols_p e h t I in (assume_p e h (declare_new_symbols bodies (program b) e t) A.holds A.there).holds
