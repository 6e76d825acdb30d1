-- The parts of each row.
use Rattle.std.specs.Prelude.{if◌then◌else◌}
use Prim.Native.Nat.{ℕ, zero, suc, ◌+◌, ◌-◌, ◌*◌, ◌/◌, ◌%◌, ◌≤◌, ◌<◌}
use native.Mathlib.Omega.{arith}
use mathlib.Core.Path.{◌≡◌, refl, sym, ap, ◌∙◌, subst}
use mathlib.Core.List.{◌∷◌}
use borrow.Author.Tests.{eq-eqb, ne_eqb}
use Rattle.basics.specs.Text.{ascii}
use Rattle.book.specs.Book.{Book, constants, functions, patterns, terms, lists, field}
use Rattle.book.specs.Decode.{constant_of, function_of, to_rpatterns}
use Rattle.book.specs.Decode as decode
use Rattle.book_test.specs.Promise.{GoodKind}
use Rattle.solver_expr.specs.SolverExpr.{SExpr, S, PP, ◌∷ˢ◌, func_appl}
use Rattle.solver_expr.specs.Lowering.{annotate, patterns_to_sexprs}
use Rattle.solver_expr.specs.Values.{word_text, quantifier_word, text_of, row_of, meaning, term_of, patterns_of, FineName, FineRow, Fine, Ready, ReadyType, IsId, IsType}
use Rattle.solver_expr.specs.declared.Word.{Word}
use Rattle.solver_expr.specs.declared.Word.TheVariants as word
use Rattle.solver_expr.specs.declared.SName.{SName}
use Rattle.solver_expr.specs.declared.SName.TheVariants as name
use Rattle.solver_expr.specs.declared.SRow.TheVariants as row
use Rattle.solver_expr.specs.declared.SExpr as code
use Rattle.solver_expr.specs.declared.SExpr.TheVariants as value
use Rattle.sexpr_rows.specs.Rows.{atˢ, row_length, part_of, FinePart, ReadyPlace, Listed, Element}
use Rattle.sexpr_rows.specs.declared.Part.{Part}
use Rattle.sexpr_rows.specs.declared.Part.TheVariants as part
use Rattle.sexpr_rows.proofs.Lists.{terms_at, vars_at, types_at, patterns_at}

module _ (b : Book) where
  -- (not e)
  pub negation_head : (t : ℕ) {i : ℕ} {a : Part} → i ≡ 0 → a ≡ part.Known (value.S (name.Word word.Not)) → Element b (row.Negation t) i a
  unfolding row_of atˢ part_of meaning text_of word_text FinePart Fine FineName
  negation_head t e h = rw (e, h) (record { fine = tt; is = λ tag. refl })

  pub negation_rest : (t i : ℕ) → ReadyPlace b (row.Negation t) i → (i ≡ 0 → ⊥) → Element b (row.Negation t) i (part.Term t)
  unfolding row_of row_length atˢ part_of FinePart FineRow
  negation_rest t zero r n = absurd (n refl)
  negation_rest t (suc zero) r n = record { fine = r.fine; is = λ tag. refl }
  negation_rest t (suc (suc i)) r n = absurd (omega (arith, r.within))

  -- (- n)
  pub minus_head : (n : ℕ) {i : ℕ} {a : Part} → i ≡ 0 → a ≡ part.Known (value.S (name.Word word.Minus)) → Element b (row.Minus n) i a
  unfolding row_of atˢ part_of meaning text_of word_text FinePart Fine FineName
  minus_head n e h = rw (e, h) (record { fine = tt; is = λ tag. refl })

  pub minus_rest : (n i : ℕ) → ReadyPlace b (row.Minus n) i → (i ≡ 0 → ⊥) → Element b (row.Minus n) i (part.Known (value.S (name.Numeral n)))
  unfolding row_of row_length atˢ part_of meaning text_of FinePart Fine FineName
  minus_rest n zero r z = absurd (z refl)
  minus_rest n (suc zero) r z = record { fine = tt; is = λ tag. refl }
  minus_rest n (suc (suc i)) r z = absurd (omega (arith, r.within))

  -- (op args)
  pub appl_head : (op : SName) (t : ℕ) {i : ℕ} → ReadyPlace b (row.Appl t op) i → i ≡ 0 → Element b (row.Appl t op) i (part.Known (value.S op))
  unfolding row_of atˢ part_of meaning FinePart Fine FineRow
  appl_head op t r e = rw e (record { fine = r.fine.operator; is = λ tag. refl })

  pub appl_listed : (op : SName) (t i : ℕ) {start : ℕ} → ReadyPlace b (row.Appl t op) i → (i ≡ 0 → ⊥) → start ≡ field b terms t 2 → Listed b start (i - 1)
  unfolding row_length FineRow
  appl_listed op t i r n e = record { promise = r.promise; here = omega (arith, r.within, r.fine.args.ends) }

  pub appl_rest : (op : SName) (t i : ℕ) {start x : ℕ} → ReadyPlace b (row.Appl t op) i → (i ≡ 0 → ⊥) → start ≡ field b terms t 2 → x ≡ field b lists (start + (i - 1)) 0
      → Element b (row.Appl t op) i (part.Term x)
  unfolding row_of row_length atˢ part_of FinePart FineRow
  appl_rest op t zero r n es ex = absurd (n refl)
  appl_rest op t (suc i) {start} {x} r n es ex =
      let j : suc i - 1 ≡ i = omega arith in
      let h : i < field b terms t 3 = omega (arith, r.within) in
      let e : x ≡ field b lists (field b terms t 2 + i) 0 = ex ∙ rw (es, j) in
      rw e (record { fine = r.fine.args.below i h; is = λ tag. sym (terms_at b tag (field b terms t 2) (field b terms t 3) i h) })

  -- (ite guard thn els)
  pub ite_head : (t : ℕ) {i : ℕ} {a : Part} → i ≡ 0 → a ≡ part.Known (value.S (name.Word word.Ite)) → Element b (row.Ite t) i a
  unfolding row_of atˢ part_of meaning text_of word_text FinePart Fine FineName
  ite_head t e h = rw (e, h) (record { fine = tt; is = λ tag. refl })

  pub ite_within : (t i : ℕ) → ReadyPlace b (row.Ite t) i → 4 * i + 4 ≤ 28
  unfolding row_length
  ite_within t i r = omega (arith, r.within)

  pub ite_rest : (t i : ℕ) {x : ℕ} → ReadyPlace b (row.Ite t) i → (i ≡ 0 → ⊥) → x ≡ field b terms t i → Element b (row.Ite t) i (part.Term x)
  unfolding row_of row_length atˢ part_of FinePart FineRow GoodKind
  ite_rest t zero r n e = absurd (n refl)
  ite_rest t (suc zero) r n e = rw e (record { fine = omega (arith, r.fine.here, r.fine.good.guard); is = λ tag. refl })
  ite_rest t (suc (suc zero)) r n e = rw e (record { fine = omega (arith, r.fine.here, r.fine.good.thn); is = λ tag. refl })
  ite_rest t (suc (suc (suc zero))) r n e = rw e (record { fine = omega (arith, r.fine.here, r.fine.good.els); is = λ tag. refl })
  ite_rest t (suc (suc (suc (suc i)))) r n e = absurd (omega (arith, r.within))

  -- (let ((v rhs)) body)
  pub let_head : (t : ℕ) {i : ℕ} {a : Part} → i ≡ 0 → a ≡ part.Known (value.S (name.Word word.Let)) → Element b (row.Let t) i a
  unfolding row_of atˢ part_of meaning text_of word_text FinePart Fine FineName
  let_head t e h = rw (e, h) (record { fine = tt; is = λ tag. refl })

  pub let_second : (t : ℕ) {i : ℕ} → ReadyPlace b (row.Let t) i → i ≡ 1 → Element b (row.Let t) i (part.Known (value.PP (row.Bindings t)))
  unfolding row_of atˢ part_of meaning FinePart Fine FineRow
  let_second t r e = rw e (record { fine = r.fine; is = λ tag. refl })

  pub let_body : (t i : ℕ) {x : ℕ} → ReadyPlace b (row.Let t) i → (i ≡ 0 → ⊥) → (i ≡ 1 → ⊥) → x ≡ field b terms t 3 → Element b (row.Let t) i (part.Term x)
  unfolding row_of row_length atˢ part_of FinePart FineRow GoodKind
  let_body t zero r n m e = absurd (n refl)
  let_body t (suc zero) r n m e = absurd (m refl)
  let_body t (suc (suc zero)) r n m e = rw e (record { fine = omega (arith, r.fine.here, r.fine.good.body); is = λ tag. refl })
  let_body t (suc (suc (suc i))) r n m e = absurd (omega (arith, r.within))

  pub bindings_only : (t i : ℕ) → ReadyPlace b (row.Bindings t) i → Element b (row.Bindings t) i (part.Known (value.PP (row.Binding t)))
  unfolding row_of row_length atˢ part_of meaning FinePart Fine FineRow
  bindings_only t zero r = record { fine = r.fine; is = λ tag. refl }
  bindings_only t (suc i) r = absurd (omega (arith, r.within))

  pub binding_constant : (t : ℕ) {i v : ℕ} → ReadyPlace b (row.Binding t) i → v ≡ field b terms t 1 → Ready b constants v
  unfolding FineRow GoodKind
  binding_constant t r e = record { promise = r.promise; here = rw e r.fine.good.v }

  pub binding_head : (t : ℕ) {i v : ℕ} {a : code.SExpr} → i ≡ 0 → v ≡ field b terms t 1 → IsId b v a → Element b (row.Binding t) i (part.Known a)
  unfolding row_of atˢ part_of FinePart
  binding_head t {i} {v} {a} e ev h =
      let w : IsId b (field b terms t 1) a = rw (← ev) h in
      rw e (record { fine = w.fine; is = λ tag. w.is tag })

  pub binding_rest : (t i : ℕ) {x : ℕ} → ReadyPlace b (row.Binding t) i → (i ≡ 0 → ⊥) → x ≡ field b terms t 2 → Element b (row.Binding t) i (part.Term x)
  unfolding row_of row_length atˢ part_of FinePart FineRow GoodKind
  binding_rest t zero r n e = absurd (n refl)
  binding_rest t (suc zero) r n e = rw e (record { fine = omega (arith, r.fine.here, r.fine.good.rhs); is = λ tag. refl })
  binding_rest t (suc (suc i)) r n e = absurd (omega (arith, r.within))

  -- (forall vars body)
  pub word_exists : (t : ℕ) {x : ℕ} → x ≡ field b terms t 1 → x ≡ 0 → word_text word.Exists ≡ quantifier_word b t
  unfolding word_text quantifier_word
  word_exists t e h = rw (eq-eqb (field b terms t 1) 0 (sym e ∙ h))

  pub word_forall : (t : ℕ) {x : ℕ} → x ≡ field b terms t 1 → (x ≡ 0 → ⊥) → word_text word.Forall ≡ quantifier_word b t
  unfolding word_text quantifier_word
  word_forall t e h = rw (ne_eqb (field b terms t 1) 0 (λ z. h (e ∙ z)))

  pub quantifier_head : (t : ℕ) {i : ℕ} {w : Word} {a : Part} → i ≡ 0 → word_text w ≡ quantifier_word b t → a ≡ part.Known (value.S (name.Word w)) → Element b (row.Quantifier t) i a
  unfolding row_of atˢ part_of meaning text_of FinePart Fine FineName
  quantifier_head t e ew h = rw (e, h) (record { fine = tt; is = λ tag. rw ew })

  pub quantifier_vars : (t : ℕ) {i : ℕ} → ReadyPlace b (row.Quantifier t) i → i ≡ 1 → Element b (row.Quantifier t) i (part.Known (value.PP (row.BoundVars t)))
  unfolding row_of atˢ part_of meaning FinePart Fine FineRow
  quantifier_vars t r e = rw e (record { fine = r.fine; is = λ tag. refl })

  annotate_none : (tag start count : ℕ) (x : SExpr) → count ≡ 0 → x ≡ annotate x (patterns_of b tag start count)
  unfolding annotate patterns_of decode.to_rpatterns patterns_to_sexprs
  annotate_none tag start zero x e = unfold Rattle.book.specs.Book.entries in refl
  annotate_none tag start (suc count) x e = absurd (omega arith)

  annotate_some : (tag start count : ℕ) (x : SExpr) → (count ≡ 0 → ⊥) → PP (S (ascii "!") ∷ˢ x ∷ˢ patterns_of b tag start count) ≡ annotate x (patterns_of b tag start count)
  unfolding annotate patterns_of decode.to_rpatterns patterns_to_sexprs func_appl
  annotate_some tag start zero x e = absurd (e refl)
  annotate_some tag start (suc count) x e = unfold Rattle.book.specs.Book.entries in refl

  pub body_bare : (t : ℕ) {n x : ℕ} → ReadyPlace b (row.Quantifier t) 2 → n ≡ field b terms t 5 → n ≡ 0 → x ≡ field b terms t 6 → Element b (row.Quantifier t) 2 (part.Term x)
  unfolding row_of atˢ part_of FinePart FineRow GoodKind
  body_bare t r en z e =
      rw e (record {
        fine = omega (arith, r.fine.here, r.fine.good.body);
        is = λ tag. annotate_none tag (field b terms t 4) (field b terms t 5) (term_of b tag (field b terms t 6)) (sym en ∙ z);
      })

  pub body_annotated : (t : ℕ) {n : ℕ} → ReadyPlace b (row.Quantifier t) 2 → n ≡ field b terms t 5 → (n ≡ 0 → ⊥) → Element b (row.Quantifier t) 2 (part.Known (value.PP (row.Annotated t)))
  unfolding row_of atˢ part_of meaning FinePart Fine FineRow
  body_annotated t r en n =
      record { fine = r.fine; is = λ tag. annotate_some tag (field b terms t 4) (field b terms t 5) (term_of b tag (field b terms t 6)) (λ z. n (en ∙ z)) }

  third : (t i : ℕ) → ReadyPlace b (row.Quantifier t) i → (i ≡ 0 → ⊥) → (i ≡ 1 → ⊥) → i ≡ 2
  unfolding row_length
  third t zero r n m = absurd (n refl)
  third t (suc zero) r n m = absurd (m refl)
  third t (suc (suc zero)) r n m = refl
  third t (suc (suc (suc i))) r n m = absurd (omega (arith, r.within))

  pub body_ready : (t i : ℕ) → ReadyPlace b (row.Quantifier t) i → (i ≡ 0 → ⊥) → (i ≡ 1 → ⊥) → ReadyPlace b (row.Quantifier t) 2
  body_ready t i r n m = subst (ReadyPlace b (row.Quantifier t)) (third t i r n m) r

  pub quantifier_body : (t i : ℕ) {a : Part} → ReadyPlace b (row.Quantifier t) i → (i ≡ 0 → ⊥) → (i ≡ 1 → ⊥) → Element b (row.Quantifier t) 2 a → Element b (row.Quantifier t) i a
  quantifier_body t i r n m h = rw (third t i r n m) h

  pub vars_listed : (t i : ℕ) {start : ℕ} → ReadyPlace b (row.BoundVars t) i → start ≡ field b terms t 2 → Listed b start i
  unfolding row_length FineRow GoodKind
  vars_listed t i r e = record { promise = r.promise; here = omega (arith, r.within, r.fine.good.vars.ends) }

  pub vars_each : (t i : ℕ) {start v : ℕ} → ReadyPlace b (row.BoundVars t) i → start ≡ field b terms t 2 → v ≡ field b lists (start + i) 0
      → Element b (row.BoundVars t) i (part.Known (value.PP (row.BoundVar v)))
  unfolding row_of row_length part_of meaning FinePart Fine FineRow GoodKind
  vars_each t i {start} {v} r es ev =
      let e : v ≡ field b lists (field b terms t 2 + i) 0 = ev ∙ rw es in
      rw e (record { fine = r.fine.good.vars.below i r.within; is = λ tag. sym (vars_at b tag (field b terms t 2) (field b terms t 3) i r.within) })

  -- (v typ)
  pub var_constant : (v : ℕ) {i : ℕ} → ReadyPlace b (row.BoundVar v) i → Ready b constants v
  unfolding FineRow
  var_constant v r = record { promise = r.promise; here = r.fine }

  pub var_type : (v : ℕ) {i k : ℕ} → ReadyPlace b (row.BoundVar v) i → k ≡ field b constants v 1 → ReadyType b k
  unfolding FineRow
  var_type v r e = record { promise = r.promise; here = rw e (r.promise.constant v r.fine).typ }

  pub var_head : (v : ℕ) {i : ℕ} {a : code.SExpr} → i ≡ 0 → IsId b v a → Element b (row.BoundVar v) i (part.Known a)
  unfolding row_of atˢ part_of FinePart
  var_head v e h = rw e (record { fine = h.fine; is = h.is })

  pub var_rest : (v i : ℕ) {k : ℕ} {a : code.SExpr} → ReadyPlace b (row.BoundVar v) i → (i ≡ 0 → ⊥) → k ≡ field b constants v 1 → IsType b k a → Element b (row.BoundVar v) i (part.Known a)
  unfolding row_of row_length atˢ part_of FinePart constant_of
  var_rest v zero r n e h = absurd (n refl)
  var_rest v (suc zero) {k} {a} r n e h =
      let w : IsType b (field b constants v 1) a = rw (← e) h in
      record { fine = w.fine; is = λ tag. w.is tag }
  var_rest v (suc (suc i)) r n e h = absurd (omega (arith, r.within))

  -- (! body :pattern (terms) ..)
  pub annotated_head : (t : ℕ) {i : ℕ} {a : Part} → i ≡ 0 → a ≡ part.Known (value.S (name.Word word.Bang)) → Element b (row.Annotated t) i a
  unfolding row_of atˢ part_of meaning text_of word_text FinePart Fine FineName
  annotated_head t e h = rw (e, h) (record { fine = tt; is = λ tag. refl })

  pub annotated_body : (t i : ℕ) {x : ℕ} → ReadyPlace b (row.Annotated t) i → (i ≡ 0 → ⊥) → i < 2 → x ≡ field b terms t 6 → Element b (row.Annotated t) i (part.Term x)
  unfolding row_of atˢ part_of FinePart FineRow GoodKind
  annotated_body t zero r n h e = absurd (n refl)
  annotated_body t (suc zero) r n h e = rw e (record { fine = omega (arith, r.fine.here, r.fine.good.body); is = λ tag. refl })
  annotated_body t (suc (suc i)) r n h e = absurd (omega arith)

  pub annotated_word : (t i : ℕ) {a : Part} → ReadyPlace b (row.Annotated t) i → 2 ≤ i → i % 2 ≡ 0 → a ≡ part.Known (value.S (name.Word word.Pattern)) → Element b (row.Annotated t) i a
  unfolding row_of row_length atˢ part_of meaning text_of word_text FinePart Fine FineName
  annotated_word t zero r l m h = absurd (omega arith)
  annotated_word t (suc zero) r l m h = absurd (omega arith)
  annotated_word t (suc (suc i)) r l m h =
      let e : i ≡ i / 2 + i / 2 = omega arith in
      let g : i / 2 < field b terms t 5 = omega (arith, r.within) in
      rw h (record { fine = tt; is = λ tag. sym (ap (atˢ (patterns_of b tag (field b terms t 4) (field b terms t 5))) e ∙ (patterns_at b tag (field b terms t 4) (field b terms t 5) (i / 2) g).0) })

  pub annotated_listed : (t i : ℕ) {start : ℕ} → ReadyPlace b (row.Annotated t) i → 2 ≤ i → start ≡ field b terms t 4 → Listed b start ((i - 2) / 2)
  unfolding row_length FineRow GoodKind
  annotated_listed t i r l e = record { promise = r.promise; here = omega (arith, r.within, r.fine.good.patterns.ends) }

  pub annotated_pattern : (t i : ℕ) {start p : ℕ} → ReadyPlace b (row.Annotated t) i → 2 ≤ i → (i % 2 ≡ 0 → ⊥) → start ≡ field b terms t 4 → p ≡ field b lists (start + (i - 2) / 2) 0
      → Element b (row.Annotated t) i (part.Known (value.PP (row.Terms p)))
  unfolding row_of row_length atˢ part_of meaning FinePart Fine FineRow GoodKind
  annotated_pattern t zero r l m es ep = absurd (omega arith)
  annotated_pattern t (suc zero) r l m es ep = absurd (omega arith)
  annotated_pattern t (suc (suc i)) {start} {p} r l m es ep =
      let j : suc (suc i) - 2 ≡ i = omega arith in
      let g : i / 2 < field b terms t 5 = omega (arith, r.within) in
      let e : p ≡ field b lists (field b terms t 4 + i / 2) 0 = ep ∙ rw (es, j) in
      let odd : i ≡ suc (i / 2 + i / 2) = omega arith in
      rw e (record {
        fine = (r.fine.good.patterns.each (i / 2) g).here;
        is = λ tag. sym (ap (atˢ (patterns_of b tag (field b terms t 4) (field b terms t 5))) odd ∙ (patterns_at b tag (field b terms t 4) (field b terms t 5) (i / 2) g).1);
      })

  -- the terms of a pattern
  pub terms_listed : (p i : ℕ) {start : ℕ} → ReadyPlace b (row.Terms p) i → start ≡ field b patterns p 0 → Listed b start i
  unfolding row_length FineRow
  terms_listed p i r e = record { promise = r.promise; here = omega (arith, r.within, (r.promise.pattern p r.fine).range.ends) }

  pub terms_each : (p i : ℕ) {start x : ℕ} → ReadyPlace b (row.Terms p) i → start ≡ field b patterns p 0 → x ≡ field b lists (start + i) 0 → Element b (row.Terms p) i (part.Term x)
  unfolding row_of row_length part_of FinePart FineRow
  terms_each p i {start} {x} r es ex =
      let e : x ≡ field b lists (field b patterns p 0 + i) 0 = ex ∙ rw es in
      rw e (record {
        fine = (r.promise.pattern p r.fine).range.below i r.within;
        is = λ tag. sym (terms_at b tag (field b patterns p 0) (field b patterns p 1) i r.within);
      })

  -- the input types of a function
  pub types_listed : (f i : ℕ) {start : ℕ} → ReadyPlace b (row.Types f) i → start ≡ field b functions f 2 → Listed b start i
  unfolding row_length FineRow
  types_listed f i r e = record { promise = r.promise; here = omega (arith, r.within, (r.promise.function f r.fine).input_types.ends) }

  pub types_ready : (f i : ℕ) {start k : ℕ} → ReadyPlace b (row.Types f) i → start ≡ field b functions f 2 → k ≡ field b lists (start + i) 0 → ReadyType b k
  unfolding row_length FineRow
  types_ready f i {start} {k} r es ek =
      let e : k ≡ field b lists (field b functions f 2 + i) 0 = ek ∙ rw es in
      record { promise = r.promise; here = rw e ((r.promise.function f r.fine).input_types.below i r.within) }

  pub types_each : (f i : ℕ) {start k : ℕ} {a : code.SExpr} → ReadyPlace b (row.Types f) i → start ≡ field b functions f 2 → k ≡ field b lists (start + i) 0 → IsType b k a
      → Element b (row.Types f) i (part.Known a)
  unfolding row_of row_length part_of FinePart function_of
  types_each f i {start} {k} {a} r es ek h =
      let e : k ≡ field b lists (field b functions f 2 + i) 0 = ek ∙ rw es in
      let w : IsType b (field b lists (field b functions f 2 + i) 0) a = rw (← e) h in
      record { fine = w.fine; is = λ tag. w.is tag ∙ sym (types_at b (field b functions f 2) (field b functions f 3) i r.within) }
