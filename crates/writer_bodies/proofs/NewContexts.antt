-- The context that each call's draft appends.
use Prim.Native.Nat.{ℕ, suc, ◌^◌, ◌≤◌, ◌<◌}
use native.Mathlib.Omega.{arith}
use mathlib.Core.Path.{◌≡◌, refl, ap, ◌∙◌}
use mathlib.Core.Option.{Option, none, some}
use mathlib.Core.Bool.{true}
use mathlib.Core.List.{[], ◌∷◌, ◌++◌, map}
use Rattle.basics.specs.Bytes.{row}
use Rattle.basics.specs.Text.{Text}
use Rattle.book.specs.Book.{Book, names, constants, terms, contexts, lists, size}
use Rattle.book.specs.SType.{SConstant}
use Rattle.book.specs.RExpr.{RExpr, Boolean, Id}
use Rattle.book.specs.Decode.{type_of, constant_of, term, trace_of, program}
use Rattle.book_test.proofs.KeptRecords.{constant_of_kept, trace_of_kept}
use Rattle.name_search.specs.Names.{texts}
use Rattle.new_records.specs.Drafts.{Draft, true_term, identifier, equality, new_node, draft, term_row}
use Rattle.new_records.specs.Naming.{named, equals, probe_named, equals_named, trace_named}
use Rattle.book_writer.specs.Growths.{extend_draft, equality_terms, equality_draft, probe_terms, probe_lists, probe_equality, probe_draft_by}
use Rattle.writer_bodies.specs.Bodies.{Eq, context_node, Extend, ExtendWithEquality, trace_or_name, new_sconstant}
use Rattle.writer_bodies.proofs.Drafted.{book_with, Grew, NewRow, kept, old_term, new_promise, old_promise, constants_new, term_below}
use Rattle.writer_bodies.proofs.NewTexts.{At, texts_new, name_low, name_at}
use Rattle.writer_bodies.proofs.Named.{named-at, probe_at, equals_at, trace_none, trace_some}
use Rattle.writer_bodies.proofs.NewTerms.{true_is, identifier_is, identifier_good, equality_is, constant_is, one_made, trace_inside}

module _ (b : Book) (d : Draft) (G : Grew b d) where
  new_low : {m : ℕ} → m < size (book_with b d) terms → m < 2 ^ 32
  new_low h = omega (arith, (new_promise b d G).terms_laid.few)

  -- a name's number + 1
  traced : {t : Text} {n : ℕ} → At t (texts b ++ d.texts) n → trace_of (book_with b d) (suc n) ≡ some t
  unfolding trace_of
  traced a = ap some (name_at b d G a)

  module _ (p : ℕ) (parent : p ≤ size b contexts) where
    parent_low : p < 2 ^ 32
    parent_low = omega (arith, (old_promise b d G).contexts_laid.few)

    -- a node over an old term
    over_old : (t n : ℕ) (trace : Option Text) → t < size b terms → d.nodes ≡ new_node p t n ∷ [] → n < 2 ^ 32 → trace_of (book_with b d) n ≡ trace
        → (program (book_with b d)).contexts ≡ (program b).contexts ++ (context_node p (term b t) trace ∷ [])
    over_old t n trace ht e hn en =
        one_made b d G p t n e (term b t) trace parent_low (omega (arith, (old_promise b d G).terms_laid.few)) hn (old_term b d G t ht) en

    -- a node over a new equality m of the new identifier i and a term t
    over_equality : (i m operator v t n : ℕ) (sv : SConstant) (expr : RExpr) (trace : Option Text) → d.nodes ≡ new_node p m n ∷ [] → d.lists ≡ row (i ∷ t ∷ [])
        → NewRow b terms (map term_row d.terms) i (term_row (identifier v)) → NewRow b terms (map term_row d.terms) m (term_row (equality operator (size b lists)))
        → At equals (texts b ++ d.texts) operator → v < 2 ^ 32 → t < 2 ^ 32 → n < 2 ^ 32
        → constant_of (book_with b d) v ≡ sv → term (book_with b d) t ≡ expr → trace_of (book_with b d) n ≡ trace
        → (program (book_with b d)).contexts ≡ (program b).contexts ++ (context_node p (Eq (Id sv) expr) trace ∷ [])
    over_equality i m operator v t n sv expr trace e l I M o hv ht hn ev et en =
        let is : term (book_with b d) m ≡ Eq (Id sv) expr =
        equality_is b d G m operator i t M l o (new_low (term_below b d G I)) ht ∙ rw (identifier_is b d G i v I hv, ev, et) in
        one_made b d G p m n e (Eq (Id sv) expr) trace parent_low (new_low (term_below b d G M)) hn is en

module _ (b : Book) (p : ℕ) (parent : p ≤ size b contexts) where
  pub node_made : (t n : ℕ) (G : Grew b (draft [] [] [] (new_node p t n ∷ []) [])) → t < size b terms → n < 2 ^ 32
      → (program (book_with b (draft [] [] [] (new_node p t n ∷ []) []))).contexts ≡ (program b).contexts ++ (context_node p (term b t) (trace_of b n) ∷ [])
  node_made t n G ht hn =
      let d = draft [] [] [] (new_node p t n ∷ []) [] in
      let inside : n ≤ size b names = omega (arith, texts_new b d G, trace_inside b d G p t n refl hn) in
      over_old b d G p parent t n (trace_of b n) ht refl hn (trace_of_kept b (book_with b d) (old_promise b d G) (kept b d G) n inside)

  pub extend_made : (t : ℕ) (trace : Option Text) (G : Grew b (extend_draft b p t trace)) → t < size b terms
      → (program (book_with b (extend_draft b p t trace))).contexts ≡ (program b).contexts ++ (Extend p (term b t) trace ∷ [])
  unfolding extend_draft Extend trace_of
  extend_made t none G ht = over_old b (extend_draft b p t none) G p parent t 0 none ht refl (omega arith) refl
  extend_made t (some trace) G ht =
      let d = extend_draft b p t (some trace) in
      let a : At trace (texts b ++ d.texts) (named b trace []).number = named-at b trace [] in
      over_old b d G p parent t (suc (named b trace []).number) (some trace) ht refl (omega (arith, name_low b d G a)) (traced b d G a)

  pub equality_made : (v t : ℕ) (G : Grew b (equality_draft b p v t)) → t < size b terms → v < 2 ^ 32
      → (program (book_with b (equality_draft b p v t))).contexts ≡ (program b).contexts ++ (ExtendWithEquality p (constant_of b v) (term b t) ∷ [])
  unfolding equality_terms equality_draft ExtendWithEquality Extend trace_of
  equality_made v t G ht hv =
      let d = equality_draft b p v t in
      let i = size b terms in
      let I : NewRow b terms (map term_row d.terms) i (term_row (identifier v)) = record { k = 0; here = omega arith; place = omega arith; is = refl } in
      let M : NewRow b terms (map term_row d.terms) (suc i) (term_row (equality (named b equals []).number (size b lists))) =
      record { k = 1; here = omega arith; place = omega arith; is = refl } in
      let inside : v < size b constants = omega (arith, constants_new b d G, identifier_good b d G i v I hv) in
      over_equality b d G p parent i (suc i) (named b equals []).number v t 0 (constant_of b v) (term b t) none refl refl I M (named-at b equals []) hv
      (omega (arith, (old_promise b d G).terms_laid.few)) (omega arith) (constant_of_kept b (book_with b d) (old_promise b d G) (kept b d G) v inside)
      (old_term b d G t ht) refl

-- ---- Record and RecordTracePoint: over an old term, or over the new term `true`
unfoldable pub recorded : Book → Option ℕ → RExpr
recorded b (some t) = term b t
recorded b none = Boolean true

abbrev pub TermInside : Book → Option ℕ → Type 0
TermInside b (some t) = t < size b terms
TermInside b none = Unit {0}

module _ (b : Book) (name : Text) (p : ℕ) (parent : p ≤ size b contexts) (typ : ℕ) (low : typ < 2 ^ 32) where
  module _ (o : Option ℕ) (trace : Option Text) (G : Grew b (probe_draft_by b name p o typ trace)) where
    probe_low : (probe_named b name).number < 2 ^ 32
    unfolding probe_draft_by
    probe_low = omega (arith, name_low b (probe_draft_by b name p o typ trace) G (probe_at b name trace))

    probe_constant : constant_of (book_with b (probe_draft_by b name p o typ trace)) (size b constants) ≡ new_sconstant b name (type_of b typ)
    unfolding probe_draft_by
    probe_constant =
        let d = probe_draft_by b name p o typ trace in
        constant_is b d G (probe_named b name).number typ refl probe_low low ∙ rw (name_at b d G (probe_at b name trace))

  probe_trace : (o : Option ℕ) (trace : Option Text) (G : Grew b (probe_draft_by b name p o typ trace))
      → ((trace_named b name trace).number < 512) × (trace_of (book_with b (probe_draft_by b name p o typ trace)) (suc (trace_named b name trace).number) ≡ trace_or_name trace name)
  unfolding probe_draft_by trace_or_name
  probe_trace o none G = let d = probe_draft_by b name p o typ none in (name_low b d G (trace_none b name), traced b d G (trace_none b name))
  probe_trace o (some t) G = let d = probe_draft_by b name p o typ (some t) in (name_low b d G (trace_some b name t), traced b d G (trace_some b name t))

  pub probe_made : (o : Option ℕ) (trace : Option Text) (G : Grew b (probe_draft_by b name p o typ trace)) → TermInside b o
      → (program (book_with b (probe_draft_by b name p o typ trace))).contexts
      ≡ (program b).contexts ++ (Extend p (Eq (Id (new_sconstant b name (type_of b typ))) (recorded b o)) (trace_or_name trace name) ∷ [])
  unfolding probe_draft_by equality_terms probe_terms probe_lists probe_equality recorded Extend
  probe_made (some t) trace G ht =
      let d = probe_draft_by b name p (some t) typ trace in
      let i = size b terms in
      let I : NewRow b terms (map term_row d.terms) i (term_row (identifier (size b constants))) = record { k = 0; here = omega arith; place = omega arith; is = refl } in
      let M : NewRow b terms (map term_row d.terms) (suc i) (term_row (equality (equals_named b name).number (size b lists))) =
      record { k = 1; here = omega arith; place = omega arith; is = refl } in
      let tr = probe_trace (some t) trace G in
      over_equality b d G p parent i (suc i) (equals_named b name).number (size b constants) t (suc (trace_named b name trace).number)
      (new_sconstant b name (type_of b typ)) (term b t) (trace_or_name trace name) refl refl I M (equals_at b name trace)
      (omega (arith, (old_promise b d G).constants_laid.few)) (omega (arith, (old_promise b d G).terms_laid.few)) (omega (arith, tr.0))
      (probe_constant (some t) trace G) (old_term b d G t ht) tr.1
  probe_made none trace G ht =
      let d = probe_draft_by b name p none typ trace in
      let i = size b terms in
      let B : NewRow b terms (map term_row d.terms) i (term_row true_term) = record { k = 0; here = omega arith; place = omega arith; is = refl } in
      let I : NewRow b terms (map term_row d.terms) (suc i) (term_row (identifier (size b constants))) = record { k = 1; here = omega arith; place = omega arith; is = refl } in
      let M : NewRow b terms (map term_row d.terms) (suc (suc i)) (term_row (equality (equals_named b name).number (size b lists))) =
      record { k = 2; here = omega arith; place = omega arith; is = refl } in
      let tr = probe_trace none trace G in
      over_equality b d G p parent (suc i) (suc (suc i)) (equals_named b name).number (size b constants) i (suc (trace_named b name trace).number)
      (new_sconstant b name (type_of b typ)) (Boolean true) (trace_or_name trace name) refl refl I M (equals_at b name trace)
      (omega (arith, (old_promise b d G).constants_laid.few)) (new_low b d G (term_below b d G B)) (omega (arith, tr.0))
      (probe_constant none trace G) (true_is b d G i B) tr.1
