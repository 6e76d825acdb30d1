-- THE THEOREMS: an accepted call of the writer makes the context that the Dafny method returns (specs/Bodies.antt), or the name, constant or term
-- handed over (specs/Records.antt).
use Prim.Native.Nat.{ℕ, suc, ◌-◌, ◌≤◌, ◌<◌}
use native.Mathlib.Omega.{arith}
use mathlib.Core.Path.{◌≡◌, refl, sym, ap, subst, ◌∙◌}
use mathlib.Core.Option.{Option, none, some, none-ne-some}
use mathlib.Core.Bool.{false}
use mathlib.Core.List.{[], ◌∷◌, ◌++◌, Option-to_list}
use lib.Dec.{leb, ltb}
use lib.Seq.{get_or_at}
use borrow.Author.Tests.{ltb-false, leb-false}
use Rattle.basics.specs.Outcome.{accepted}
use Rattle.basics.proofs.Bool.{or_left, or_right}
use Rattle.book.specs.Book.{Book, names, terms, contexts, size}
use Rattle.book.specs.Program.{Context, node_at, depth}
use Rattle.book.specs.Decode.{type_of, program}
use Rattle.book.proofs.Terms.{contexts_length}
use Rattle.book_growth.proofs.GrownProgram.{grown_name}
use Rattle.name_search.specs.Names.{texts}
use Rattle.name_search.proofs.Searching.{texts_length}
use Rattle.name_search.specs.Probe.{probe_name}
use Rattle.new_records.specs.Drafts.{new_constant, draft, addition_from}
use Rattle.book_writer.specs.Growths.{Growth, append_name, append_constant, append_term, append_node, extend, extend_with_equality, record_term, record_trace_point, outside_at, outside, probe_draft, draft_of, addition_of, number_of}
use Rattle.book_writer.specs.Writing.{Grown, grow}
use Rattle.book_writer.proofs.Recorded.{addition_whole}
use Rattle.book_writer.proofs.Writing.{Told, grow_told}
use Rattle.writer_bodies.specs.Bodies.{Record, RecordTracePoint, new_context, Handed, MakesContext}
use Rattle.writer_bodies.specs.Records.{HandedRecord, MakesRecord}
use Rattle.writer_bodies.proofs.Drafted.{book_with, Grew}
use Rattle.writer_bodies.proofs.NewTexts.{texts_new, name_at}
use Rattle.writer_bodies.proofs.Named.{at-end}
use Rattle.writer_bodies.proofs.NewTerms.{constant_name, constant_is, none_made}
use Rattle.writer_bodies.proofs.AppendedTerm.{term_made}
use Rattle.writer_bodies.proofs.NewContexts.{node_made, extend_made, equality_made, recorded, probe_made}

-- a call that is not outside
inside : (b : Book) (p t : ℕ) → outside_at b p t ≡ false → (p ≤ size b contexts) × (t < size b terms)
unfolding outside_at
inside b p t e =
    let p-out = ltb (size b contexts) p in
    let t-out = leb (size b terms) t in
    (ltb-false (size b contexts) p (or_left p-out t-out e), leb-false (size b terms) t (or_right p-out t-out e))

contexts_made : (b : Book) (g : Growth) → Grew b (draft_of b g) → outside b g ≡ false → Handed g
    → (program (book_with b (draft_of b g))).contexts ≡ (program b).contexts ++ Option-to_list (new_context b g)
unfolding draft_of outside new_context Option-to_list probe_draft Record RecordTracePoint recorded type_of
contexts_made b (append_name t) G o h = none_made b _ G refl
contexts_made b (append_constant n typ) G o h = none_made b _ G refl
contexts_made b (append_term t first second) G o h = none_made b _ G refl
contexts_made b (append_node p t n) G o h = let i = inside b p t o in node_made b p i.0 t n G i.1 h
contexts_made b (extend p t trace) G o h = let i = inside b p t o in extend_made b p i.0 t trace G i.1
contexts_made b (extend_with_equality p v t) G o h = let i = inside b p t o in equality_made b p i.0 v t G i.1 h
contexts_made b (record_term p t typ trace) G o h =
    let i = inside b p t o in probe_made b (probe_name (depth (program b) p)) p i.0 typ h (some t) trace G i.1
contexts_made b (record_trace_point p trace) G o h =
    probe_made b (probe_name (depth (program b) p)) p (ltb-false (size b contexts) p o) 0 (omega arith) none (some trace) G tt

-- a call that makes a context answers the node behind the old ones
node_number : (b : Book) (g : Growth) (k : Context) → new_context b g ≡ some k → number_of b g ≡ suc (size b contexts)
unfolding new_context number_of
node_number b (append_name t) k e = absurd (none-ne-some _ e)
node_number b (append_constant n typ) k e = absurd (none-ne-some _ e)
node_number b (append_term t first second) k e = absurd (none-ne-some _ e)
node_number b (append_node p t n) k e = refl
node_number b (extend p t trace) k e = refl
node_number b (extend_with_equality p v t) k e = refl
node_number b (record_term p t typ trace) k e = refl
node_number b (record_trace_point p trace) k e = refl

node_is : (b c : Book) (o : Option Context) (k : Context) → (program c).contexts ≡ (program b).contexts ++ Option-to_list o → o ≡ some k
    → node_at (program c) (suc (size b contexts)) ≡ k
unfolding node_at Option-to_list
node_is b c o k e f =
    let z : suc (size b contexts) - 1 ≡ size b contexts = omega arith in
    let all : (program c).contexts ≡ (program b).contexts ++ (k ∷ []) = e ∙ ap (λ (w : Option Context). (program b).contexts ++ Option-to_list w) f in
    rw (z, all) (get_or_at (program b).contexts k [] _ (size b contexts) (contexts_length b))

-- ---- the name, constant or term answered
record_made : (b : Book) (g : Growth) → Grew b (draft_of b g) → HandedRecord g → MakesRecord b g (record { number = number_of b g; book = book_with b (draft_of b g) })
unfolding draft_of number_of
record_made b (append_name t) G h = name_at b _ G (at-end t (texts b) [] (omega (arith, texts_length b)))
record_made b (append_constant n typ) G h =
    let d = draft [] (new_constant n typ ∷ []) [] [] [] in
    let inside : n < size b names = omega (arith, texts_new b d G, constant_name b d G n typ refl h.0 h.1) in
    constant_is b d G n typ refl h.0 h.1 ∙ rw (grown_name b (addition_from b d) G.before G.whole G.within n inside)
record_made b (append_term t first second) G h = term_made b t first second G h
record_made b (append_node p t n) G h = tt
record_made b (extend p t trace) G h = tt
record_made b (extend_with_equality p v t) G h = tt
record_made b (record_term p t typ trace) G h = tt
record_made b (record_trace_point p trace) G h = tt

-- ---- of an accepted call
told_grew : {b : Book} {g : Growth} {room : ℕ} {x : Grown} → Told b g room x → Grew b (draft_of b g)
unfolding addition_of
told_grew {b} {g} T = record { before = T.before; whole = addition_whole b g; within = T.within; after = T.after }

told_book : {b : Book} {g : Growth} {room : ℕ} {x : Grown} → Told b g room x → book_with b (draft_of b g) ≡ x.book
unfolding addition_of
told_book T = T.book

pub makes_context : (scratch : ℕ) (b : Book) (g : Growth) (room : ℕ) (x : Grown) → grow scratch b g room ≡ accepted x → Handed g → MakesContext b g x
makes_context scratch b g room x e h =
    let T = grow_told scratch b g room x e in
    let made : (program x.book).contexts ≡ (program b).contexts ++ Option-to_list (new_context b g) = rw (told_book T) at (contexts_made b g (told_grew T) T.inside h) in
    record {
      contexts = made;
      node = λ k f. ap (node_at (program x.book)) (sym T.number ∙ node_number b g k f) ∙ node_is b x.book (new_context b g) k made f;
    }

pub makes_record : (scratch : ℕ) (b : Book) (g : Growth) (room : ℕ) (x : Grown) → grow scratch b g room ≡ accepted x → HandedRecord g → MakesRecord b g x
makes_record scratch b g room x e h =
    let T = grow_told scratch b g room x e in
    let is : record { number = number_of b g; book = book_with b (draft_of b g) } ≡ x = λ i. record { number = T.number i; book = told_book T i } in
    subst (MakesRecord b g) is (record_made b g (told_grew T) h)
