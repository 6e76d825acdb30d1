-- Where a text stands among the names of a book and the new ones behind them.
use Rattle.std.specs.Prelude.{Some, None, if◌then◌else◌}
use Rattle.std.specs.Bool.{then_some}
use Rattle.std.specs.Option.{option_flatten}
use Rattle.std.specs.Prelude as code
use Prim.Native.Nat.{ℕ, suc, ◌+◌, ◌≤◌}
use native.Mathlib.Omega.{arith}
use denote.Bor.{Bor}
use mathlib.Core.Path.{◌≡◌, refl, sym, ap, ◌∙◌}
use mathlib.Core.Bool.{Bool, true, false, not}
use mathlib.Core.List.{List, [], ◌∷◌, ◌++◌, append-nil}
use mathlib.Core.Option.{Option, none, some, get_or}
use lib.ListN.{length, length-append}
use Rattle.basics.specs.Text.{Text, same}
use Rattle.book.specs.Book.{Book, names, size}
use Rattle.name_search.specs.Names.{later, position, texts, first_name, number_or, maybe}
use Rattle.name_search.proofs.Searching.{or_later, position_append, texts_length, first_below}
use Rattle.new_records.specs.Drafts.{all_letters}
use Rattle.new_records.specs.Naming.{named_by, named, equals, probe_named, equals_named, trace_named}
use Rattle.new_records.specs.NewNames.{maybe_text, optional, new_text, new_before, is_none, stands, IsBehind, IsNamed, AreNamed}
use Rattle.new_records.proofs.Parts.{letters_append}
use Rattle.new_records.specs.declared.naming.Numbered.{Numbered}
use Rattle.new_records.specs.declared.naming.ProbeNames.{ProbeNames}
use Rattle.new_records.specs.declared.naming.Before.{Before}

abbrev New : Type 0
New = code.Option (Bor Text)

pub text_most : (p : Bool) (t : Text) → length (optional p t) ≤ 1
unfolding optional
text_most true t = omega arith
text_most false t = omega arith

text_then : (p : Bool) (x : Bor Text) → new_text (then_some p x) ≡ optional p x.now
unfolding optional
text_then true x = refl
text_then false x = refl

-- a text that is handed on where it is new
pub handed_on : (p : Bool) (x : Bor Text) {o : New} → o ≡ then_some p x → new_text o ≡ optional p x.now
handed_on p x e = ap new_text e ∙ text_then p x

pub stands_one : (t x : Text) → same x t ≡ stands t (x ∷ [])
unfolding stands position later is_none
stands_one t x = at (same x t)
  where
    at : (s : Bool) → s ≡ not (is_none (if s then some 0 else later none))
    at true = refl
    at false = refl

pub stands_none : (t : Text) → false ≡ stands t []
unfolding stands position is_none
stands_none t = refl

-- ---- the place of a text among them
where_stands : (t : Text) (o : New) → stands t (new_text o) ≡ true → position t (new_text o) ≡ some 0
unfolding stands position later is_none
where_stands t None h = absurd (cc)
where_stands t (Some x) h = at (same x.now t) h
  where
    at : (s : Bool) → not (is_none (if s then some 0 else later none)) ≡ true → (if s then some 0 else later none) ≡ some 0
    at true h = refl
    at false h = absurd (cc)

stands_not : (t : Text) (ts : List Text) → stands t ts ≡ false → position t ts ≡ none
unfolding stands is_none
stands_not t ts h = at (position t ts) h
  where
    at : (o : Option ℕ) → not (is_none o) ≡ false → o ≡ none
    at none h = refl
    at (some n) h = absurd (cc)

module _ (all : ℕ) (t : Text) (m : Before) where
  length_new : length (new_before m) ≡ length (new_text m.probe) + length (new_text m.equals)
  length_new = length-append (new_text m.probe) (new_text m.equals)

  pub stands_first : stands t (new_text m.probe) ≡ true → IsBehind all t (new_before m) (record { number = all; new = false })
  unfolding or_later number_or is_none
  stands_first h =
      let at : position t (new_before m) ≡ some 0 = position_append t (new_text m.probe) (new_text m.equals) ∙ rw (where_stands t m.probe h) in
      record { number = rw at (omega arith); new = rw at; low = omega arith }

  pub stands_second : {n : ℕ} → n ≡ length (new_text m.probe) → stands t (new_text m.probe) ≡ false → stands t (new_text m.equals) ≡ true
      → IsBehind all t (new_before m) (record { number = all + n; new = false })
  unfolding or_later number_or is_none
  stands_second {n} one h h2 =
      let at : position t (new_before m) ≡ some (length (new_text m.probe) + 0) =
      position_append t (new_text m.probe) (new_text m.equals) ∙ rw (stands_not t (new_text m.probe) h, where_stands t m.equals h2) in
      record { number = rw at (omega arith); new = rw at; low = omega (arith, length_new) }

  pub stands_nowhere : {n k : ℕ} → n ≡ length (new_text m.probe) → k ≡ length (new_text m.equals) → stands t (new_text m.probe) ≡ false
      → stands t (new_text m.equals) ≡ false → IsBehind all t (new_before m) (record { number = all + n + k; new = true })
  unfolding or_later number_or is_none
  stands_nowhere {n} {k} one two h h2 =
      let at : position t (new_before m) ≡ none =
      position_append t (new_text m.probe) (new_text m.equals) ∙ rw (stands_not t (new_text m.probe) h, stands_not t (new_text m.equals) h2) in
      record { number = rw at (omega (arith, length_new)); new = rw at; low = omega (arith, length_new) }

-- ---- among the book's names first
optional_short : (p : Bool) (t : Text) → length (all_letters (optional p t)) ≤ length t
unfolding optional all_letters
optional_short true t = omega (arith, length-append t [])
optional_short false t = omega arith

module _ (b : Book) (t : Text) (before : List Text) where
  pub named_found : {r : ℕ} → maybe (Some r) ≡ first_name b t → IsNamed b t before (record { number = r; new = false })
  unfolding named named_by first_name or_later optional all_letters maybe
  named_found {r} e =
      let at : position t (texts b ++ before) ≡ some r = position_append t (texts b) before ∙ rw (sym e) in
      record { number = rw at; low = omega (arith, first_below b t r (sym e)); texts = rw at (sym (append-nil before)); short = omega arith }

  behind_named : (o : Option ℕ) {r : Numbered} → position t (texts b ++ before) ≡ or_later none (size b names) o → r.number ≡ size b names + number_or (length before) o
      → r.new ≡ is_none o → r.number ≤ size b names + length before → IsNamed b t before r
  unfolding named named_by or_later number_or is_none optional
  behind_named none {r = r} at number new low = record { number = rw at number; low = low; texts = rw (at, new); short = optional_short r.new t }
  behind_named (some m) {r = r} at number new low = record { number = rw at number; low = low; texts = rw (at, new) (sym (append-nil before)); short = optional_short r.new t }

  pub named_behind : {r : Numbered} → maybe None ≡ first_name b t → IsBehind (size b names) t before r → IsNamed b t before r
  unfolding first_name maybe
  named_behind {r = r} e w =
      let at : position t (texts b ++ before) ≡ or_later none (size b names) (position t before) = position_append t (texts b) before ∙ rw (sym e, texts_length b) in
      behind_named (position t before) {r = r} at w.number w.new w.low

-- ---- the probe's name, `=` and the trace
module _ (b : Book) (P : Text) {first operator : Numbered} (w1 : IsNamed b P [] first) (w2 : IsNamed b equals (optional first.new P ++ []) operator) where
  probe_is : (probe_named b P).number ≡ first.number
  unfolding probe_named
  probe_is = sym w1.number

  probe_texts : (probe_named b P).texts ≡ optional first.new P ++ []
  unfolding probe_named
  probe_texts = w1.texts ∙ sym (append-nil (optional first.new P))

  equals_is : (equals_named b P).number ≡ operator.number
  unfolding equals_named
  equals_is = rw probe_texts (sym w2.number)

  equals_texts : (equals_named b P).texts ≡ optional first.new P ++ optional operator.new equals
  unfolding equals_named
  equals_texts = rw probe_texts w2.texts ∙ ap (λ (ts : List Text). ts ++ optional operator.new equals) (append-nil (optional first.new P))

  front_short : length (all_letters (optional first.new P ++ optional operator.new equals)) ≤ suc (length P)
  unfolding equals
  front_short = omega (arith, ap length (letters_append (optional first.new P) (optional operator.new equals)), length-append (all_letters (optional first.new P)) (all_letters (optional operator.new equals)), w1.short, w2.short)

  pub no_trace : AreNamed b P (maybe_text None) (record { probe = first; equals = operator; trace = record { number = first.number; new = false } })
  unfolding maybe trace_named optional
  no_trace =
      record {
        probe = sym probe_is;
        equals = sym equals_is;
        trace = sym probe_is;
        low = omega (arith, w1.low);
        probe_text = probe_texts ∙ append-nil (optional first.new P);
        equals_text = equals_texts;
        texts = equals_texts ∙ sym (append-nil (optional first.new P ++ optional operator.new equals));
        short = front_short;
      }

  pub some_trace : (T : Bor Text) {last : Numbered} → IsNamed b T.now (optional first.new P ++ optional operator.new equals) last
      → AreNamed b P (maybe_text (Some T)) (record { probe = first; equals = operator; trace = last })
  unfolding maybe trace_named
  some_trace T {last} w3 =
      record {
        probe = sym probe_is;
        equals = sym equals_is;
        trace = rw equals_texts w3.number;
        low = omega (arith, w3.low, length-append (optional first.new P) (optional operator.new equals), text_most first.new P, text_most operator.new equals);
        probe_text = probe_texts ∙ append-nil (optional first.new P);
        equals_text = equals_texts;
        texts = rw equals_texts w3.texts;
        short = front_short;
      }

-- ---- the trace is handed on where it is new, and it is new only where it is given
trace_new : (o : New) {b : Book} {P : Text} {N : ProbeNames} → AreNamed b P (maybe_text o) N → N.trace.new ≡ true → new_text o ≡ optional true (get_or (maybe_text o) [])
unfolding maybe trace_named optional
trace_new None {P = P} {N} w e =
    let before = optional N.probe.new P ++ optional N.equals.new equals in
    let none : before ≡ before ++ ([] ∷ []) = sym w.equals_text ∙ rw e at w.texts in
    absurd (omega (arith, ap length none, length-append before ([] ∷ [])))
trace_new (Some t) w e = refl

pub trace_handed_on : (o : New) {b : Book} {P : Text} {N : ProbeNames} {m : code.Option New} {n : New} → AreNamed b P (maybe_text o) N → m ≡ then_some N.trace.new o → n ≡ option_flatten m
    → new_text n ≡ optional N.trace.new (get_or (maybe_text o) [])
unfolding optional
trace_handed_on o {N = N} {n = n} w e f = by N.trace.new refl (f ∙ ap option_flatten e)
  where
    by : (p : Bool) → N.trace.new ≡ p → n ≡ option_flatten (then_some p o) → new_text n ≡ optional p (get_or (maybe_text o) [])
    by true q g = ap new_text g ∙ trace_new o w q
    by false q g = ap new_text g
