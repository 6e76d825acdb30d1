-- The names that Extend, ExtendWithEquality, Record and RecordTracePoint need stand, with their numbers, among the book's and the new ones.
use Prim.Native.Nat.{ℕ, ◌+◌}
use native.Mathlib.Omega.{arith}
use mathlib.Core.Path.{◌≡◌, refl, sym, subst, ◌∙◌}
use mathlib.Core.Option.{Option, none, some}
use mathlib.Core.List.{List, [], ◌∷◌, ◌++◌, append_assoc}
use lib.ListN.{length, length-append, get_or-append}
use lib.Seq.{get_or_at}
use Rattle.basics.specs.Text.{Text}
use Rattle.basics.proofs.Texts.{same_eq}
use Rattle.book.specs.Book.{Book}
use Rattle.name_search.specs.Names.{position, texts}
use Rattle.name_search.proofs.Position.{position_some}
use Rattle.name_search.proofs.Searching.{texts_length}
use Rattle.new_records.specs.Naming.{named_by, named, equals, probe_named, equals_named, trace_named}
use Rattle.writer_bodies.proofs.NewTexts.{At}

at_more : {t : Text} {ts : List Text} {n : ℕ} (us : List Text) → At t ts n → At t (ts ++ us) n
at_more {t} {ts} {n} us a = record { below = omega (arith, a.below, length-append ts us); here = get_or-append ts us [] n a.below ∙ a.here }

pub at-end : (t : Text) (ts us : List Text) {n : ℕ} → n ≡ length ts + length us → At t (ts ++ (us ++ (t ∷ []))) n
at-end t ts us {n} e =
    let l : length (ts ++ us) ≡ n = length-append ts us ∙ sym e in
    subst (λ (xs : List Text). At t xs n) (append_assoc ts us (t ∷ []))
    (record { below = omega (arith, length-append (ts ++ us) (t ∷ [])); here = get_or_at (ts ++ us) t [] [] n l })

module _ (b : Book) (t : Text) (before : List Text) where
  pub named-at : At t (texts b ++ (named b t before).texts) (named b t before).number
  unfolding named named_by
  named-at = by (position t (texts b ++ before)) refl
    where
      by : (o : Option ℕ) → position t (texts b ++ before) ≡ o → At t (texts b ++ (named_by b t before o).texts) (named_by b t before o).number
      by none e = at-end t (texts b) before (omega (arith, texts_length b))
      by (some n) e = let f = position_some t (texts b ++ before) n e in record { below = f.below; here = same_eq _ t f.here }

  -- the names before it stay where they are
  pub named_keeps : {u : Text} {n : ℕ} → At u (texts b ++ before) n → At u (texts b ++ (named b t before).texts) n
  unfolding named named_by
  named_keeps {u} {n} a = by (position t (texts b ++ before))
    where
      by : (o : Option ℕ) → At u (texts b ++ (named_by b t before o).texts) n
      by none = subst (λ (xs : List Text). At u xs n) (append_assoc (texts b) before (t ∷ [])) (at_more (t ∷ []) a)
      by (some m) = a

module _ (b : Book) (probe : Text) where
  -- a name that stands when `=` does, stands when the trace does
  trace_keeps : (trace : Option Text) {u : Text} {n : ℕ} → At u (texts b ++ (equals_named b probe).texts) n → At u (texts b ++ (trace_named b probe trace).texts) n
  unfolding trace_named
  trace_keeps none a = a
  trace_keeps (some t) a = named_keeps b t (equals_named b probe).texts a

  probe_first : At probe (texts b ++ (equals_named b probe).texts) (probe_named b probe).number
  unfolding probe_named equals_named
  probe_first = named_keeps b equals (probe_named b probe).texts (named-at b probe [])

  pub probe_at : (trace : Option Text) → At probe (texts b ++ (trace_named b probe trace).texts) (probe_named b probe).number
  probe_at trace = trace_keeps trace probe_first

  pub equals_at : (trace : Option Text) → At equals (texts b ++ (trace_named b probe trace).texts) (equals_named b probe).number
  unfolding equals_named
  equals_at trace = trace_keeps trace (named-at b equals (probe_named b probe).texts)

  -- the trace given, or else the probe's name
  pub trace_none : At probe (texts b ++ (trace_named b probe none).texts) (trace_named b probe none).number
  unfolding trace_named
  trace_none = probe_first

  pub trace_some : (t : Text) → At t (texts b ++ (trace_named b probe (some t)).texts) (trace_named b probe (some t)).number
  unfolding trace_named
  trace_some t = named-at b t (equals_named b probe).texts
