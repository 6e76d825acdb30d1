-- The names that Extend, ExtendWithEquality, Record and RecordTracePoint need: the first name with a text, among those of the book and
-- those that the same call appended before, or a new one.
use Rattle.std.specs.Prelude.{ℕ, ◌+◌, List, [], ◌∷◌, ◌++◌, length}
use Rattle.std.proofs.Math.Option.{Option, none, some}
use Rattle.basics.specs.Text.{Text, ascii}
use Rattle.book.specs.Book.{Book, names, size}
use Rattle.name_search.specs.Names.{position, texts}

-- a name's number, and the texts of the names that are new by then
pub record Named : Type 0 where
  pub number : ℕ
  pub texts : List Text

unfoldable pub named_by : Book → Text → (before : List Text) → Option ℕ → Named
named_by b t before none = record { number = size b names + length before; texts = before ++ (t ∷ []) }
named_by b t before (some n) = record { number = n; texts = before }

unfoldable pub named : Book → Text → (before : List Text) → Named
named b t before = named_by b t before (position t (texts b ++ before))

-- the operator of equality
unfoldable pub equals : Text
equals = ascii "="

-- ---- the names of Record and RecordTracePoint: the probe's, `=`, and the trace
module _ (b : Book) (probe : Text) where
  unfoldable pub probe_named : Named
  probe_named = named b probe []

  unfoldable pub equals_named : Named
  equals_named = named b equals probe_named.texts

  -- where no trace is given, the probe's name is the trace
  unfoldable pub trace_named : Option Text → Named
  trace_named none = record { number = probe_named.number; texts = equals_named.texts }
  trace_named (some t) = named b t equals_named.texts
