-- The names that a call needs and the new ones' letters and rows, as the code gives them.
use Rattle.std.specs.Prelude.{ℕ, suc, ◌+◌, ◌≤◌, ◌≡◌, Bool, true, false, not, List, [], ◌∷◌, ◌++◌, length}
use Rattle.std.specs.Prelude as code
use Rattle.std.specs.Option.{option_to_list, option_copied}
use Rattle.std.specs.Borrow.{Bor}
use Rattle.std.proofs.Math.Option.{Option, none, some, get_or}
use Rattle.basics.specs.Bytes.{rows}
use Rattle.basics.specs.Text.{Text}
use Rattle.book.specs.Book.{Book, names, size}
use Rattle.name_search.specs.Names.{position, number_or, maybe}
use Rattle.new_records.specs.Drafts.{name_rows, all_letters}
use Rattle.new_records.specs.Naming.{named, probe_named, equals_named, trace_named}
use Rattle.new_records.specs.Naming as naming
use Rattle.new_records.specs.declared.naming.Numbered as named-code
use Rattle.new_records.specs.declared.naming.Before as before-code
use Rattle.new_records.specs.declared.naming.ProbeNames as names-code
use Rattle.new_records.specs.declared.naming.NameParts as parts-code

-- a text that is handed over, if it came
abbrev pub maybe_text : code.Option (Bor Text) → Option Text
maybe_text o = maybe (option_copied o)

-- a text that is appended, if it is new
abbrev pub new_text : code.Option (Bor Text) → List Text
new_text o = option_to_list (option_copied o)

-- the same, told by a flag
unfoldable pub optional : Bool → Text → List Text
optional true t = t ∷ []
optional false t = []

-- the texts that are new before another: the probe's name and `=`, if they are
abbrev pub new_before : before-code.Before → List Text
new_before m = new_text m.probe ++ new_text m.equals

unfoldable pub is_none : Option ℕ → Bool
is_none none = true
is_none (some n) = false

-- one of the texts is t
unfoldable pub stands : Text → List Text → Bool
stands t ts = not (is_none (position t ts))

-- the number of a text that so many names don't have, behind them
pub record IsBehind (all : ℕ) (t : Text) (before : List Text) (r : named-code.Numbered) : Type 0 where
  pub number : r.number ≡ all + number_or (length before) (position t before)
  pub new : r.new ≡ is_none (position t before)
  pub low : r.number ≤ all + length before

pub record IsNamed (b : Book) (t : Text) (before : List Text) (r : named-code.Numbered) : Type 0 where
  pub number : r.number ≡ (named b t before).number
  pub low : r.number ≤ size b names + length before
  pub texts : (named b t before).texts ≡ before ++ optional r.new t
  pub short : length (all_letters (optional r.new t)) ≤ length t

pub record AreNamed (b : Book) (name : Text) (given : Option Text) (r : names-code.ProbeNames) : Type 0 where
  pub probe : r.probe.number ≡ (probe_named b name).number
  pub equals : r.equals.number ≡ (equals_named b name).number
  pub trace : r.trace.number ≡ (trace_named b name given).number
  pub low : r.trace.number ≤ size b names + 2
  pub probe_text : (probe_named b name).texts ≡ optional r.probe.new name
  pub equals_text : (equals_named b name).texts ≡ optional r.probe.new name ++ optional r.equals.new naming.equals
  pub texts : (trace_named b name given).texts ≡ (optional r.probe.new name ++ optional r.equals.new naming.equals) ++ optional r.trace.new (get_or given [])
  pub short : length (all_letters (optional r.probe.new name ++ optional r.equals.new naming.equals)) ≤ suc (length name)

-- ---- the letters and rows of new names
pub record AreParts (behind : ℕ) (before text : List Text) (r : parts-code.NameParts) : Type 0 where
  pub letters : r.letters.items ≡ all_letters before
  pub rows : r.rows.items ≡ rows (name_rows behind (before ++ text))
