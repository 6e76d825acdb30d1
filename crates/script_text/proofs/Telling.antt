-- What stands at the front of a buffer after a line is written, or after a call.
use Prim.Native.Nat.{ℕ, ◌<◌, ◌≤◌}
use native.Mathlib.Omega.{arith}
use mathlib.Core.Path.{◌≡◌, refl, ◌∙◌}
use mathlib.Core.List.{List}
use lib.ListN.{length}
use Rattle.basics.specs.Text.{Text}
use Rattle.basics.specs.Basics.{nat2_string, int2_string_no_leading_zero}
use Rattle.basics.specs.Buffer.{overlay, buffer_after}
use Rattle.basics.specs.Outcome.{Outcome, refused, accepted, map_outcome}
use Rattle.basics.specs.Write.{MOST, Wrote}
use Rattle.basics.proofs.Laws.{length_overlay, take_overlay}
use Rattle.book.specs.Refusal.{number}
use Rattle.book.specs.declared.Refusal.{Refusal}
use Rattle.book.specs.declared.Refusal.TheVariants.{ShortScratch, BadContents, CountOverLimit, FieldOutOfRange, NoForest, TooDeep, NotInBook, ReplyIsUnsat, MissingAxiom, BufferTooShort, NoOperator, NoSession, QuestionOpen, NoReplyOwed, NoModelOwed, TooDeepForNarrow, TagInBook, ForeignLine, ChecksDiffer, BadName}
use Rattle.solvers.specs.Session.{Written, text_of}
use Rattle.solvers.specs.Calls.{Host}
use Rattle.std.specs.Prelude.{Result, Ok, Err}
use Rattle.solvers.specs.declared.Answer.{Answer}
use Rattle.solvers.specs.declared.Answer.TheVariants as answer
use Rattle.solvers.specs.Left.{answer_value, values}
use Rattle.solvers.specs.Taken.{text_length}
use Rattle.solvers.proofs.Taken.{FitsIn, by_length}
use Rattle.script_text.specs.Script.{text_size, stopped, refused_line, told}
use Rattle.script_text.specs.Turned.{Shows, Tells, length_told}

shows_overlay : (t : Text) (o : List ℕ) {n : ℕ} {o1 : List ℕ} → n ≡ length t → o1 ≡ overlay t o → length t ≤ length o → Shows t n o1
shows_overlay t o {n} {o1} en eo h =
    record { shown = rw (en, eo) (take_overlay t o h); fits = rw (en, eo) (omega (arith, length_overlay t o)) }

wrote_shows : {t : Text} {o o1 : List ℕ} {r : ℕ} → length o < MOST → length t ≤ length o → Wrote t o o1 r → Shows t r o1
wrote_shows {t} {o} short h w = shows_overlay t o (omega (arith, w.counted)) w.shown h

stopped_short : length stopped ≤ 16
unfolding stopped
stopped_short = omega arith

line_short : (why : Refusal) → length (refused_line (number why)) ≤ 16
unfolding refused_line number nat2_string int2_string_no_leading_zero
line_short ShortScratch = omega arith
line_short BadContents = omega arith
line_short CountOverLimit = omega arith
line_short FieldOutOfRange = omega arith
line_short NoForest = omega arith
line_short TooDeep = omega arith
line_short NotInBook = omega arith
line_short ReplyIsUnsat = omega arith
line_short MissingAxiom = omega arith
line_short BufferTooShort = omega arith
line_short NoOperator = omega arith
line_short NoSession = omega arith
line_short QuestionOpen = omega arith
line_short NoReplyOwed = omega arith
line_short NoModelOwed = omega arith
line_short TooDeepForNarrow = omega arith
line_short TagInBook = omega arith
line_short ForeignLine = omega arith
line_short ChecksDiffer = omega arith
line_short BadName = omega arith

-- an accepted text stands where its call wrote it
pub told_shows : (h : Host) (o : Outcome Written) → FitsIn h o → {n : ℕ} {t1 t2 : List ℕ} → t1 ≡ buffer_after o text_of h.text → Tells (map_outcome values o) n t1 t2 → Shows (told o) n t2
unfolding map_outcome buffer_after Tells told values
told_shows h (refused k) f e x = x
told_shows h (accepted w) f e x =
    shows_overlay (text_of w) h.text (x.0 ∙ by_length w.result (length (text_of w))) (x.1 ∙ e) f

pub stopped_shows : {o o1 : List ℕ} {r : ℕ} → length o ≡ text_size → Wrote stopped o o1 r → Shows stopped r o1
stopped_shows e w = wrote_shows (omega (arith, e)) (omega (arith, e, stopped_short)) w

pub refused_shows : (why : Refusal) {o o1 : List ℕ} {r : ℕ} → length o ≡ text_size → Wrote (refused_line (number why)) o o1 r → Shows (refused_line (number why)) r o1
refused_shows why e w = wrote_shows (omega (arith, e)) (omega (arith, e, line_short why)) w

-- what is told of each answer
module _ {a : Result Answer Refusal} {n : ℕ} (t : List ℕ) where
  pub tells_text : (v : Answer) → a ≡ Ok v → n ≡ length_told v → Tells (answer_value a) n t t
  unfolding Tells answer_value text_length
  tells_text (answer.Written k) e l = rw e (l, refl)
  tells_text (answer.Proved k) e l = rw e (l, refl)
  tells_text (answer.Unproved k m) e l = rw e (l, refl)

  pub tells_refused : {why : Refusal} {t' : List ℕ} → a ≡ Err why → Shows (refused_line (number why)) n t' → Tells (answer_value a) n t t'
  unfolding Tells answer_value
  tells_refused e x = rw e x
