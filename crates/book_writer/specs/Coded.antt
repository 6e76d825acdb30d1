-- What the code's functions ask for and give.
use Rattle.std.specs.Prelude.{ℕ, suc, ◌+◌, ◌*◌, ◌/◌, ◌≤◌, ◌≡◌, Bool, true, false, not, List, [], ◌∷◌, map, ltb, length, Result, Ok, Err, if◌then◌else◌}
use Rattle.std.proofs.Math.Option.{Option, none, some}
use Rattle.basics.specs.Bytes.{row, rows}
use Rattle.basics.specs.Text.{Text}
use Rattle.basics.specs.Outcome.{Outcome, accepted, refused, refuse, ◌>>◌, map_outcome}
use Rattle.basics.specs.Buffer.{scratch_least, buffer_after, scratch_after}
use Rattle.book.specs.Book.{Book, terms, contexts, size}
use Rattle.book.specs.Program.{depth}
use Rattle.book.specs.Decode.{program}
use Rattle.name_search.specs.Probe.{probe_name}
use Rattle.book_test.specs.BookTest.{book_test, book_test_call, tested_value}
use Rattle.book_test.specs.Promise.{Promise}
use Rattle.book_growth.specs.Growth.{Addition, grown, grows_within}
use Rattle.new_records.specs.Drafts.{NewTerm, new_term, true_term, new_node, new_constant, constant_row, term_row, node_row, addition_from}
use Rattle.book_writer.specs.Growths.{Growth, extend_draft, entry_count, filled, addition_of, number_of, outside, handed_right, probe_terms, probe_lists, probe_equality, probe_draft_by}
use Rattle.book_writer.specs.Writing.{Grown, Answer, numbers, book_of, appended_value}
use Rattle.book.specs.declared.Refusal.{Refusal}
use Rattle.book.specs.declared.Refusal.TheVariants.{NotInBook}
use Rattle.book.specs.Refusal.{number}
use Rattle.new_records.specs.declared.naming.ProbeNames.{ProbeNames}
use Rattle.book_writer.specs.declared.terms.TermFields as fields-code
use Rattle.book_writer.specs.declared.probe_rows.ProbeRows as rows_code

-- a scratch as a call leaves it that was not refused with 1: long enough, and all zero
pub record Spare (scratch : List ℕ) : Type 0 where
  pub long : scratch_least ≤ length scratch
  pub clean : scratch_after scratch ≡ scratch

-- behind refusals 1 to 6 and 28 of the book received
pub record Ready (b : Book) (scratch : List ℕ) : Type 0 where
  pub tested : book_test b ≡ accepted tt
  pub promise : Promise b
  pub spare : Spare scratch

-- a new book that passed its test
unfoldable pub fitted : Book → (number room : ℕ) → Outcome Grown
fitted c number room = do
  refuse 10 (ltb room (length c))
  accepted (record { number = number; book = c })

-- a new book that is laid out
unfoldable pub deliver : Book → (number room : ℕ) → Outcome Grown
deliver c number room = do
  book_test c
  fitted c number room

-- behind refusal 7, by what is appended
unfoldable pub append_in : Book → Addition → (right : Bool) → (number room : ℕ) → Outcome Grown
append_in b a right number room = do
  refuse 3 (not (grows_within b a))
  refuse 4 (not right)
  deliver (grown b a) number room

unfoldable pub grow_below : Book → Growth → (room : ℕ) → Outcome Grown
grow_below b g room = append_in b (addition_of b g) (handed_right g) (number_of b g) room

-- behind refusals 1 to 6 and 28
unfoldable pub grow_in : Book → Growth → (room : ℕ) → Outcome Grown
grow_in b g room = do
  refuse 7 (outside b g)
  grow_below b g room

-- what the test of a book, with which a call begins, answers and leaves
abbrev pub Tried : Book → (s : List ℕ) → Result (Unit {0}) Refusal → (s' : List ℕ) → Type 0
Tried b s r s' = (tested_value r ≡ (book_test_call b s).answer) × (s' ≡ (book_test_call b s).scratch)

-- the answer of a test for refusal 7
pub record Inside (outside : Bool) (r : Result (Unit {0}) Refusal) : Type 0 where
  pub is : r ≡ (if outside then Err NotInBook else Ok tt)

-- what is answered for an outcome, and left in the new book's buffer t
pub record Copied (o : Outcome Grown) (r : Answer) (t t' : List ℕ) : Type 0 where
  pub answer : appended_value r ≡ map_outcome numbers o
  pub buffer : t' ≡ buffer_after o book_of t

-- the same, and the scratch s is all zero again
pub record Appends (o : Outcome Grown) (r : Answer) (t t' s s' : List ℕ) : Type 0 where
  pub copied : Copied o r t t'
  pub scratch : s' ≡ s

-- ---- append_term
abbrev pub fields_of : fields-code.TermFields → NewTerm
fields_of t = new_term t.kind t.field1 t.field2 t.field3 t.field4 t.field5 t.field6

-- of lists with so many entries
pub record IsTermRow (ranges behind : ℕ) (t : NewTerm) (first second : ℕ) (r : List ℕ) : Type 0 where
  pub is : (xs ys : List ℕ) → entry_count xs ≡ first → entry_count ys ≡ second → r ≡ row (term_row (filled ranges behind t xs ys))

unfoldable pub listed_bytes : (ranged : Bool) → (length : ℕ) → ℕ
listed_bytes true length = 4 * (length / 4)
listed_bytes false length = 0

-- ---- a node's trace
pub record IsTraced (b : Book) (trace : Option Text) (field : ℕ) (new : List Text) : Type 0 where
  pub number : (p t : ℕ) → new_node p t field ∷ [] ≡ (extend_draft b p t trace).nodes
  pub texts : (p t : ℕ) → new ≡ (extend_draft b p t trace).texts

-- ---- Record and RecordTracePoint; the second has no term
-- with the probe's name
unfoldable pub probe_by : Book → (probe : Text) → (parent : ℕ) → Option ℕ → (typ : ℕ) → Option Text → (room : ℕ) → Outcome Grown
probe_by b probe p t typ trace room = append_in b (addition_from b (probe_draft_by b probe p t typ trace)) true (suc (size b contexts)) room

unfoldable pub probe_below : Book → (parent : ℕ) → Option ℕ → (typ : ℕ) → Option Text → (room : ℕ) → Outcome Grown
probe_below b p t typ trace room = probe_by b (probe_name (depth (program b) p)) p t typ trace room

unfoldable pub true_if : Option ℕ → List ℕ
true_if none = row (term_row true_term)
true_if (some t) = []

pub record IsEquality (b : Book) (term : Option ℕ) (r : ℕ) : Type 0 where
  pub is : r ≡ probe_equality b term
  pub low : r ≤ terms.most + 2

pub record AreRows (b : Book) (names : ProbeNames) (parent typ : ℕ) (term : Option ℕ) (r : rows_code.ProbeRows) : Type 0 where
  pub constant : r.constant ≡ rows (map constant_row (new_constant names.probe.number typ ∷ []))
  pub terms : r.terms.items ≡ rows (map term_row (probe_terms b names.equals.number term))
  pub node : r.node ≡ rows (map node_row (new_node parent (probe_equality b term) (suc names.trace.number) ∷ []))
  pub entries : r.entries ≡ probe_lists b term
