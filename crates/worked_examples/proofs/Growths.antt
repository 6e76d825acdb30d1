-- Books that are written here, from the one without records: each call of the writer by itself, with all that it leaves; and then growths
-- between the calls of a session, also while a reply and while a model is owed.
use Prim.Native.Nat.{ℕ}
use mathlib.Core.Path.{◌≡◌, refl}
use mathlib.Core.Bool.{true}
use mathlib.Core.Option.{none}
use mathlib.Core.List.{List, [], ◌∷◌, ◌++◌, map}
use lib.ListN.{take}
use Rattle.basics.specs.Text.{Text, ascii}
use Rattle.basics.specs.Bytes.{row, rows}
use Rattle.basics.specs.Outcome.{refused, accepted}
use Rattle.book.specs.Book.{Book}
use Rattle.smt_engines.specs.Command.{script}
use Rattle.smt_engines.specs.Reader.{Reader, live, read}
use Rattle.book_layout.specs.Layout.{body, count_of, start_of, entry_of, assembled}
use Rattle.book_growth.specs.Growth.{added, grown_body, grown, grows_by, grows_within}
use Rattle.name_search.specs.Names.{later, position, texts}
use Rattle.name_search.specs.Probe.{probe_name}
use Rattle.new_records.specs.Drafts.{new_term, true_term, identifier, equality, range_start, name_row, name_rows, all_letters, constant_row, term_row, node_row, addition_from}
use Rattle.new_records.specs.Naming.{named_by, named, equals, probe_named, equals_named, trace_named}
use Rattle.book_writer.specs.Growths.{Growth, append_term, record_term, record_trace_point, entry_count, whole_entries, is_whole, ranges_of, filled, term_lists, range_right, term_right, handed_right, outside_at, outside, equality_terms, probe_terms, probe_lists, probe_equality, probe_draft_by, probe_draft, draft_of, addition_of, number_of}
use Rattle.book_writer.specs.Writing.{grow, GrownLeft, numbers, book_of, grown_left, outcome_of, grow_call, lent, newest, write, took_by, took}
use Rattle.solvers.specs.Calls.{move_to, ask_for, reply_with, model_with}
use Rattle.solvers.specs.Rule.{must_live}
use Rattle.solvers.specs.Taken.{text_length, taken}
use Rattle.stack_rule.specs.Events.{Event, calls, writes, Trace, run}
use Rattle.stack_rule.specs.Bodies.{do_all}
use Rattle.stack_rule.specs.HostRun.{host_after, host_happens, host_run_from, host_run}
use Rattle.worked_examples.proofs.Everything.{everything}
use Rattle.worked_examples.proofs.Books.{written, books}
use Rattle.worked_examples.proofs.Books
use Rattle.worked_examples.proofs.Hosts
use Rattle.worked_examples.proofs.Hosts.{hosts, dirty, clean, blank, host}

-- the writer's calls, and the host's books
unfoldable pub writing : Unit {0}
unfolding row rows body count_of start_of entry_of assembled added grown_body grown grows_by grows_within later position texts probe_name range_start name_row name_rows all_letters constant_row term_row node_row addition_from named_by named equals probe_named equals_named trace_named entry_count whole_entries is_whole ranges_of filled term_lists range_right term_right handed_right outside_at outside true_term identifier equality equality_terms probe_terms probe_lists probe_equality probe_draft_by probe_draft draft_of addition_of number_of grow numbers book_of grown_left outcome_of grow_call newest write took_by took text_length taken host_after host_happens host_run_from host_run
writing = tt

-- RecordTracePoint at the root; the number 7; Record of it below node 1, without a trace
point : Growth
point = record_trace_point 0 (ascii "start")

seven : Growth
seven = append_term (new_term 1 7 0 0 0 0 0) [] []

probe : Growth
probe = record_term 1 3 1 none

-- ---- the books that they make, without types, functions, axioms and patterns
plain : Text → (names constants terms contexts lists : List ℕ) → Book
plain l n c t x e =
    written (record {
      letters = l;
      names = n;
      types = [];
      constants = c;
      functions = [];
      axioms = [];
      patterns = [];
      terms = t;
      contexts = x;
      lists = e;
    })

point_names : List ℕ
point_names = 0 ∷ 7 ∷ 7 ∷ 1 ∷ 8 ∷ 5 ∷ []

point_terms : List ℕ
point_terms =
    0 ∷ 1 ∷ 0 ∷ 0 ∷ 0 ∷ 0 ∷ 0 ∷  -- 0: true
    3 ∷ 0 ∷ 0 ∷ 0 ∷ 0 ∷ 0 ∷ 0 ∷  -- 1: probe%0
    4 ∷ 1 ∷ 0 ∷ 2 ∷ 0 ∷ 0 ∷ 0 ∷ []  -- 2: (= probe%0 true)

seven_terms : List ℕ
seven_terms = point_terms ++ (1 ∷ 7 ∷ 0 ∷ 0 ∷ 0 ∷ 0 ∷ 0 ∷ [])  -- 3: 7

probe_term_rows : List ℕ
probe_term_rows =
    3 ∷ 1 ∷ 0 ∷ 0 ∷ 0 ∷ 0 ∷ 0 ∷  -- 4: probe%1
    4 ∷ 1 ∷ 2 ∷ 2 ∷ 0 ∷ 0 ∷ 0 ∷ []  -- 5: (= probe%1 7)

after_point : Book
after_point = plain (ascii "probe%0=start") point_names (0 ∷ 0 ∷ []) point_terms (0 ∷ 2 ∷ 3 ∷ []) (1 ∷ 0 ∷ [])

after_seven : Book
after_seven = plain (ascii "probe%0=start") point_names (0 ∷ 0 ∷ []) seven_terms (0 ∷ 2 ∷ 3 ∷ []) (1 ∷ 0 ∷ [])

-- the trace is the name of the probe, name 3
after_probe : Book
after_probe =
    plain (ascii "probe%0=startprobe%1") (point_names ++ (13 ∷ 7 ∷ [])) (0 ∷ 0 ∷ 3 ∷ 1 ∷ []) (seven_terms ++ probe_term_rows)
    (0 ∷ 2 ∷ 3 ∷ 1 ∷ 5 ∷ 4 ∷ []) (1 ∷ 0 ∷ 4 ∷ 3 ∷ [])

made : Unit {0}
unfolding point seven probe plain point_names point_terms seven_terms probe_term_rows after_point after_seven after_probe
made = tt

-- what a call leaves in a buffer with so much room: the book, or its refusal
grows : (room number length : ℕ) → Book → GrownLeft
grows room n l b = record { answer = accepted (record { number = n; length = l }); buffer = Hosts.filled room b; scratch = clean }

refuses : (room : ℕ) → ℕ → GrownLeft
refuses room n = record { answer = refused n; buffer = blank room; scratch = clean }

grew : (room : ℕ) → Book → Growth → GrownLeft
grew room b g = grow_call b (lent g dirty (blank room))

-- a buffer of a byte less is too short
pub growths : List (GrownLeft × GrownLeft)
unfolding everything books hosts writing made grows refuses grew
growths =
    (grew 229 Books.none point, grows 229 1 229 after_point)
    ∷ (grew 228 Books.none point, refuses 228 10)
    ∷ (grew 300 after_point seven, grows 300 3 257 after_seven)
    ∷ (grew 400 after_seven probe, grows 400 2 356 after_probe)
    ∷ (grew 500 after_probe probe, refuses 500 5)  -- term 3 is referred to by now
    ∷ []

pub growths_hold : map (λ e. e.0) growths ≡ map (λ e. e.1) growths
unfolding growths
growths_hold = refl

-- ---- growths between calls
growing : List Event
growing =
    writes (lent point dirty (blank 228))  -- 10
    ∷ calls (move_to (host 200 20) 1)  -- 7
    ∷ writes (lent point dirty (blank 229))
    ∷ calls (move_to (host 200 20) 1)
    ∷ calls (ask_for (host 200 20) 1 0)
    ∷ writes (lent seven dirty (blank 400))  -- while a reply is owed
    ∷ calls (reply_with (host 200 20) true (ascii "sat"))
    ∷ writes (lent probe dirty (blank 400))  -- while a model is owed
    ∷ writes (lent probe dirty (blank 500))  -- 5
    ∷ calls (model_with (host 200 20) (ascii "sat") none)
    ∷ calls (move_to (host 200 20) 2)
    ∷ []

-- all the text, of the calls and of the bodies
sent : Text
sent =
    ascii "(push 1)\n(declare-fun probe%0 () Bool)\n(assert (= probe%0 true))\n(push 1)\n(push 1)\n(assert (not true))\n(check-sat)\n(get-model)\n(pop 1)\n(pop 1)\n(push 1)\n(declare-fun probe%1 () Int)\n(assert (= probe%1 7))\n"

pub grown_texts : List (List ℕ × List ℕ)
unfolding everything books hosts writing made growing sent
grown_texts =
    ((run Books.none growing).book, after_probe)
    ∷ ((run Books.none growing).text, sent)
    ∷ ((host_run Books.none growing).book, after_probe)
    ∷ ((host_run Books.none growing).text, sent)
    ∷ (script (do_all Books.none growing).sent, sent)
    ∷ []

pub grown_texts_hold : map (λ e. e.0) grown_texts ≡ map (λ e. e.1) grown_texts
unfolding grown_texts
grown_texts_hold = refl

-- what the reader has, and what the newest book gives for the present
levels_of : Trace → Reader × Reader
levels_of t = (read t.text, live (must_live t.book t.due))

-- while a reply and while a model is owed, and at the end
pub grown_levels : List (Reader × Reader)
unfolding everything books hosts writing made growing levels_of
grown_levels =
    levels_of (run Books.none (take 6 growing)) ∷ levels_of (run Books.none (take 8 growing)) ∷ levels_of (run Books.none growing) ∷ []

pub grown_levels_hold : map (λ e. e.0) grown_levels ≡ map (λ e. e.1) grown_levels
unfolding grown_levels
grown_levels_hold = refl
