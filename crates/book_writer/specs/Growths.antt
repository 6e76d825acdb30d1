-- The writer's eight calls: what each appends, which record's number it answers, when it is refused with 7, and when what is handed over
-- is refused with 4.
use Rattle.std.specs.Prelude.{ℕ, zero, suc, ◌+◌, ◌*◌, ◌/◌, Bool, true, false, ◌&&◌, ◌||◌, List, [], ◌∷◌, ◌++◌, eqb, leb, ltb, length, get_or, take}
use Rattle.std.proofs.Math.Option.{Option, none, some}
use Rattle.basics.specs.Bytes.{row}
use Rattle.basics.specs.Text.{Text}
use Rattle.book.specs.Book.{Book, names, constants, terms, contexts, lists, size}
use Rattle.book.specs.Program.{depth}
use Rattle.book.specs.Decode.{program}
use Rattle.book_growth.specs.Growth.{Addition}
use Rattle.name_search.specs.Probe.{probe_name}
use Rattle.new_records.specs.Drafts.{NewTerm, Draft, new_constant, new_term, true_term, identifier, equality, new_node, draft, range_start, addition_from}
use Rattle.new_records.specs.Naming.{named, equals, probe_named, equals_named, trace_named}

-- the last four are Extend, ExtendWithEquality, Record and RecordTracePoint of RSolver.dfy
pub data Growth : Type 0 where
  append_name : Text → Growth
  append_constant : (name typ : ℕ) → Growth
  append_term : NewTerm → (first second : List ℕ) → Growth
  append_node : (parent term trace : ℕ) → Growth
  extend : (parent term : ℕ) → Option Text → Growth
  extend_with_equality : (parent constant term : ℕ) → Growth
  record_term : (parent term typ : ℕ) → Option Text → Growth
  record_trace_point : (parent : ℕ) → Text → Growth

-- ---- append_term: lists are handed over as bytes, four for a number; start and count of a range are filled in
unfoldable pub entry_count : List ℕ → ℕ
entry_count bytes = length bytes / 4

unfoldable pub whole_entries : List ℕ → List ℕ
whole_entries bytes = take (4 * entry_count bytes) bytes

unfoldable pub is_whole : List ℕ → Bool
is_whole bytes = eqb (length bytes) (4 * entry_count bytes)

-- how many ranges a term's kind has: arguments; or a quantifier's constants and patterns
unfoldable pub ranges_of : ℕ → ℕ
ranges_of kind = get_or (0 ∷ 0 ∷ 0 ∷ 0 ∷ 1 ∷ 1 ∷ 0 ∷ 0 ∷ 2 ∷ []) kind 0

unfoldable pub filled : (ranges behind : ℕ) → NewTerm → (first second : List ℕ) → NewTerm
filled zero behind t first second = t
filled (suc zero) behind t first second =
    new_term t.kind t.field1 (range_start behind (entry_count first)) (entry_count first) t.field4 t.field5 t.field6
filled (suc (suc n)) behind t first second =
    new_term t.kind t.field1 (range_start behind (entry_count first)) (entry_count first)
    (range_start (behind + entry_count first) (entry_count second)) (entry_count second) t.field6

unfoldable pub term_lists : (ranges : ℕ) → (first second : List ℕ) → List ℕ
term_lists zero first second = []
term_lists (suc zero) first second = whole_entries first
term_lists (suc (suc n)) first second = whole_entries first ++ whole_entries second

-- a list that the kind has no range for is empty; another is whole numbers, and its range's fields are handed over as 0
unfoldable pub range_right : (ranged : Bool) → (start count : ℕ) → List ℕ → Bool
range_right false start count bytes = eqb (length bytes) 0
range_right true start count bytes = eqb start 0 && eqb count 0 && is_whole bytes

unfoldable pub term_right : (ranges : ℕ) → NewTerm → (first second : List ℕ) → Bool
term_right ranges t first second =
    range_right (leb 1 ranges) t.field2 t.field3 first && range_right (leb 2 ranges) t.field4 t.field5 second

unfoldable pub handed_right : Growth → Bool
handed_right (append_name t) = true
handed_right (append_constant n t) = true
handed_right (append_term t first second) = term_right (ranges_of t.kind) t first second
handed_right (append_node p t n) = true
handed_right (extend p t trace) = true
handed_right (extend_with_equality p v t) = true
handed_right (record_term p t typ trace) = true
handed_right (record_trace_point p trace) = true

module _ (b : Book) where
  -- ---- a parent or a term that the book received has not
  unfoldable pub outside_at : (parent term : ℕ) → Bool
  outside_at p t = ltb (size b contexts) p || leb (size b terms) t

  unfoldable pub outside : Growth → Bool
  outside (append_name t) = false
  outside (append_constant n t) = false
  outside (append_term t first second) = false
  outside (append_node p t n) = outside_at p t
  outside (extend p t trace) = outside_at p t
  outside (extend_with_equality p v t) = outside_at p t
  outside (record_term p t typ trace) = outside_at p t
  outside (record_trace_point p trace) = ltb (size b contexts) p

  -- ---- the four: a trace's field is its name's number + 1
  unfoldable pub extend_draft : (parent term : ℕ) → Option Text → Draft
  extend_draft p t none = draft [] [] [] (new_node p t 0 ∷ []) []
  extend_draft p t (some trace) = let n = named b trace [] in draft n.texts [] [] (new_node p t (suc n.number) ∷ []) []

  -- the terms of an equality: the constant, and the operator's application to constant and term
  unfoldable pub equality_terms : (constant operator : ℕ) → List NewTerm
  equality_terms v operator = identifier v ∷ equality operator (size b lists) ∷ []

  unfoldable pub equality_draft : (parent constant term : ℕ) → Draft
  equality_draft p v t =
      let operator = named b equals [] in
      let id = size b terms in
      draft operator.texts [] (equality_terms v operator.number) (new_node p (suc id) 0 ∷ []) (row (id ∷ t ∷ []))

  -- RecordTracePoint has no term: `true` is a new one, before the others
  unfoldable pub probe_terms : (operator : ℕ) → Option ℕ → List NewTerm
  probe_terms operator (some t) = equality_terms (size b constants) operator
  probe_terms operator none = true_term ∷ equality_terms (size b constants) operator

  unfoldable pub probe_lists : Option ℕ → List ℕ
  probe_lists (some t) = row (size b terms ∷ t ∷ [])
  probe_lists none = row (suc (size b terms) ∷ size b terms ∷ [])

  unfoldable pub probe_equality : Option ℕ → ℕ
  probe_equality (some t) = suc (size b terms)
  probe_equality none = suc (suc (size b terms))

  unfoldable pub probe_draft_by : (probe : Text) (parent : ℕ) → Option ℕ → (typ : ℕ) → Option Text → Draft
  probe_draft_by probe p t typ trace =
      draft (trace_named b probe trace).texts (new_constant (probe_named b probe).number typ ∷ [])
      (probe_terms (equals_named b probe).number t) (new_node p (probe_equality t) (suc (trace_named b probe trace).number) ∷ [])
      (probe_lists t)

  -- the probe's name has the number of its parent's depth
  unfoldable pub probe_draft : (parent : ℕ) → Option ℕ → (typ : ℕ) → Option Text → Draft
  probe_draft p t typ trace = probe_draft_by (probe_name (depth (program b) p)) p t typ trace

  unfoldable pub draft_of : Growth → Draft
  draft_of (append_name t) = draft (t ∷ []) [] [] [] []
  draft_of (append_constant n t) = draft [] (new_constant n t ∷ []) [] [] []
  draft_of (append_term t first second) =
      draft [] [] (filled (ranges_of t.kind) (size b lists) t first second ∷ []) [] (term_lists (ranges_of t.kind) first second)
  draft_of (append_node p t n) = draft [] [] [] (new_node p t n ∷ []) []
  draft_of (extend p t trace) = extend_draft p t trace
  draft_of (extend_with_equality p v t) = equality_draft p v t
  draft_of (record_term p t typ trace) = probe_draft p (some t) typ trace
  draft_of (record_trace_point p trace) = probe_draft p none 0 (some trace)

  unfoldable pub addition_of : Growth → Addition
  addition_of g = addition_from b (draft_of g)

  unfoldable pub number_of : Growth → ℕ
  number_of (append_name t) = size b names
  number_of (append_constant n t) = size b constants
  number_of (append_term t first second) = size b terms
  number_of (append_node p t n) = suc (size b contexts)
  number_of (extend p t trace) = suc (size b contexts)
  number_of (extend_with_equality p v t) = suc (size b contexts)
  number_of (record_term p t typ trace) = suc (size b contexts)
  number_of (record_trace_point p trace) = suc (size b contexts)
