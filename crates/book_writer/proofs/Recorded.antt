-- The eight calls append whole records.
use Prim.Native.Nat.{ℕ, zero, suc, ◌+◌, ◌*◌, ◌/◌}
use native.Mathlib.Omega.{arith}
use mathlib.Core.Path.{◌≡◌, refl, ◌∙◌}
use mathlib.Core.Option.{Option, none, some}
use mathlib.Core.List.{List, [], ◌∷◌, map}
use lib.ListN.{length, length-append, length-take}
use Rattle.basics.specs.Text.{Text}
use Rattle.basics.proofs.All.{All, end, more}
use Rattle.book.specs.Book.{Book, size, letters}
use Rattle.book.proofs.Words.{length_row}
use Rattle.book_layout.proofs.Rows.{length_rows}
use Rattle.book_growth.specs.Growth.{Whole}
use Rattle.book_growth.proofs.Added.{whole_by}
use Rattle.new_records.specs.Drafts.{Draft, name_row, name_rows, constant_row, term_row, node_row, addition_from}
use Rattle.book_writer.specs.Growths.{Growth, append_name, append_constant, append_term, append_node, extend, extend_with_equality, record_term, record_trace_point, entry_count, whole_entries, ranges_of, term_lists, extend_draft, equality_draft, probe_lists, probe_draft_by, probe_draft, draft_of, addition_of}

pub every_row : {A : Type 0} (width : ℕ) (f : A → List ℕ) → ((x : A) → length (f x) ≡ width) → (xs : List A) → All (λ (r : List ℕ). length r ≡ width) (map f xs)
every_row width f h [] = end
every_row width f h (x ∷ xs) = more (h x) (every_row width f h xs)

pub every_name : (behind : ℕ) (ts : List Text) → All (λ (r : List ℕ). length r ≡ 2) (name_rows behind ts)
unfolding name_rows name_row
every_name behind [] = end
every_name behind (t ∷ ts) = more refl (every_name (behind + length t) ts)

-- a draft is whole records, if its list entries are
draft_whole : (b : Book) (d : Draft) (l : ℕ) → length d.lists ≡ 4 * l → Whole (addition_from b d)
unfolding addition_from constant_row term_row node_row
draft_whole b d l h =
    whole_by (addition_from b d) _ _ _ _ l (length_rows 2 (every_name (size b letters) d.texts)) (length_rows 2 (every_row 2 constant_row (λ v. refl) d.constants))
    (length_rows 7 (every_row 7 term_row (λ t. refl) d.terms)) (length_rows 3 (every_row 3 node_row (λ n. refl) d.nodes)) h

-- ---- the list entries of each call
abbrev Fours : List ℕ → Type 0
Fours xs = (l : ℕ) × (length xs ≡ 4 * l)

pub whole_fours : (xs : List ℕ) → length (whole_entries xs) ≡ 4 * entry_count xs
unfolding whole_entries entry_count
whole_fours xs = length-take (4 * (length xs / 4)) xs ∙ omega arith

term_fours : (n : ℕ) (xs ys : List ℕ) → Fours (term_lists n xs ys)
unfolding term_lists
term_fours zero xs ys = (0, refl)
term_fours (suc zero) xs ys = (entry_count xs, whole_fours xs)
term_fours (suc (suc n)) xs ys =
    (entry_count xs + entry_count ys, length-append (whole_entries xs) (whole_entries ys) ∙ omega (arith, whole_fours xs, whole_fours ys))

extend_fours : (b : Book) (p t : ℕ) (trace : Option Text) → Fours (extend_draft b p t trace).lists
unfolding extend_draft
extend_fours b p t none = (0, refl)
extend_fours b p t (some trace) = (0, refl)

probe_fours : (b : Book) (t : Option ℕ) → Fours (probe_lists b t)
unfolding probe_lists
probe_fours b none = (2, length_row _)
probe_fours b (some t) = (2, length_row _)

fours : (b : Book) (g : Growth) → Fours (draft_of b g).lists
unfolding draft_of equality_draft probe_draft probe_draft_by
fours b (append_name t) = (0, refl)
fours b (append_constant n t) = (0, refl)
fours b (append_term t first second) = term_fours (ranges_of t.kind) first second
fours b (append_node p t n) = (0, refl)
fours b (extend p t trace) = extend_fours b p t trace
fours b (extend_with_equality p v t) = (2, length_row _)
fours b (record_term p t typ trace) = probe_fours b (some t)
fours b (record_trace_point p trace) = probe_fours b none

pub probe_draft_whole : (b : Book) (probe : Text) (p : ℕ) (t : Option ℕ) (typ : ℕ) (trace : Option Text) → Whole (addition_from b (probe_draft_by b probe p t typ trace))
unfolding probe_draft_by
probe_draft_whole b probe p t typ trace = let f = probe_fours b t in draft_whole b (probe_draft_by b probe p t typ trace) f.0 f.1

pub addition_whole : (b : Book) (g : Growth) → Whole (addition_of b g)
unfolding addition_of
addition_whole b g = let f = fours b g in draft_whole b (draft_of b g) f.0 f.1
