-- What the code appends is what the definitions say, call by call.
use Rattle.std.specs.Prelude.{Some, None, unwrap_or}
use Rattle.std.specs.Prelude as code
use Rattle.std.specs.Bool.{then_some}
use denote.Bor.{Bor}
use Prim.Native.Nat.{ℕ, zero, suc, ◌+◌, ◌*◌, ◌/◌, ◌≤◌}
use native.Mathlib.Omega.{arith}
use native.Mathlib.Numerals.{add-one}
use mathlib.Core.Path.{◌≡◌, refl, sym, ap, ◌∙◌}
use mathlib.Core.Option.{Option, none, some, get_or}
use mathlib.Core.Bool.{Bool, true, false}
use mathlib.Core.List.{List, [], ◌∷◌, ◌++◌, map, append-nil}
use lib.Dec.{leb}
use lib.ListN.{length, take}
use borrow.Author.Tests.{le-leb}
use Rattle.basics.specs.Bytes.{row, rows}
use Rattle.basics.specs.Text.{Text}
use Rattle.book.specs.Book.{Book, letters, names, terms, lists, size}
use Rattle.book_growth.specs.Growth.{Addition, addition, Whole}
use Rattle.name_search.specs.Names.{maybe}
use Rattle.new_records.proofs.Parts.{letters_append}
use Rattle.new_records.specs.Drafts.{NewTerm, NewNode, new_constant, identifier, equality, new_node, range_start, name_row, name_rows, all_letters, constant_row, term_row, node_row, addition_from}
use Rattle.new_records.specs.Naming.{named, equals, trace_named}
use Rattle.new_records.specs.NewNames.{maybe_text, new_text, optional, IsNamed, AreNamed, AreParts}
use Rattle.new_records.proofs.Names.{handed_on}
use Rattle.new_records.specs.declared.naming.Numbered.{Numbered}
use Rattle.new_records.specs.declared.naming.ProbeNames.{ProbeNames}
use Rattle.new_records.specs.declared.naming.NameParts.{NameParts}
use Rattle.book_writer.specs.Growths.{Growth, term_right, append_name, append_constant, append_term, append_node, extend, extend_with_equality, ranges_of, filled, entry_count, whole_entries, term_lists, extend_draft, equality_terms, equality_draft, probe_terms, probe_equality, probe_draft_by, draft_of, addition_of}
use Rattle.book_writer.specs.Coded.{append_in, Appends, IsTraced, IsTermRow, listed_bytes, AreRows}
use Rattle.book_writer.specs.Writing.{Answer}
use Rattle.book_writer.specs.declared.probe_rows.ProbeRows.{ProbeRows}
use Rattle.book_writer.proofs.Recorded.{addition_whole, probe_draft_whole}

pub whole_as : (b : Book) (g : Growth) {a : Addition} → a ≡ addition_of b g → Whole a
whole_as b g e = rw e (addition_whole b g)

pub append_as : (b : Book) {a a1 : Addition} (right : Bool) {n n1 : ℕ} (room : ℕ) {r : Answer} {t t1 s s1 : List ℕ} → a ≡ a1 → n ≡ n1
    → Appends (append_in b a right n room) r t t1 s s1 → Appends (append_in b a1 right n1 room) r t t1 s s1
append_as b right room e f x = rw (e, f) at x

-- by its parts
by_parts : {l l1 n n1 c c1 t t1 x x1 e e1 : List ℕ} → l ≡ l1 → n ≡ n1 → c ≡ c1 → t ≡ t1 → x ≡ x1 → e ≡ e1 → addition l n c t x e ≡ addition l1 n1 c1 t1 x1 e1
by_parts p q r s u v = λ i. addition (p i) (q i) (r i) (s i) (u i) (v i)

-- a section with one new record
one_row : {r : List ℕ} (xs : List ℕ) → r ≡ row xs → r ≡ rows (xs ∷ [])
unfolding rows
one_row xs e = e ∙ sym (append-nil (row xs))

-- ---- one record
pub name_added : (b : Book) (t : Text) {r : List ℕ} {k : ℕ} → k ≡ size b letters → r ≡ row (name_row k (length t)) → addition t r [] [] [] [] ≡ addition_of b (append_name t)
unfolding addition_of draft_of addition_from all_letters name_rows rows
name_added b t ek er =
    by_parts (sym (append-nil t)) (one_row (name_row (size b letters) (length t)) (er ∙ ap (λ (z : ℕ). row (name_row z (length t))) ek)) refl refl refl refl

pub constant_added : (b : Book) (n t : ℕ) {r : List ℕ} → r ≡ row (n ∷ t ∷ []) → addition [] [] r [] [] [] ≡ addition_of b (append_constant n t)
unfolding addition_of draft_of addition_from all_letters name_rows constant_row rows
constant_added b n t e = by_parts refl refl (one_row (n ∷ t ∷ []) e) refl refl refl

pub node_added : (b : Book) (p t n : ℕ) {r : List ℕ} → r ≡ row (p ∷ t ∷ n ∷ []) → addition [] [] [] [] r [] ≡ addition_of b (append_node p t n)
unfolding addition_of draft_of addition_from all_letters name_rows node_row rows
node_added b p t n e = by_parts refl refl refl refl (one_row (p ∷ t ∷ n ∷ []) e) refl

-- ---- a term and its lists
lists_taken : (ranges : ℕ) (xs ys : List ℕ) → take (listed_bytes (leb 1 ranges) (length xs)) xs ++ take (listed_bytes (leb 2 ranges) (length ys)) ys ≡ term_lists ranges xs ys
unfolding listed_bytes term_lists whole_entries entry_count
lists_taken zero xs ys = refl
lists_taken (suc zero) xs ys = append-nil (take (4 * (length xs / 4)) xs)
lists_taken (suc (suc n)) xs ys = rw (le-leb 1 (suc (suc n)) (omega arith), le-leb 2 (suc (suc n)) (omega arith))

pub term_added : (b : Book) (t : NewTerm) (xs ys : List ℕ) {ranges k i j : ℕ} {r : List ℕ} → ranges ≡ ranges_of t.kind → k ≡ size b lists
    → IsTermRow ranges k t (length xs / 4) (length ys / 4) r → i ≡ listed_bytes (leb 1 ranges) (length xs) → j ≡ listed_bytes (leb 2 ranges) (length ys)
    → addition [] [] [] r [] (take i xs ++ take j ys) ≡ addition_of b (append_term t xs ys)
unfolding addition_of draft_of addition_from all_letters name_rows entry_count rows
term_added b t xs ys {ranges} {k} {i} {j} {r} er ek w ei ej =
    let is : r ≡ row (term_row (filled (ranges_of t.kind) (size b lists) t xs ys)) = rw (er, ek) at (w.is xs ys refl refl) in
    let all : take i xs ++ take j ys ≡ term_lists (ranges_of t.kind) xs ys = rw (ei, ej, er) (lists_taken (ranges_of t.kind) xs ys) in
    by_parts refl refl refl (one_row _ is) refl all

-- ---- the four
-- the text that is behind the other new letters
pub text_now : (o : code.Option (Bor Text)) (d : Bor Text) → d.now ≡ [] → (unwrap_or o d).now ≡ all_letters (new_text o)
unfolding all_letters
text_now None d e = e
text_now (Some t) d e = sym (append-nil t.now)

bare : (b : Book) (p t : ℕ) (trace : Option Text) → ([] ≡ rows (map constant_row (extend_draft b p t trace).constants)) × ([] ≡ rows (map term_row (extend_draft b p t trace).terms))
    × ([] ≡ (extend_draft b p t trace).lists)
unfolding extend_draft rows
bare b p t none = (refl, refl, refl)
bare b p t (some trace) = (refl, refl, refl)

pub extend_added : (b : Book) (p t : ℕ) (trace : Option Text) {k m : ℕ} {new : List Text} {P : NameParts} {x n r : List ℕ} → k ≡ size b letters → IsTraced b trace m new
    → AreParts k [] new P → x ≡ all_letters new → n ≡ P.rows.items → r ≡ row (p ∷ t ∷ m ∷ []) → addition x n [] [] r [] ≡ addition_of b (extend p t trace)
unfolding addition_of draft_of addition_from node_row
extend_added b p t trace {k} {m} {P = P} ek h parts ex en er =
    let none = bare b p t trace in
    let texts = h.texts p t in
    by_parts (ex ∙ ap all_letters texts) (en ∙ parts.rows ∙ ap rows (ap (name_rows k) texts ∙ ap (λ (z : ℕ). name_rows z (extend_draft b p t trace).texts) ek)) none.0 none.1
    (one_row (p ∷ t ∷ m ∷ []) er ∙ ap (λ (ns : List NewNode). rows (map node_row ns)) (h.number p t)) none.2

pub traced_some : (b : Book) (T : Bor Text) {N : Numbered} {o : code.Option (Bor Text)} → IsNamed b T.now [] N → o ≡ then_some N.new T
    → IsTraced b (maybe_text (Some T)) (N.number + 1) (new_text o)
unfolding maybe extend_draft
traced_some b T {N} h eo =
    let e : N.number + 1 ≡ suc (named b T.now []).number = add-one N.number ∙ ap suc h.number in
    record { number = λ p t. ap (λ (m : ℕ). new_node p t m ∷ []) e; texts = λ p t. handed_on N.new T eo ∙ sym h.texts }

pub traced_none : (b : Book) → IsTraced b (maybe_text None) 0 (new_text None)
unfolding maybe extend_draft
traced_none b = record { number = λ p t. refl; texts = λ p t. refl }

two_terms : (b : Book) (v k n m : ℕ) {r : List ℕ} → n ≡ m → k ≡ size b lists → r ≡ rows (map term_row (identifier v ∷ equality n k ∷ []))
    → r ≡ rows (map term_row (equality_terms b v m))
unfolding equality_terms
two_terms b v k n m en ek e = rw (← en, ← ek) e

pub equated_added : (b : Book) (p v t k l m : ℕ) {N : Numbered} {P : NameParts} {terms' node entries x ls n : List ℕ} → k ≡ size b letters → l ≡ size b lists → m ≡ size b terms
    → x ≡ equals → IsNamed b x [] N → AreParts k (optional N.new x) [] P → ls ≡ P.letters.items → n ≡ P.rows.items
    → terms' ≡ rows (map term_row (identifier v ∷ equality N.number l ∷ [])) → node ≡ row (p ∷ (m + 1) ∷ 0 ∷ []) → entries ≡ row (m ∷ t ∷ [])
    → addition (ls ++ []) n [] terms' node (entries ++ []) ≡ addition_of b (extend_with_equality p v t)
unfolding addition_of draft_of equality_draft addition_from node_row rows
equated_added b p v t k l m {N} {P} {terms'} {node} {entries} {x} {ls} ek el em ex hx parts ll nn et en ee =
    let h : IsNamed b equals [] N = rw ex at hx in
    let all : optional N.new x ≡ (named b equals []).texts = rw ex (sym h.texts) in
    let most : optional N.new x ++ [] ≡ (named b equals []).texts = append-nil (optional N.new x) ∙ all in
    by_parts (append-nil ls ∙ ll ∙ parts.letters ∙ ap all_letters all)
    (nn ∙ parts.rows ∙ ap rows (ap (name_rows k) most ∙ ap (λ (z : ℕ). name_rows z (named b equals []).texts) ek)) refl
    (two_terms b v l N.number (named b equals []).number h.number el et)
    (one_row (p ∷ suc (size b terms) ∷ 0 ∷ []) (en ∙ ap (λ (z : ℕ). row (p ∷ z ∷ 0 ∷ [])) (add-one m ∙ ap suc em)))
    (append-nil entries ∙ ee ∙ ap (λ (z : ℕ). row (z ∷ t ∷ [])) em)

-- Record and RecordTracePoint, with the probe's name: u, v and w are the texts that are handed on of the probe, `=` and the trace
pub probe_added : (b : Book) (probe : Text) (p typ k : ℕ) (t : Option ℕ) (trace : Option Text) {N : ProbeNames} {P : NameParts} {R : ProbeRows} {u v w : List Text} {x ls n ts : List ℕ} → k ≡ size b letters
    → AreNamed b probe trace N → u ≡ optional N.probe.new probe → v ≡ optional N.equals.new equals → w ≡ optional N.trace.new (get_or trace []) → AreParts k (u ++ v) w P → x ≡ all_letters w
    → AreRows b N p typ t R → ls ≡ P.letters.items → n ≡ P.rows.items → ts ≡ R.terms.items → addition (ls ++ x) n R.constant ts R.node (R.entries ++ []) ≡ addition_from b (probe_draft_by b probe p t typ trace)
unfolding addition_from probe_draft_by
probe_added b probe p typ k t trace {N} {P} {R} {u} {v} {w} {x} ek h eu ev ew parts ex rs ll nn tt' =
    let all : (u ++ v) ++ w ≡ (trace_named b probe trace).texts = rw (eu, ev, ew) (sym h.texts) in
    by_parts (ap (λ (l : List ℕ). l ++ x) (ll ∙ parts.letters) ∙ ap (λ (l : List ℕ). all_letters (u ++ v) ++ l) ex ∙ sym (letters_append (u ++ v) w) ∙ ap all_letters all)
    (nn ∙ parts.rows ∙ ap rows (ap (name_rows k) all ∙ ap (λ (z : ℕ). name_rows z (trace_named b probe trace).texts) ek))
    (rs.constant ∙ ap (λ (z : ℕ). rows (map constant_row (new_constant z typ ∷ []))) h.probe)
    (tt' ∙ rs.terms ∙ ap (λ (z : ℕ). rows (map term_row (probe_terms b z t))) h.equals)
    (rs.node ∙ ap (λ (z : ℕ). rows (map node_row (new_node p (probe_equality b t) (suc z) ∷ []))) h.trace)
    (append-nil R.entries ∙ rs.entries)

pub probe_whole : (b : Book) (probe : Text) (p typ : ℕ) (t : Option ℕ) (trace : Option Text) {a : Addition} → a ≡ addition_from b (probe_draft_by b probe p t typ trace) → Whole a
probe_whole b probe p typ t trace e = rw e (probe_draft_whole b probe p t typ trace)

-- what was handed over, as the code decided it
pub right_as : (b : Book) (a : Addition) (t : NewTerm) (xs ys : List ℕ) (n room : ℕ) {ranges : ℕ} {right : Bool} {r : Answer} {o o1 s s1 : List ℕ} → ranges ≡ ranges_of t.kind → right ≡ term_right ranges t xs ys
    → Appends (append_in b a right n room) r o o1 s s1 → Appends (append_in b a (term_right (ranges_of t.kind) t xs ys) n room) r o o1 s s1
right_as b a t xs ys n room er e x = rw (e, er) at x
