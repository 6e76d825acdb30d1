-- The names that a draft appends: each has its text in the new book, and the old ones keep theirs.
use Prim.Native.Nat.{ℕ, zero, suc, ◌+◌, ◌-◌, ◌^◌, ◌≤◌, ◌<◌}
use native.Mathlib.Omega.{arith}
use native.Mathlib.Decide.{dec_lt}
use mathlib.Core.Path.{◌≡◌, refl, sym, ap, ◌∙◌}
use mathlib.Core.List.{List, [], ◌∷◌, ◌++◌}
use lib.ListN.{length, get_or, take, drop, length-append, get_or-append}
use lib.Seq.{take_all, get_or-append-add}
use Rattle.basics.specs.Text.{Text}
use Rattle.basics.proofs.Counting.{up_at}
use Rattle.book.specs.Book.{Book, letters, names, size, field, name_text}
use Rattle.book_layout.specs.Layout.{count_of, field_in, text_in}
use Rattle.book_layout.proofs.Stands.{Stands, stands_first, stands_right, stands_fits, stands_part}
use Rattle.book_layout.proofs.Rows.{field_at}
use Rattle.book_growth.specs.Growth.{added}
use Rattle.book_growth.proofs.Grown.{size_grown, field_added}
use Rattle.book_growth.proofs.Added.{letters_added, name_empty, name_added}
use Rattle.book_growth.proofs.GrownProgram.{grown_name}
use Rattle.name_search.specs.Names.{texts}
use Rattle.name_search.proofs.Searching.{texts_length}
use Rattle.new_records.specs.Drafts.{Draft, range_start, name_row, name_rows, all_letters, addition_from}
use Rattle.new_records.proofs.Parts.{range_some}
use Rattle.book_writer.proofs.Recorded.{every_name}
use Rattle.writer_bodies.proofs.Drafted.{book_with, Grew, old_laid, new_promise, names_new}

-- ---- text k of a list: where its letters begin among all, and its row
unfoldable start : List Text → ℕ → ℕ
start [] k = 0
start (t ∷ ts) zero = 0
start (t ∷ ts) (suc k) = length t + start ts k

letters_stand : (ts : List Text) (k : ℕ) → k < length ts → Stands (all_letters ts) (start ts k) (get_or ts k [])
unfolding start all_letters
letters_stand [] k h = absurd (omega arith)
letters_stand (t ∷ ts) zero h = stands_first t (all_letters ts)
letters_stand (t ∷ ts) (suc k) h = stands_right (letters_stand ts k (omega arith)) t

row_is : (behind : ℕ) (ts : List Text) (k : ℕ) → k < length ts → get_or (name_rows behind ts) k [] ≡ name_row (behind + start ts k) (length (get_or ts k []))
unfolding start name_rows
row_is behind [] k h = absurd (omega arith)
row_is behind (t ∷ ts) zero h = let e : behind + 0 ≡ behind = omega arith in rw e
row_is behind (t ∷ ts) (suc k) h =
    let e : behind + length t + start ts k ≡ behind + (length t + start ts k) = omega arith in
    rw e at (row_is (behind + length t) ts k (omega arith))

rows-length : (behind : ℕ) (ts : List Text) → length (name_rows behind ts) ≡ length ts
unfolding name_rows
rows-length behind [] = refl
rows-length behind (t ∷ ts) = ap suc (rows-length (behind + length t) ts)

pub range_low : (behind n : ℕ) → range_start behind n ≤ behind
unfolding range_start
range_low behind zero = omega arith
range_low behind (suc n) = omega arith

empty : (t : Text) → length t ≡ 0 → t ≡ []
empty [] e = refl
empty (x ∷ t) e = absurd (omega arith)

part_whole : {xs t : Text} {n : ℕ} → Stands xs n t → text_in xs n (length t) ≡ t
part_whole {xs} {t} {n} s =
    let e : n + 0 ≡ n = omega arith in
    let p : take (length t) (drop (n + 0) xs) ≡ take (length t) t = stands_part s 0 (length t) (omega arith) in
    (rw e at p) ∙ take_all (length t) t (omega arith)

-- text t stands at n of a list
pub record At (t : Text) (ts : List Text) (n : ℕ) : Type 0 where
  pub below : n < length ts
  pub here : get_or ts n [] ≡ t

module _ (b : Book) (d : Draft) (G : Grew b d) where
  -- how many letters there are then
  letters_few : size b letters + length (all_letters d.texts) ≤ 8192
  unfolding addition_from
  letters_few =
      omega (
        arith,
        size_grown b (addition_from b d) (old_laid b d G) G.whole G.within 0 (omega arith),
        letters_added (addition_from b d) 0,
        (new_promise b d G).letters_laid.few,
      )

  pub texts_new : size (book_with b d) names ≡ size b names + length d.texts
  texts_new = names_new b d G ∙ ap (λ (n : ℕ). size b names + n) (rows-length (size b letters) d.texts)

  module _ (k : ℕ) (h : k < length d.texts) where
    row_field : (i : ℕ) → i < 2 → get_or (name_row (size b letters + start d.texts k) (length (get_or d.texts k []))) i 0 < 2 ^ 32
        → field_in (addition_from b d).names names k i ≡ get_or (name_row (size b letters + start d.texts k) (length (get_or d.texts k []))) i 0
    unfolding addition_from
    row_field i l low =
        let ts = d.texts in
        let is = row_is (size b letters) ts k h in
        field_at names 2 refl (every_name (size b letters) ts) k i (omega (arith, rows-length (size b letters) ts)) l (rw is low) ∙ ap (λ (r : List ℕ). get_or r i 0) is

    fits : start d.texts k + length (get_or d.texts k []) ≤ length (all_letters d.texts)
    fits = stands_fits (letters_stand d.texts k h)

    start_field : field_in (addition_from b d).names names k 0 ≡ range_start (size b letters + start d.texts k) (length (get_or d.texts k []))
    unfolding name_row
    start_field = row_field 0 (omega arith) (omega (arith, letters_few, fits, range_low (size b letters + start d.texts k) (length (get_or d.texts k []))))

    count_field : field_in (addition_from b d).names names k 1 ≡ length (get_or d.texts k [])
    unfolding name_row
    count_field = row_field 1 (omega arith) (omega (arith, letters_few, fits))

    here_new : k < count_of (added (addition_from b d)) names
    here_new = omega (arith, texts_new, size_grown b (addition_from b d) (old_laid b d G) G.whole G.within 1 (omega arith))

    -- an empty name starts at 0, another behind the letters before it
    new-name : name_text (book_with b d) (size b names + k) ≡ get_or d.texts k []
    unfolding addition_from added
    new-name = by (dec_lt 0 (length t))
      where
        t : Text
        t = get_or d.texts k []

        by : Dec (0 < length t) → name_text (book_with b d) (size b names + k) ≡ t
        by (no l) =
            let e : length t ≡ 0 = omega arith in
            let f : field (book_with b d) names (size b names + k) 1 ≡ 0 =
            field_added b (addition_from b d) (old_laid b d G) G.whole G.within 1 (omega arith) k 1 here_new (omega arith) ∙ count_field ∙ e in
            name_empty (book_with b d) (size b names + k) f ∙ sym (empty t e)
        by (yes l) =
            name_added b (addition_from b d) (old_laid b d G) G.whole G.within k (start d.texts k) (length t) here_new
            (start_field ∙ sym (range_some (size b letters + start d.texts k) (length t) (λ e. omega arith))) count_field fits
            ∙ part_whole (letters_stand d.texts k h)

  -- the names of the new book
  module _ {t : Text} {n : ℕ} (a : At t (texts b ++ d.texts) n) where
    at_below : n < size b names + length d.texts
    at_below = omega (arith, a.below, length-append (texts b) d.texts, texts_length b)

    pub name_low : n < 512
    name_low = omega (arith, at_below, texts_new, (new_promise b d G).names_laid.few)

    pub name_at : name_text (book_with b d) n ≡ t
    unfolding texts
    name_at = by (dec_lt n (size b names))
      where
        by : Dec (n < size b names) → name_text (book_with b d) n ≡ t
        by (yes l) =
            grown_name b (addition_from b d) G.before G.whole G.within n l ∙ sym (up_at (name_text b) [] (size b names) n l)
            ∙ sym (get_or-append (texts b) d.texts [] n (omega (arith, texts_length b))) ∙ a.here
        by (no l) =
            let k = n - size b names in
            let e : n ≡ size b names + k = omega arith in
            let f : length (texts b) + k ≡ n = omega (arith, texts_length b) in
            ap (name_text (book_with b d)) e ∙ new-name k (omega (arith, at_below)) ∙ sym (get_or-append-add (texts b) d.texts k [])
            ∙ ap (λ (m : ℕ). get_or (texts b ++ d.texts) m []) f ∙ a.here
