-- A book that is laid out from its bodies: where each stands, and what the readers give.
use Prim.Native.Nat.{ℕ, zero, suc, ◌+◌, ◌*◌, ◌≤◌, ◌<◌}
use native.Mathlib.Nat.{mul-le-mul_left, mul-le-mul_right, mul-suc, zero-add}
use native.Mathlib.Omega.{arith}
use mathlib.Core.Path.{◌≡◌, refl, ◌∙◌}
use lib.ListN.{length, get_or, take, drop, length-append}
use lib.Seq.{take-length}
use Rattle.basics.specs.Lists.{join_below}
use Rattle.book.specs.Book.{letters, names, lists, contents_size, word, offset, size, field, entries, letter, name_text}
use Rattle.book.specs.Laid.{section_at, section_count}
use Rattle.book.proofs.Sections.{tabled}
use Rattle.basics.specs.Bytes.{bytes4}
use Rattle.book_layout.specs.Layout.{Bodies, body, count_of, body_at, start_of, entry_of, assembled, field_in, entries_in, text_in, Fits}
use Rattle.book.proofs.Words.{length_bytes4, word_bytes4}
use Rattle.book.proofs.EachSection.{size_positive}
use Rattle.book_layout.proofs.Stands.{Stands, stands_fits, stands_at, stands_word, stands_part, stands_left, stands_right, stands_inner, stands_first, stands_second, stands_join}

module _ (f : Bodies) where
  length_entry : (n : ℕ) → length (entry_of f n) ≡ 8
  unfolding entry_of
  length_entry n = length-append (bytes4 (start_of f n)) (bytes4 (count_of f (section_at n))) ∙ omega (arith, length_bytes4 (start_of f n), length_bytes4 (count_of f (section_at n)))

  pub length_entries : (n : ℕ) → length (join_below n (entry_of f)) ≡ 8 * n
  unfolding join_below
  length_entries zero = refl
  length_entries (suc n) = length-append (join_below n (entry_of f)) (entry_of f n) ∙ omega (arith, length_entry n, length_entries n)

  length_bodies : (n : ℕ) → contents_size + length (join_below n (body_at f)) ≡ start_of f n
  unfolding join_below start_of
  length_bodies zero = refl
  length_bodies (suc n) = omega (arith, length-append (join_below n (body_at f)) (body_at f n), length_bodies n)

  pub length_assembled : length (assembled f) ≡ start_of f section_count
  unfolding assembled
  length_assembled =
      length-append (join_below section_count (entry_of f)) (join_below section_count (body_at f))
      ∙ omega (arith, length_entries section_count, length_bodies section_count)

  pub start_steps : (n m : ℕ) → start_of f n ≤ start_of f (m + n)
  unfolding start_of
  start_steps n zero = let e : 0 + n ≡ n = zero-add n in rw e (omega arith)
  start_steps n (suc m) = let e : suc m + n ≡ suc (m + n) = omega arith in rw e (omega (arith, start_steps n m))

  module _ (n : ℕ) (known : n < section_count) where
    -- a section's line, and its body
    entry_stands : Stands (assembled f) (8 * n) (entry_of f n)
    unfolding assembled
    entry_stands = rw (length_entries n) at (stands_left (stands_join section_count (entry_of f) n known) (join_below section_count (body_at f)))

    pub body_stands : Stands (assembled f) (start_of f n) (body_at f n)
    unfolding assembled
    body_stands =
        let e : length (join_below section_count (entry_of f)) + length (join_below n (body_at f)) ≡ start_of f n = omega (arith, length_entries section_count, length_bodies n) in
        rw e at (stands_right (stands_join section_count (body_at f) n known) (join_below section_count (entry_of f)))

module _ (f : Bodies) (F : Fits f) where
  module _ (n : ℕ) (known : n < section_count) where
    ends_within : start_of f n + length (body_at f n) ≤ start_of f section_count
    ends_within = omega (arith, stands_fits (body_stands f n known), length_assembled f)

    count-within : count_of f (section_at n) ≤ length (body_at f n)
    count-within = omega (arith, F.whole n known, mul-le-mul_right (count_of f (section_at n)) (size_positive n known))

    pub offset_assembled : offset (assembled f) (section_at n) ≡ start_of f n
    unfolding offset entry_of
    offset_assembled =
        let first = stands_inner (entry_stands f n known) (stands_first (bytes4 (start_of f n)) (bytes4 (count_of f (section_at n)))) in
        let here : word (assembled f) (8 * n + 0 + 0) ≡ word (bytes4 (start_of f n)) 0 = stands_word first 0 (omega (arith, length_bytes4 (start_of f n))) in
        let e : 8 * (section_at n).number ≡ 8 * n + 0 + 0 = omega (arith, (tabled n known).number) in
        rw e (here ∙ word_bytes4 (start_of f n) (omega (arith, F.small, ends_within)))

    pub size_assembled : size (assembled f) (section_at n) ≡ count_of f (section_at n)
    unfolding size entry_of
    size_assembled =
        let c = count_of f (section_at n) in
        let second = stands_inner (entry_stands f n known) (stands_second (bytes4 (start_of f n)) (bytes4 c)) in
        let here : word (assembled f) (8 * n + length (bytes4 (start_of f n)) + 0) ≡ word (bytes4 c) 0 = stands_word second 0 (omega (arith, length_bytes4 c)) in
        let e : 8 * (section_at n).number + 4 ≡ 8 * n + length (bytes4 (start_of f n)) + 0 = omega (arith, (tabled n known).number, length_bytes4 (start_of f n)) in
        rw e (here ∙ word_bytes4 c (omega (arith, F.small, ends_within, count-within)))

    pub field_assembled : (k i : ℕ) → k < count_of f (section_at n) → 4 * i + 4 ≤ (section_at n).size → field (assembled f) (section_at n) k i ≡ field_in (body_at f n) (section_at n) k i
    unfolding field field_in
    field_assembled k i h w =
        let s = section_at n in
        let m : s.size * suc k ≤ s.size * count_of f s = mul-le-mul_left s.size h in
        let e : start_of f n + s.size * k + 4 * i ≡ start_of f n + (s.size * k + 4 * i) = omega arith in
        rw (offset_assembled, e) (stands_word (body_stands f n known) (s.size * k + 4 * i) (omega (arith, m, mul-suc s.size k, F.whole n known, w)))

    pub body_assembled : body (assembled f) (section_at n) ≡ body_at f n
    unfolding body
    body_assembled =
        let l = length (body_at f n) in
        let here : take l (drop (start_of f n + 0) (assembled f)) ≡ take l (body_at f n) = stands_part (body_stands f n known) 0 l (omega arith) in
        let e : start_of f n + 0 ≡ start_of f n = omega arith in
        rw (offset_assembled, size_assembled, ← (F.whole n known)) ((rw e at here) ∙ take-length (body_at f n))

    -- a section's records end within the book
    pub body_ends : offset (assembled f) (section_at n) + (section_at n).size * size (assembled f) (section_at n) ≤ length (assembled f)
    body_ends = rw (offset_assembled, size_assembled) (omega (arith, F.whole n known, stands_fits (body_stands f n known)))

  pub letter_assembled : (i : ℕ) → i < count_of f letters → letter (assembled f) i ≡ get_or (f letters) i 0
  unfolding letter
  letter_assembled i h = rw (offset_assembled 0 (omega arith)) (stands_at (body_stands f 0 (omega arith)) i (omega (arith, F.whole 0 (omega arith))))

  pub entries_assembled : (start count : ℕ) → start + count ≤ count_of f lists → entries (assembled f) start count ≡ entries_in (f lists) start count
  unfolding entries entries_in field_in
  entries_assembled start zero h = refl
  entries_assembled start (suc count) h =
      let e : 4 * start + 4 * 0 ≡ 4 * start = omega arith in
      let here : field (assembled f) lists start 0 ≡ word (f lists) (4 * start) = rw e at (field_assembled 9 (omega arith) start 0 (omega arith) (omega arith)) in
      rw (here, entries_assembled (suc start) count (omega arith))

  -- a part of the letters
  pub letters_part : (start count : ℕ) → start + count ≤ length (f letters) → text_in (assembled f) (offset (assembled f) letters + start) count ≡ text_in (f letters) start count
  letters_part start count h = rw (offset_assembled 0 (omega arith)) (stands_part (body_stands f 0 (omega arith)) start count h)

  pub name_assembled : (k : ℕ) → k < count_of f names → field_in (f names) names k 0 + field_in (f names) names k 1 ≤ count_of f letters
      → name_text (assembled f) k ≡ text_in (f letters) (field_in (f names) names k 0) (field_in (f names) names k 1)
  unfolding name_text
  name_assembled k h w =
      rw (field_assembled 1 (omega arith) k 0 h (omega arith), field_assembled 1 (omega arith) k 1 h (omega arith))
      (letters_part (field_in (f names) names k 0) (field_in (f names) names k 1) (omega (arith, F.whole 0 (omega arith))))
