-- A book that passes refusal 2 is laid out from its own bodies.
use Prim.Native.Nat.{ℕ, zero, suc, ◌+◌, ◌*◌, ◌≤◌, ◌<◌}
use native.Mathlib.Nat.{mul-div_cancel_left}
use native.Mathlib.Omega.{arith}
use mathlib.Core.Path.{◌≡◌, refl, sym, ap, ◌∙◌}
use mathlib.Core.Bool.{true}
use mathlib.Core.List.{List, [], ◌∷◌, ◌++◌, append_assoc, append-nil}
use lib.Dec.{eqb, leb}
use lib.ListN.{length, get_or, take, drop, length-take, length-drop}
use lib.Seq.{drop-cons, drop-drop, take-add, take-length}
use borrow.Author.Tests.{eqb-true, leb-true}
use Rattle.basics.specs.Lists.{join_below}
use Rattle.basics.proofs.Bool.{and_both}
use Rattle.book.specs.Book.{Book, Section, letters, sections, contents_size, word, offset, size}
use Rattle.book.specs.Laid.{section_at, section_count}
use Rattle.book.proofs.Sections.{tabled}
use Rattle.book_contents.specs.Contents.{laid_from, laid_out}
use Rattle.basics.specs.Bytes.{bytes4}
use Rattle.book_layout.specs.Layout.{body, count_of, body_at, start_of, entry_of, assembled, Bytes}
use Rattle.book.proofs.Words.{bytes4_word}
use Rattle.book.proofs.EachSection.{size_positive}

module _ (b : Book) where
  four-at : (at : ℕ) → at + 4 ≤ length b → take 4 (drop at b) ≡ get_or b at 0 ∷ get_or b (at + 1) 0 ∷ get_or b (at + 2) 0 ∷ get_or b (at + 3) 0 ∷ []
  four-at at h =
      let e1 : at + 1 ≡ suc at = omega arith in
      let e2 : at + 2 ≡ suc (suc at) = omega arith in
      let e3 : at + 3 ≡ suc (suc (suc at)) = omega arith in
      rw (
        e1,
        e2,
        e3,
        drop-cons b at 0 (omega arith),
        drop-cons b (suc at) 0 (omega arith),
        drop-cons b (suc (suc at)) 0 (omega arith),
        drop-cons b (suc (suc (suc at))) 0 (omega arith),
      )

  from_fits : (at : ℕ) (ss : List Section) → laid_from b at ss ≡ true → at ≤ length b
  unfolding laid_from
  from_fits at [] h = omega (arith, eqb-true at (length b) h)
  from_fits at (s ∷ ss) h =
      let r = and_both (eqb (offset b s) at) (laid_from b (at + s.size * size b s) ss) h in
      omega (arith, from_fits (at + s.size * size b s) ss r.1)

  -- a section in its place
  record Placed (n : ℕ) : Type 0 where
    begins : offset b (section_at n) ≡ start_of (body b) n
    long : length (body b (section_at n)) ≡ (section_at n).size * size b (section_at n)
    stops : offset b (section_at n) + (section_at n).size * size b (section_at n) ≤ length b
    rest : laid_from b (start_of (body b) (suc n)) (drop (suc n) sections) ≡ true

  placed : (n : ℕ) → n < section_count → laid_from b (start_of (body b) n) (drop n sections) ≡ true → Placed n
  unfolding laid_from body start_of
  placed n known h =
      let s = section_at n in
      let at = start_of (body b) n in
      let r = and_both (eqb (offset b s) at) (laid_from b (at + s.size * size b s) (drop (suc n) sections)) (rw (drop-cons sections n letters known) at h) in
      let e : offset b s ≡ at = eqb-true (offset b s) at r.0 in
      let fits : at + s.size * size b s ≤ length b = from_fits (at + s.size * size b s) (drop (suc n) sections) r.1 in
      let long : length (take (s.size * size b s) (drop (offset b s) b)) ≡ s.size * size b s = simp (length-take, length-drop) (omega arith) in
      record { begins = e; long = long; stops = omega arith; rest = rw long r.1 }

  module _ (laid : laid_out b ≡ true) where
    contents_fit : contents_size ≤ length b
    unfolding laid_out
    contents_fit = leb-true contents_size (length b) (and_both (leb contents_size (length b)) (laid_from b contents_size sections) laid).0

    laid_at : (n : ℕ) → n ≤ section_count → laid_from b (start_of (body b) n) (drop n sections) ≡ true
    unfolding laid_out start_of
    laid_at zero h = (and_both (leb contents_size (length b)) (laid_from b contents_size sections) laid).1
    laid_at (suc n) h = (placed n h (laid_at n (omega arith))).rest

    ends : start_of (body b) section_count ≡ length b
    unfolding laid_from
    ends = eqb-true (start_of (body b) section_count) (length b) (laid_at section_count (omega arith))

    module _ (n : ℕ) (known : n < section_count) where
      pub body_begins : start_of (body b) n ≡ offset b (section_at n)
      body_begins = sym (placed n known (laid_at n (omega arith))).begins

      pub length_body : length (body b (section_at n)) ≡ (section_at n).size * size b (section_at n)
      length_body = (placed n known (laid_at n (omega arith))).long

      pub body_stops : offset b (section_at n) + (section_at n).size * size b (section_at n) ≤ length b
      body_stops = (placed n known (laid_at n (omega arith))).stops

      pub count_body : count_of (body b) (section_at n) ≡ size b (section_at n)
      unfolding count_of
      count_body = rw length_body (mul-div_cancel_left (size b (section_at n)) (size_positive n known))

    bodies_are : (n : ℕ) → n ≤ section_count → take contents_size b ++ join_below n (body_at (body b)) ≡ take (start_of (body b) n) b
    unfolding join_below start_of
    bodies_are zero h = append-nil (take contents_size b)
    bodies_are (suc n) h =
        let at = start_of (body b) n in
        let l = length (body b (section_at n)) in
        let here : body b (section_at n) ≡ take l (drop at b) = unfold body in rw (length_body n h, body_begins n h) in
        sym (append_assoc (take contents_size b) (join_below n (body_at (body b))) (body b (section_at n)))
        ∙ ap (λ (xs : List ℕ). xs ++ body b (section_at n)) (bodies_are n (omega arith))
        ∙ ap (λ (xs : List ℕ). take at b ++ xs) here
        ∙ sym (take-add at l b)

    module _ (B : Bytes b) where
      word_back : (at : ℕ) → at + 4 ≤ contents_size → bytes4 (word b at) ≡ take 4 (drop at b)
      word_back at h =
          let c = contents_fit in
          let low : (i : ℕ) → i < contents_size → get_or b i 0 < 256 = B.low in
          bytes4_word (get_or b at 0) (get_or b (at + 1) 0) (get_or b (at + 2) 0) (get_or b (at + 3) 0) (low at (omega arith)) (low (at + 1) (omega arith)) (low (at + 2) (omega arith)) (low (at + 3) (omega arith))
          ∙ sym (four-at at (omega arith))

      entry_is : (n : ℕ) → n < section_count → entry_of (body b) n ≡ take 8 (drop (8 * n) b)
      unfolding entry_of offset size
      entry_is n known =
          let first : start_of (body b) n ≡ word b (8 * n) = rw (body_begins n known, (tabled n known).number) in
          let second : count_of (body b) (section_at n) ≡ word b (8 * n + 4) = rw (count_body n known, (tabled n known).number) in
          let whole : take 8 (drop (8 * n) b) ≡ take 4 (drop (8 * n) b) ++ take 4 (drop 4 (drop (8 * n) b)) = take-add 4 4 (drop (8 * n) b) in
          rw (first, second, whole, drop-drop 4 (8 * n) b, word_back (8 * n) (omega arith), word_back (8 * n + 4) (omega arith))

      entries_are : (n : ℕ) → n ≤ section_count → join_below n (entry_of (body b)) ≡ take (8 * n) b
      unfolding join_below
      entries_are zero h = refl
      entries_are (suc n) h =
          let e : 8 * suc n ≡ 8 * n + 8 = omega arith in
          rw (e, take-add (8 * n) 8 b, entries_are n (omega arith), entry_is n h)

      pub assembled_body : assembled (body b) ≡ b
      unfolding assembled
      assembled_body =
          rw (entries_are section_count (omega arith), bodies_are section_count (omega arith), ends) (take-length b)
