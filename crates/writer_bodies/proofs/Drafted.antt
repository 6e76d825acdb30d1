-- A book that grew by a draft: what its new records hold, section by section.
use Prim.Native.Nat.{ℕ, ◌+◌, ◌*◌, ◌^◌, ◌<◌}
use native.Mathlib.Nat.{mul-div_cancel_left}
use native.Mathlib.Omega.{arith}
use mathlib.Core.Path.{◌≡◌, refl, sym, ap, ◌∙◌}
use mathlib.Core.Bool.{true}
use mathlib.Core.List.{List, [], map}
use lib.ListN.{length, get_or, length-map}
use Rattle.basics.specs.Bytes.{rows}
use Rattle.basics.specs.Outcome.{accepted}
use Rattle.basics.proofs.All.{All, end}
use Rattle.book.specs.Book.{Book, Section, letters, names, types, constants, functions, patterns, terms, contexts, size, field}
use Rattle.book.specs.Decode.{term}
use Rattle.book.specs.Laid.{section_at, section_count}
use Rattle.book_contents.specs.Contents.{laid_out}
use Rattle.book_test.specs.BookTest.{book_test}
use Rattle.book_test.specs.Promise.{Promise}
use Rattle.book_test.proofs.Outcomes.{test_passed}
use Rattle.book_test.proofs.Promise.{promise}
use Rattle.book_layout.specs.Layout.{count_of}
use Rattle.book.proofs.EachSection.{size_positive}
use Rattle.book_layout.proofs.Rows.{length_rows, field_at}
use Rattle.book_growth.specs.Growth.{added, grown, Whole, grows_within}
use Rattle.book_growth.proofs.Grown.{size_grown, field_added, grown_kept}
use Rattle.book_test.specs.Kept.{Kept}
use Rattle.book_test.proofs.KeptTerms.{term_kept}
use Rattle.new_records.specs.Drafts.{Draft, name_rows, constant_row, term_row, node_row, addition_from}
use Rattle.book_writer.proofs.Recorded.{every_row, every_name}

abbrev pub book_with : Book → Draft → Book
book_with b d = grown b (addition_from b d)

pub record Grew (b : Book) (d : Draft) : Type 0 where
  pub before : book_test b ≡ accepted tt
  pub whole : Whole (addition_from b d)
  pub within : grows_within b (addition_from b d) ≡ true
  pub after : book_test (book_with b d) ≡ accepted tt

-- record m of section s stands behind those of b, and is row r of the new rows
pub record NewRow (b : Book) (s : Section) (rs : List (List ℕ)) (m : ℕ) (r : List ℕ) : Type 0 where
  pub k : ℕ
  pub here : k < length rs
  pub place : m ≡ size b s + k
  pub is : get_or rs k [] ≡ r

module _ (b : Book) (d : Draft) (G : Grew b d) where
  pub old_laid : laid_out b ≡ true
  old_laid = (test_passed b G.before).laid

  pub kept : Kept b (book_with b d)
  kept = grown_kept b (addition_from b d) old_laid G.whole G.within

  pub old_promise : Promise b
  old_promise = promise b G.before

  pub new_promise : Promise (book_with b d)
  new_promise = promise (book_with b d) G.after

  pub old_term : (t : ℕ) → t < size b terms → term (book_with b d) t ≡ term b t
  old_term = term_kept b (book_with b d) old_promise kept

  -- a section whose new records are these rows
  module _ (n : ℕ) (known : n < section_count) (width : ℕ) (sized : (section_at n).size ≡ 4 * width) (rs : List (List ℕ))
      (are : added (addition_from b d) (section_at n) ≡ rows rs) (wide : All (λ (r : List ℕ). length r ≡ width) rs) where
    new_count : count_of (added (addition_from b d)) (section_at n) ≡ length rs
    unfolding count_of
    new_count =
        let l : length (added (addition_from b d) (section_at n)) ≡ (section_at n).size * length rs =
        ap length are ∙ length_rows width wide ∙ ap (λ (z : ℕ). z * length rs) (sym sized) in
        rw l (mul-div_cancel_left (length rs) (size_positive n known))

    new_size : size (book_with b d) (section_at n) ≡ size b (section_at n) + length rs
    new_size = size_grown b (addition_from b d) old_laid G.whole G.within n known ∙ ap (λ (z : ℕ). size b (section_at n) + z) new_count

    new_field : {m : ℕ} {r : List ℕ} → NewRow b (section_at n) rs m r → (i : ℕ) → i < width → get_or r i 0 < 2 ^ 32 → field (book_with b d) (section_at n) m i ≡ get_or r i 0
    new_field {m} {r} R i l low =
        let e : (section_at n).size ≡ 4 * width = sized in
        let low' : get_or (get_or rs R.k []) i 0 < 2 ^ 32 = rw R.is low in
        ap (λ (z : ℕ). field (book_with b d) (section_at n) z i) R.place
        ∙ field_added b (addition_from b d) old_laid G.whole G.within n known R.k i (omega (arith, new_count, R.here)) (omega arith)
        ∙ rw are (field_at (section_at n) width sized wide R.k i R.here l low')
        ∙ ap (λ (z : List ℕ). get_or z i 0) R.is

  -- types, functions and patterns are never appended
  unchanged : (n : ℕ) → n < section_count → (width : ℕ) → (section_at n).size ≡ 4 * width → added (addition_from b d) (section_at n) ≡ []
      → size (book_with b d) (section_at n) ≡ size b (section_at n)
  unfolding rows
  unchanged n known width sized e = new_size n known width sized [] e end ∙ omega arith

  pub types_new : size (book_with b d) types ≡ size b types
  unfolding added
  types_new = unchanged 2 (omega arith) 1 refl refl

  pub functions_new : size (book_with b d) functions ≡ size b functions
  unfolding added
  functions_new = unchanged 4 (omega arith) 6 refl refl

  pub patterns_new : size (book_with b d) patterns ≡ size b patterns
  unfolding added
  patterns_new = unchanged 6 (omega arith) 2 refl refl

  pub names_new : size (book_with b d) names ≡ size b names + length (name_rows (size b letters) d.texts)
  unfolding added addition_from
  names_new = new_size 1 (omega arith) 2 refl (name_rows (size b letters) d.texts) refl (every_name (size b letters) d.texts)

  pub constants_new : size (book_with b d) constants ≡ size b constants + length d.constants
  unfolding added addition_from constant_row
  constants_new =
      new_size 3 (omega arith) 2 refl (map constant_row d.constants) refl (every_row 2 constant_row (λ v. refl) d.constants)
      ∙ ap (λ (z : ℕ). size b constants + z) (length-map d.constants constant_row)

  pub contexts_new : size (book_with b d) contexts ≡ size b contexts + length d.nodes
  unfolding added addition_from node_row
  contexts_new =
      new_size 8 (omega arith) 3 refl (map node_row d.nodes) refl (every_row 3 node_row (λ v. refl) d.nodes)
      ∙ ap (λ (z : ℕ). size b contexts + z) (length-map d.nodes node_row)

  module _ {m : ℕ} {r : List ℕ} where
    pub constant_field : NewRow b constants (map constant_row d.constants) m r → (i : ℕ) → i < 2 → get_or r i 0 < 2 ^ 32 → field (book_with b d) constants m i ≡ get_or r i 0
    unfolding added addition_from constant_row
    constant_field = new_field 3 (omega arith) 2 refl (map constant_row d.constants) refl (every_row 2 constant_row (λ v. refl) d.constants)

    pub term_field : NewRow b terms (map term_row d.terms) m r → (i : ℕ) → i < 7 → get_or r i 0 < 2 ^ 32 → field (book_with b d) terms m i ≡ get_or r i 0
    unfolding added addition_from term_row
    term_field = new_field 7 (omega arith) 7 refl (map term_row d.terms) refl (every_row 7 term_row (λ v. refl) d.terms)

    pub term_below : NewRow b terms (map term_row d.terms) m r → m < size (book_with b d) terms
    unfolding added addition_from term_row
    term_below R = omega (arith, R.place, R.here, new_size 7 (omega arith) 7 refl (map term_row d.terms) refl (every_row 7 term_row (λ v. refl) d.terms))

    pub node_field : NewRow b contexts (map node_row d.nodes) m r → (i : ℕ) → i < 3 → get_or r i 0 < 2 ^ 32 → field (book_with b d) contexts m i ≡ get_or r i 0
    unfolding added addition_from node_row
    node_field = new_field 8 (omega arith) 3 refl (map node_row d.nodes) refl (every_row 3 node_row (λ v. refl) d.nodes)
