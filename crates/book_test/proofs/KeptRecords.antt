-- Two books, the second with every record of the first: names, ranges, types, constants, functions and literals are the same.
use Prim.Native.Nat.{ℕ, zero, suc, ◌+◌, ◌*◌, ◌≤◌, ◌<◌}
use native.Mathlib.Omega.{arith}
use mathlib.Core.Path.{◌≡◌, refl, sym, ◌∙◌}
use lib.ListN.{length, take, drop, length-take, length-drop}
use lib.Seq.{get_or-take, get_or-drop, ext_get_or}
use Rattle.basics.proofs.All.{map_agree}
use Rattle.book.specs.Book.{Book, letters, names, types, constants, functions, terms, lists, offset, size, field, entries, letter, name_text, user_types}
use Rattle.book.specs.Decode.{type_of, constant_of, function_of, literal_of, trace_of}
use Rattle.book_test.specs.Promise.{GoodLiteral, Promise}
use Rattle.book_test.proofs.Entries.{entries_each}
use Rattle.book_test.specs.Kept.{Kept}

module _ (b c : Book) (P : Promise b) (K : Kept b c) where
  text_kept : (start count : ℕ) → start + count ≤ size b letters → take count (drop (offset c letters + start) c) ≡ take count (drop (offset b letters + start) b)
  unfolding letter
  text_kept start count h =
      let in_b : offset b letters + 1 * size b letters ≤ length b = P.letters_laid.whole in
      let in_c : offset c letters + size c letters ≤ length c = K.letters_laid in
      let more : size b letters ≤ size c letters = K.counts 0 (omega arith) in
      let lc : length (take count (drop (offset c letters + start) c)) ≡ count = simp (length-take, length-drop) (omega arith) in
      let lb : length (take count (drop (offset b letters + start) b)) ≡ count = simp (length-take, length-drop) (omega arith) in
      ext_get_or 0 (take count (drop (offset c letters + start) c)) (take count (drop (offset b letters + start) b)) (lc ∙ sym lb) λ i l.
      let low : i < count = omega arith in
      let ec : offset c letters + start + i ≡ offset c letters + (start + i) = omega arith in
      let eb : offset b letters + start + i ≡ offset b letters + (start + i) = omega arith in
      rw (
        get_or-take count (drop (offset c letters + start) c) i 0 low,
        get_or-take count (drop (offset b letters + start) b) i 0 low,
        get_or-drop (offset c letters + start) c i 0,
        get_or-drop (offset b letters + start) b i 0,
        ec,
        eb,
      ) (K.letter (start + i) (omega arith))

  pub name_text_kept : (n : ℕ) → n < size b names → name_text c n ≡ name_text b n
  unfolding name_text
  name_text_kept n h =
      rw (K.fields 1 (omega arith) n 0 h (omega arith), K.fields 1 (omega arith) n 1 h (omega arith))
      (text_kept (field b names n 0) (field b names n 1) (P.name n h).ends)

  pub entries_kept : (start count : ℕ) → start + count ≤ size b lists → entries c start count ≡ entries b start count
  unfolding entries
  entries_kept start zero h = refl
  entries_kept start (suc count) h = rw (K.fields 9 (omega arith) start 0 (omega arith) (omega arith), entries_kept (suc start) count (omega arith))

  pub type_of_kept : (k : ℕ) → k < user_types + size b types → type_of c k ≡ type_of b k
  unfolding type_of
  type_of_kept zero h = refl
  type_of_kept (suc zero) h = refl
  type_of_kept (suc (suc k)) h =
      let l : k < size b types = omega arith in
      rw (K.fields 2 (omega arith) k 0 l (omega arith), name_text_kept (field b types k 0) (P.type_name k l))

  pub constant_of_kept : (k : ℕ) → k < size b constants → constant_of c k ≡ constant_of b k
  unfolding constant_of
  constant_of_kept k h =
      let G = P.constant k h in
      rw (
        K.fields 3 (omega arith) k 0 h (omega arith),
        K.fields 3 (omega arith) k 1 h (omega arith),
        name_text_kept (field b constants k 0) G.name,
        type_of_kept (field b constants k 1) G.typ,
      )

  pub function_of_kept : (k : ℕ) → k < size b functions → function_of c k ≡ function_of b k
  unfolding function_of
  function_of_kept k h =
      let G = P.function k h in
      let inputs = entries_each b (λ t. t < user_types + size b types) (field b functions k 2) (field b functions k 3) G.input_types.below in
      rw (
        K.fields 4 (omega arith) k 0 h (omega arith),
        K.fields 4 (omega arith) k 1 h (omega arith),
        K.fields 4 (omega arith) k 2 h (omega arith),
        K.fields 4 (omega arith) k 3 h (omega arith),
        K.fields 4 (omega arith) k 4 h (omega arith),
        K.fields 4 (omega arith) k 5 h (omega arith),
        name_text_kept (field b functions k 0) G.name,
        type_of_kept (field b functions k 1) G.typ,
        entries_kept (field b functions k 2) (field b functions k 3) G.input_types.ends,
        entries_kept (field b functions k 4) (field b functions k 5) G.explained_by.ends,
        map_agree (λ t. t < user_types + size b types) (type_of c) (type_of b) type_of_kept inputs,
      )

  pub literal_of_kept : (t : ℕ) → t < size b terms → GoodLiteral b t → literal_of c t ≡ literal_of b t
  unfolding literal_of
  literal_of_kept t h G =
      rw (
        K.fields 7 (omega arith) t 1 h (omega arith),
        K.fields 7 (omega arith) t 2 h (omega arith),
        name_text_kept (field b terms t 1) G.name,
        type_of_kept (field b terms t 2) G.typ,
      )

  pub trace_of_kept : (k : ℕ) → k ≤ size b names → trace_of c k ≡ trace_of b k
  unfolding trace_of
  trace_of_kept zero h = refl
  trace_of_kept (suc k) h = rw (name_text_kept k h)
