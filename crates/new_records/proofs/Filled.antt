-- Rows of fields that are written one behind the other.
use Prim.Native.Nat.{ℕ, ◌+◌, ◌*◌, ◌<◌}
use native.Mathlib.Numerals.{add-one}
use native.Mathlib.Omega.{arith}
use mathlib.Core.Path.{◌≡◌, refl, sym, ◌∙◌}
use mathlib.Core.List.{List, [], ◌∷◌, ◌++◌, map, append_assoc, append-nil}
use lib.ListN.{length, take, get_or}
use lib.Seq.{take-suc, take_all}
use Rattle.basics.specs.Bytes.{bytes4, row, rows}
use Rattle.basics.specs.Write.{MOST, WroteAt}
use Rattle.basics.proofs.Places.{at_then, at_none, at_as, at_whole}
use Rattle.book.proofs.Words.{length_row}
use Rattle.new_records.specs.Drafts.{identifier, equality, term_row}

row_append : (xs ys : List ℕ) → row (xs ++ ys) ≡ row xs ++ row ys
unfolding row
row_append [] ys = refl
row_append (x ∷ xs) ys = rw (row_append xs ys) (sym (append_assoc (bytes4 x) (row xs) (row ys)))

row_one : (x : ℕ) → row (x ∷ []) ≡ bytes4 x
unfolding row
row_one x = append-nil (bytes4 x)

-- the first n fields are written
pub record Begun (fields : List ℕ) (o o' : List ℕ) (at n : ℕ) : Type 0 where
  pub wrote : WroteAt (row (take n fields)) 0 o o' at
  pub long : length o' ≡ length o

pub begun : (fields o : List ℕ) → Begun fields o o 0 0
unfolding row
begun fields o = record { wrote = at_none 0 o (omega arith); long = refl }

module _ {fields o o1 : List ℕ} {at n : ℕ} (B : Begun fields o o1 at n) where
  pub begun_more : {o2 : List ℕ} {r : ℕ} → n < length fields → length o < MOST + 1 → length o2 ≡ length o1 → WroteAt (bytes4 (get_or fields n 0)) at o1 o2 r → Begun fields o o2 r (n + 1)
  begun_more known short kept w =
      record {
        wrote = rw (add-one n, take-suc fields n 0 known, row_append (take n fields) (get_or fields n 0 ∷ []), row_one (get_or fields n 0)) (at_then short B.wrote w);
        long = kept ∙ B.long;
      }

  pub begun_all : length fields ≡ n → length o ≡ 4 * length fields → o1 ≡ row fields
  begun_all e long =
      let all : take n fields ≡ fields = take_all n fields (omega arith) in
      at_whole (rw all at B.wrote) (length_row fields ∙ sym long)

-- the two terms of an equality
pub equality_filled : (v o e : ℕ) {i j x o1 q : List ℕ} {r1 r : ℕ} → i ≡ row (3 ∷ v ∷ 0 ∷ 0 ∷ 0 ∷ 0 ∷ 0 ∷ []) → j ≡ row (4 ∷ o ∷ e ∷ 2 ∷ 0 ∷ 0 ∷ 0 ∷ [])
    → WroteAt i 0 x o1 r1 → WroteAt j r1 o1 q r → length x ≡ 56 → q ≡ rows (map term_row (identifier v ∷ equality o e ∷ []))
unfolding rows row bytes4 term_row identifier equality
equality_filled v o e {x = x} ei ej w1 w2 long =
    let short : length x < MOST + 1 = omega arith in
    at_whole (at_then short (at_as ei w1) (at_as ej w2)) (omega arith)
