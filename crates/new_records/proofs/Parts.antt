-- The letters and rows of new names.
use Rattle.std.specs.Prelude.{Some, None}
use Rattle.std.specs.Prelude as code
use Prim.Native.Nat.{ℕ, zero, suc, ◌+◌, ◌≤◌, ◌<◌}
use native.Mathlib.Omega.{arith}
use denote.Bor.{Bor}
use mathlib.Core.Path.{◌≡◌, refl, sym, ap, ◌∙◌}
use mathlib.Core.List.{List, [], ◌∷◌, ◌++◌, append-nil, append_assoc}
use lib.ListN.{length, take, length-append}
use Rattle.basics.specs.Bytes.{bytes4, row, rows}
use Rattle.basics.specs.Text.{Text}
use Rattle.basics.specs.Write.{MOST, WroteAt}
use Rattle.basics.proofs.Places.{at_then, at_none, at_as, at_taken}
use Rattle.name_search.specs.Probe.{probe_most}
use Rattle.new_records.specs.Drafts.{range_start, name_row, name_rows, all_letters}
use Rattle.new_records.specs.NewNames.{new_text, new_before, AreParts}
use Rattle.new_records.specs.declared.naming.Before.{Before}
use Rattle.new_records.specs.declared.naming.NameParts.{NameParts}

abbrev New : Type 0
New = code.Option (Bor Text)

pub range_some : (behind n : ℕ) → ¬ (n ≡ 0) → behind ≡ range_start behind n
unfolding range_start
range_some behind zero h = absurd (h refl)
range_some behind (suc n) h = refl

-- ---- one text, and none
pub letters_one : (t : Text) → t ≡ all_letters (t ∷ [])
unfolding all_letters
letters_one t = sym (append-nil t)

pub letters_none : {n : ℕ} {o : List ℕ} → n < MOST + 1 → WroteAt (all_letters []) n o o n
unfolding all_letters
letters_none {n} {o} h = at_none n o h

pub row_one : (behind : ℕ) (t : Text) → row (name_row behind (length t)) ≡ rows (name_rows behind (t ∷ []))
unfolding rows name_rows
row_one behind t = sym (append-nil (row (name_row behind (length t))))

pub rows_none : (behind : ℕ) {n : ℕ} {o : List ℕ} → n < MOST + 1 → WroteAt (rows (name_rows behind [])) n o o n
unfolding rows name_rows
rows_none behind {n} {o} h = at_none n o h

pub row_most : (behind : ℕ) (o : New) → length (rows (name_rows behind (new_text o))) ≤ 8
unfolding rows name_rows name_row row bytes4
row_most behind None = omega arith
row_most behind (Some t) = omega arith

-- ---- texts in a row
pub letters_append : (xs ys : List Text) → all_letters (xs ++ ys) ≡ all_letters xs ++ all_letters ys
unfolding all_letters
letters_append [] ys = refl
letters_append (x ∷ xs) ys = rw (letters_append xs ys) (sym (append_assoc x (all_letters xs) (all_letters ys)))

rows_append : (xs ys : List (List ℕ)) → rows (xs ++ ys) ≡ rows xs ++ rows ys
unfolding rows
rows_append [] ys = refl
rows_append (x ∷ xs) ys = rw (rows_append xs ys) (sym (append_assoc (row x) (rows xs) (rows ys)))

name_rows_append : (k : ℕ) (xs ys : List Text) → name_rows k (xs ++ ys) ≡ name_rows k xs ++ name_rows (k + length (all_letters xs)) ys
unfolding name_rows all_letters
name_rows_append k [] ys = let e : k + 0 ≡ k = omega arith in rw e
name_rows_append k (x ∷ xs) ys =
    let e : k + length x + length (all_letters xs) ≡ k + length (x ++ all_letters xs) = omega (arith, length-append x (all_letters xs)) in
    rw (name_rows_append (k + length x) xs ys, e)

rows_behind : (k : ℕ) (xs ys : List Text) → rows (name_rows k (xs ++ ys)) ≡ rows (name_rows k xs) ++ rows (name_rows (k + length (all_letters xs)) ys)
rows_behind k xs ys = ap rows (name_rows_append k xs ys) ∙ rows_append (name_rows k xs) (name_rows (k + length (all_letters xs)) ys)

-- ---- the letters in front
module _ (m : Before) (few : length (all_letters (new_before m)) ≤ suc probe_most) {x o : List ℕ} {r1 : ℕ} (w1 : WroteAt (all_letters (new_text m.probe)) 0 x o r1) where
  front : length (all_letters (new_before m)) ≡ length (all_letters (new_text m.probe)) + length (all_letters (new_text m.equals))
  front = ap length (letters_append (new_text m.probe) (new_text m.equals)) ∙ length-append (all_letters (new_text m.probe)) (all_letters (new_text m.equals))

  pub middle_is : r1 ≡ length (all_letters (new_text m.probe))
  middle_is = omega (arith, w1.counted, front)

  pub middle_low : r1 ≤ suc probe_most
  middle_low = omega (arith, middle_is, front)

  module _ {q : List ℕ} {r : ℕ} (w2 : WroteAt (all_letters (new_text m.equals)) r1 o q r) where
    pub front_is : r ≡ length (all_letters (new_before m))
    front_is = omega (arith, w2.counted, middle_is, front)

    pub front_taken : length x ≡ suc probe_most → take r q ≡ all_letters (new_before m)
    front_taken long =
        let short : length x < MOST + 1 = omega arith in
        at_taken (at_as (sym (letters_append (new_text m.probe) (new_text m.equals))) (at_then short w1 w2)) (omega arith) front_is

    -- ---- and the rows
    module _ (k : ℕ) (t : New) {y p1 p2 p3 : List ℕ} {s1 s2 s : ℕ} (v1 : WroteAt (rows (name_rows k (new_text m.probe))) 0 y p1 s1)
        (v2 : WroteAt (rows (name_rows (k + r1) (new_text m.equals))) s1 p1 p2 s2) (v3 : WroteAt (rows (name_rows (k + r) (new_text t))) s2 p2 p3 s) (long : length y ≡ 24) where
      rows_whole : rows (name_rows k (new_before m ++ new_text t))
          ≡ (rows (name_rows k (new_text m.probe)) ++ rows (name_rows (k + r1) (new_text m.equals))) ++ rows (name_rows (k + r) (new_text t))
      rows_whole = rw (rows_behind k (new_before m) (new_text t), rows_behind k (new_text m.probe) (new_text m.equals), middle_is, front_is)

      rows_taken : take s p3 ≡ rows (name_rows k (new_before m ++ new_text t))
      rows_taken =
          let short : length y < MOST + 1 = omega arith in
          let A = rows (name_rows k (new_text m.probe)) in
          let B = rows (name_rows (k + r1) (new_text m.equals)) in
          let C = rows (name_rows (k + r) (new_text t)) in
          let w : WroteAt ((A ++ B) ++ C) 0 y p3 s = at_then short (at_then short v1 v2) v3 in
          let l : length ((A ++ B) ++ C) ≡ length A + length B + length C = length-append (A ++ B) C ∙ omega (arith, length-append A B) in
          let most : length ((A ++ B) ++ C) ≤ 24 = omega (arith, row_most k m.probe, row_most (k + r1) m.equals, row_most (k + r) t) in
          at_taken w (omega arith) (omega (arith, w.counted)) ∙ sym rows_whole

      pub parts_are : {P : NameParts} → length x ≡ suc probe_most → P.letters.items ≡ take r q → P.rows.items ≡ take s p3 → AreParts k (new_before m) (new_text t) P
      parts_are ten el er = record { letters = el ∙ front_taken ten; rows = er ∙ rows_taken }
