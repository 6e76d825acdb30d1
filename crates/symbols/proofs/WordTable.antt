-- The table of reserved words: one test, computed over the whole table; and the looks that spare it.
use Prim.Native.Nat.{ℕ, suc, ◌+◌, ◌-◌, ◌<◌, ◌≤◌}
use native.Mathlib.Omega.{arith}
use mathlib.Core.Path.{◌≡◌, refl, sym, ap, ◌∙◌}
use mathlib.Core.Bool.{Bool, true, false, ◌&&◌, false≢true}
use mathlib.Core.List.{List, [], ◌∷◌, ◌++◌}
use lib.Dec.{eqb, leb, ltb}
use lib.ListN.{length, get_or, take, drop}
use borrow.Author.Tests.{leb-true, eqb-false, le-ltb, lt-leb}
use Rattle.basics.specs.Text.{Text, ascii, same}
use Rattle.basics.specs.Lists.{all_below, all}
use Rattle.basics.proofs.Bool.{and_both}
use Rattle.basics.proofs.Counting.{below_each}
use Rattle.basics.proofs.Texts.{same_eq, same_no, same_length}
use Rattle.symbols.specs.Symbols.{general_words, command_words, reserved_words, among, reserved}
use Rattle.symbols.specs.Masks.{in_masks}
use Rattle.symbols.specs.Pieces.{LONGEST, only_if, pieces_by, pieces}

-- the constants of the code
unfoldable pub bytes : Text
bytes = ascii "!_asletparpopechoexitpushmatchresetBINARYexistsforallSTRINGassertDECIMALNUMERALget-infoset-infocheck-satget-modelget-proofget-valueset-logicdefine-funget-optionset-optionHEXADECIMALdeclare-fundefine-sortdeclare-sortdeclare-constdefine-fun-recget-assertionsget-assignmentget-unsat-coredefine-funs-recdeclare-datatypereset-assertionsdeclare-datatypescheck-sat-assumingget-unsat-assumptions"

unfoldable pub places : List ℕ
places = 0 ∷ 0 ∷ 2 ∷ 4 ∷ 13 ∷ 25 ∷ 35 ∷ 65 ∷ 79 ∷ 95 ∷ 140 ∷ 170 ∷ 203 ∷ 215 ∷ 228 ∷ 284 ∷ 299 ∷ 331 ∷ 348 ∷ 366 ∷ 366 ∷ 366 ∷ 387 ∷ []

-- the words of n letters
of_length : ℕ → List Text → List Text
of_length n [] = []
of_length n (w ∷ ws) = only_if (eqb n (length w)) (w ∷ []) ++ of_length n ws

same_texts : List Text → List Text → Bool
same_texts [] [] = true
same_texts [] (y ∷ ys) = false
same_texts (x ∷ xs) [] = false
same_texts (x ∷ xs) (y ∷ ys) = same x y && same_texts xs ys

same-texts : (a b : List Text) → same_texts a b ≡ true → a ≡ b
unfolding same_texts
same-texts [] [] h = refl
same-texts [] (y ∷ ys) h = absurd (false≢true h)
same-texts (x ∷ xs) [] h = absurd (false≢true h)
same-texts (x ∷ xs) (y ∷ ys) h =
    let r = and_both (same x y) (same_texts xs ys) h in
    rw (same_eq x y r.0, same-texts xs ys r.1)

-- what the code looks at for a name of n letters
abbrev lent : ℕ → Text
lent n = take (get_or places (n + 1) 0 - get_or places n 0) (drop (get_or places n 0) bytes)

right : ℕ → Bool
right n =
    leb (get_or places n 0) (get_or places (n + 1) 0)
    && (leb (get_or places (n + 1) 0) 387 && same_texts (pieces n (lent n)) (of_length n reserved_words))

table : all_below (suc LONGEST) right ≡ true
unfolding all_below right places bytes same same_texts of_length only_if pieces_by pieces general_words command_words reserved_words
table = refl

module _ (n : ℕ) (h : n ≤ LONGEST) where
  checked : right n ≡ true
  checked = below_each (suc LONGEST) right table n (omega arith)

  pub places_rise : get_or places n 0 ≤ get_or places (n + 1) 0
  unfolding right
  places_rise = leb-true _ _ (and_both (leb (get_or places n 0) (get_or places (n + 1) 0)) _ checked).0

  pub places_end : get_or places (n + 1) 0 ≤ 387
  unfolding right
  places_end =
      leb-true _ _ (and_both (leb (get_or places (n + 1) 0) 387) _ (and_both (leb (get_or places n 0) (get_or places (n + 1) 0)) _ checked).1).0

  words_are : pieces n (lent n) ≡ of_length n reserved_words
  unfolding right
  words_are =
      same-texts _ _ (and_both (leb (get_or places (n + 1) 0) 387) _ (and_both (leb (get_or places n 0) (get_or places (n + 1) 0)) _ checked).1).1

-- words of another length don't count
among_length : (n : Text) (ws : List Text) → among n (of_length (length n) ws) ≡ among n ws
unfolding among of_length only_if
among_length n [] = refl
among_length n (w ∷ ws) = at (eqb (length n) (length w)) refl (among_length n ws)
  where
    at : (t : Bool) → eqb (length n) (length w) ≡ t → among n (of_length (length n) ws) ≡ among n ws
        → among n (only_if t (w ∷ []) ++ of_length (length n) ws) ≡ among n (w ∷ ws)
    at true e h = rw h
    at false e h = rw (← same_length n w (eqb-false (length n) (length w) e)) h

pub among_lent : (n : Text) → length n ≤ LONGEST → among n (pieces (length n) (lent (length n))) ≡ reserved n
unfolding reserved
among_lent n h = rw (words_are (length n) h) (among_length n reserved_words)

-- a name that fails a test that each word passes is none of them
none_of : (test : Text → Bool) (n : Text) (ws : List Text) → all ws test ≡ true → test n ≡ false → among n ws ≡ false
unfolding all among
none_of test n [] a f = refl
none_of test n (w ∷ ws) a f =
    let r = and_both (test w) (all ws test) a in
    rw (← same_no n w (λ e. false≢true (sym f ∙ ap test e ∙ r.0))) (none_of test n ws r.1 f)

fails : (test : Text → Bool) → all reserved_words test ≡ true → (n : Text) → test n ≡ false → false ≡ reserved n
unfolding reserved
fails test a n f = sym (none_of test n reserved_words a f)

pub empty_none : (n : Text) → length n ≡ 0 → false ≡ reserved n
unfolding all reserved_words general_words command_words
empty_none n h = fails (λ w. ltb 0 (length w)) refl n (le-ltb 0 (length n) (omega arith))

pub long_none : (n : Text) → LONGEST < length n → false ≡ reserved n
unfolding all reserved_words general_words command_words
long_none n h = fails (λ w. leb (length w) LONGEST) refl n (lt-leb (length n) LONGEST h)

-- the looks at the first and the last letter, with the masks of the code
abbrev begins : Text → Bool
begins w = in_masks 0x200000000 0xd30fa80084114 (get_or w 0 0)

abbrev ends : Text → Bool
ends w = in_masks 0x200000000 0x1dd1e882001080 (get_or w (length w - 1) 0)

pub first_none : (n : Text) → begins n ≡ false → false ≡ reserved n
unfolding all in_masks reserved_words general_words command_words
first_none = fails begins refl

pub last_none : (n : Text) → ends n ≡ false → false ≡ reserved n
unfolding all in_masks reserved_words general_words command_words
last_none = fails ends refl
