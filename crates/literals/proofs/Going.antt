-- The search through a book, term by term.
use Prim.Native.Nat.{ℕ, suc, ◌+◌, ◌<◌, ◌≤◌}
use native.Mathlib.Omega.{arith}
use native.Mathlib.Nat.{min-le_left}
use mathlib.Core.Path.{◌≡◌, refl, sym, ap, ◌∙◌}
use mathlib.Core.Bool.{Bool, true, false}
use mathlib.Core.List.{List, [], ◌∷◌}
use mathlib.Core.Option.{Option, none, some}
use lib.ListN.{length, take, drop, length-take}
use lib.Seq.{get_or-drop, take_all}
use Rattle.basics.specs.Text.{Text}
use Rattle.book.specs.Book.{Book, terms, size}
use Rattle.book.specs.RExpr.{Literal}
use Rattle.book.specs.Decode.{literal_at, program}
use Rattle.book.proofs.Terms.{literals_length, literal-at}
use Rattle.rsolver.specs.LevelState.{literal_places}
use Rattle.literals.specs.Literals.{declares_name}
use Rattle.literals.specs.Search.{named_at, literal_count, searched, search}
use Rattle.literals.proofs.Searching.{search_found, search_nothing, count_most, count_next}

module _ (b : Book) where
  -- as many literal terms as there are before term k
  abbrev pub gone_before : ℕ → ℕ
  gone_before k = literal_count (take k (program b).literals)

  pub none_gone : 0 ≡ gone_before 0
  unfolding literal_count
  none_gone = refl

  pub gone_next : (k : ℕ) {g n : ℕ} → k < size b terms → g ≡ gone_before k → n ≡ literal_count (literal_at b k ∷ []) → g + n ≡ gone_before (suc k)
  gone_next k h e f =
      sym (count_next (program b).literals k (omega (arith, literals_length b)) ∙ ap (λ (o : Option Literal). gone_before k + literal_count (o ∷ [])) (literal-at b k h) ∙ omega (arith, e, f))

  pub gone_most : (k : ℕ) → gone_before k ≤ k
  gone_most k = omega (arith, count_most (take k (program b).literals), length-take k (program b).literals, min-le_left k (length (program b).literals))

  module _ (name : Text) (ls : List ℕ) where
    at_place : (k : ℕ) → k < size b terms → named_at name (program b).literals (drop literal_places ls) k ≡ declares_name b name ls k
    unfolding declares_name named_at
    at_place k h = rw (get_or-drop literal_places ls k 0, literal-at b k h)

    pub found_here : (k : ℕ) {g : ℕ} {r : Bool} → k < size b terms → r ≡ declares_name b name ls k → r ≡ true → ((j : ℕ) → j < k → declares_name b name ls j ≡ false) → g ≡ gone_before (suc k)
        → searched (some k) g ≡ search name (program b).literals (drop literal_places ls)
    found_here k h e t below q = search_found name (program b).literals (drop literal_places ls) k (at_place k h ∙ sym e ∙ t) (λ j l. at_place j (omega arith) ∙ below j l) q

    pub found_nowhere : {k g : ℕ} → size b terms ≤ k → ((j : ℕ) → j < k → declares_name b name ls j ≡ false) → g ≡ gone_before k → searched none g ≡ search name (program b).literals (drop literal_places ls)
    found_nowhere {k} h below q =
        search_nothing name (program b).literals (drop literal_places ls) (λ j l. at_place j (omega (arith, literals_length b)) ∙ below j (omega (arith, literals_length b)))
        (q ∙ ap literal_count (take_all k (program b).literals (omega (arith, literals_length b))))
