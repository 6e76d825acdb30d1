-- Back to the last push, and over it.
use Rattle.std.specs.Prelude.{Some, None, unwrap_or, if◌then◌else◌}
use Prim.Native.Nat.{ℕ, zero, suc, ◌-◌, ◌<◌, ◌≤◌}
use native.Mathlib.Omega.{arith}
use mathlib.Core.Path.{◌≡◌, refl, sym, ap, ◌∙◌}
use mathlib.Core.Bool.{Bool, true, false}
use mathlib.Core.List.{List, [], ◌∷◌, ◌++◌, map}
use lib.ListN.{length, get_or, take, length-take}
use lib.Seq.{take-suc}
use Rattle.std.proofs.lemmas.List.{get_or-take}
use Rattle.basics.specs.Text.{Text, same}
use Rattle.basics.specs.Lists.{all}
use Rattle.basics.proofs.Bool.{and_both, both_and}
use Rattle.smt_engines.specs.SmtEngines.{CMD_PUSH}
use Rattle.smt_engines.specs.Reader.{Stack, first, over, Reader, live, lost, join, dropped, hear_kind, hear, hear_all}
use Rattle.command_lines.specs.declared.kinds.LineKind.TheVariants.{Pop}
use Rattle.command_lines.specs.Lines.{line_at, line_end}
use Rattle.command_lines.specs.CommandLines.{line_kind, heard_as}
use Rattle.command_lines.proofs.Reading.{heard-as}
use Rattle.live_lines.specs.LiveLines.{lines_at, is_live, push_at, Lives, last_push, push_place}
use Rattle.live_lines.proofs.Living.{live_is, lost≢live, hear_snoc, all_snoc, lines_snoc, Told, push, joined, told}

dropped_join : (st : Stack) (ls : List Text) → dropped (join st ls) ≡ dropped st
unfolding dropped join
dropped_join (first l) ls = refl
dropped_join (over l st) ls = refl

-- ---- what is told of the first k by a step for each start is the same of the first n alone
module _ {A : Type 0} (f : List ℕ → ℕ → A) (step : (k start : ℕ) → A → A) (begin : (xs ys : List ℕ) → f xs 0 ≡ f ys 0) (more : (xs : List ℕ) (k : ℕ) → f xs (suc k) ≡ step k (get_or xs k 0) (f xs k))
    (starts : List ℕ) where
  front_below : (n k : ℕ) → k ≤ n → f (take n starts) k ≡ f starts k
  front_below n zero h = begin (take n starts) starts
  front_below n (suc k) h = more (take n starts) k ∙ rw (get_or-take n starts k 0 (omega arith), front_below n k (omega arith)) (sym (more starts k))

  pub front_alone : (n : ℕ) → n ≤ length starts → f (take n starts) (length (take n starts)) ≡ f starts n
  front_alone n h =
      let l : length (take n starts) ≡ n = omega (arith, length-take n starts) in
      ap (f (take n starts)) l ∙ front_below n n (omega arith)

-- fewer starts
all_fewer : (s : Text) (starts : List ℕ) (m n : ℕ) → m ≤ n → all (lines_at s (take n starts)) is_live ≡ true → all (lines_at s (take m starts)) is_live ≡ true
unfolding all lines_at
all_fewer s [] zero n h e = refl
all_fewer s [] (suc m) n h e = refl
all_fewer s (x ∷ starts) zero n h e = refl
all_fewer s (x ∷ starts) (suc m) zero h e = absurd (omega arith)
all_fewer s (x ∷ starts) (suc m) (suc n) h e =
    let r = and_both (is_live (line_at s x)) (all (map (line_at s) (take n starts)) is_live) e in
    both_and r.0 (all_fewer s starts m n (omega arith) r.1)

module _ (s : Text) (starts : List ℕ) where
  pub last_below : (n : ℕ) → last_push s starts n ≤ n
  unfolding last_push
  last_below zero = omega arith
  last_below (suc k) = at (same (line_at s (get_or starts k 0)) CMD_PUSH) (last_below k)
    where
      at : (x : Bool) → last_push s starts k ≤ k → (if x then k else last_push s starts k) ≤ suc k
      at true h = omega arith
      at false h = omega arith

  Back : ℕ → Type 0
  Back n = (st su : Stack) → hear_all (live (first [])) (lines_at s (take n starts)) ≡ live st → dropped st ≡ live su
      → hear_all (live (first [])) (lines_at s (take (last_push s starts n) starts)) ≡ live su

  back : (n : ℕ) → n ≤ length starts → all (lines_at s (take n starts)) is_live ≡ true → Back n
  unfolding Back hear_all hear hear_kind dropped lines_at last_push
  back zero h a st su e d = absurd (lost≢live (ap dropped (live_is e) ∙ d))
  back (suc k) h a st su e d =
      let x = line_at s (get_or starts k 0) in
      let apart : lines_at s (take (suc k) starts) ≡ lines_at s (take k starts) ++ (x ∷ []) = ap (lines_at s) (take-suc starts k 0 (omega arith)) ∙ lines_snoc s (take k starts) (get_or starts k 0) in
      let both = and_both (all (lines_at s (take k starts)) is_live) (is_live x) (sym (all_snoc (lines_at s (take k starts)) x) ∙ ap {B = Bool} (λ ls. all ls is_live) (sym apart) ∙ a) in
      let heard : hear (hear_all (live (first [])) (lines_at s (take k starts))) x ≡ live st = sym (hear_snoc (live (first [])) (lines_at s (take k starts)) x) ∙ ap (hear_all (live (first []))) (sym apart) ∙ e in
      at (hear_all (live (first [])) (lines_at s (take k starts))) refl (told x both.1) heard (back k (omega arith) both.0)
    where
      at : (r : Reader) → hear_all (live (first [])) (lines_at s (take k starts)) ≡ r → Told (line_at s (get_or starts k 0)) → hear r (line_at s (get_or starts k 0)) ≡ live st → Back k
          → hear_all (live (first [])) (lines_at s (take (last_push s starts (suc k)) starts)) ≡ live su
      at lost q t f rec = absurd (lost≢live f)
      at (live sv) q (push p e) f rec =
          let f' : live (over [] sv) ≡ live st = rw e at f in
          rw p (q ∙ ap dropped (live_is f') ∙ d)
      at (live sv) q (joined p e) f rec =
          let f' : live (join sv (line_at s (get_or starts k 0) ∷ [])) ≡ live st = rw e at f in
          rw p (rec sv su q (sym (dropped_join sv (line_at s (get_or starts k 0) ∷ [])) ∙ ap dropped (live_is f') ∙ d))

  pub lives_pop : (n at : ℕ) → line_kind (line_at s at) ≡ Pop → (st su : Stack) → Lives s starts n at st → hear (live st) (line_at s at) ≡ live su
      → Lives s starts (last_push s starts n) (suc (line_end s at)) su
  unfolding Back line_end hear hear_kind heard_as
  lives_pop n at q st su l e =
      let d : dropped st ≡ live su = rw (heard-as (line_at s at) ∙ ap heard_as q) at e in
      record {
        heard = back n l.held l.lines st su l.heard d;
        lines = all_fewer s starts (last_push s starts n) n (last_below n) l.lines;
        held = omega (arith, l.held, last_below n);
        few = omega (arith, l.few, last_below n);
      }

-- ---- which is the last
module _ (s : Text) (starts : List ℕ) where
  pub last-place : (n : ℕ) → last_push s starts n ≡ unwrap_or (push_place s starts n) 0
  unfolding last_push push_place
  last-place zero = refl
  last-place (suc k) = at (push_at s starts k) (last-place k)
    where
      at : (x : Bool) → last_push s starts k ≡ unwrap_or (push_place s starts k) 0
          → (if x then k else last_push s starts k) ≡ unwrap_or (if x then Some k else push_place s starts k) 0
      at true e = refl
      at false e = e

  pub place_front : (n : ℕ) → n ≤ length starts → push_place s (take n starts) (length (take n starts)) ≡ push_place s starts n
  unfolding push_place
  place_front = front_alone (push_place s) (λ k start p. if same (line_at s start) CMD_PUSH then Some k else p) (λ xs ys. refl) (λ xs k. refl) starts

  -- the line before the first n
  module _ {n a : ℕ} {r : Bool} (h : 0 < n) (e : a ≡ get_or starts (n - 1) 0) (q : r ≡ same (line_at s a) CMD_PUSH) where
    one_less : push_place s starts n ≡ (if r then Some (n - 1) else push_place s starts (n - 1))
    unfolding push_place
    one_less = let z : n ≡ suc (n - 1) = omega arith in ap (push_place s starts) z ∙ rw (q, e)

    pub place_here : r ≡ true → Some (n - 1) ≡ push_place s starts n
    place_here t = sym (one_less ∙ rw t)

    pub place_more : r ≡ false → push_place s starts n ≡ push_place s starts (n - 1)
    place_more t = one_less ∙ rw t

  pub place_none : {n : ℕ} → n ≤ 0 → push_place s starts n ≡ None
  unfolding push_place
  place_none {n} h = let z : n ≡ 0 = omega arith in ap (push_place s starts) z
