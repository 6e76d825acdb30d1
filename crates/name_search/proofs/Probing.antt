-- The name of a probe, as it is written and as it is answered.
use Prim.Native.Nat.{ℕ, zero, suc, ◌*◌, ◌/◌, ◌^◌, ◌≤◌, ◌<◌}
use native.Mathlib.Numerals.{unary_clauses}
use native.Mathlib.Omega.{arith}
use native.Mathlib.Decide.{dec_lt}
use mathlib.Core.Path.{◌≡◌, refl, sym, ap, ◌∙◌}
use mathlib.Core.List.{List, ◌++◌}
use lib.ListN.{length, take, drop, length-append}
use lib.Seq.{take_at}
use Rattle.arrayvec.specs.ArrayVec.{ArrayVec}
use Rattle.basics.specs.Text.{ascii}
use Rattle.basics.specs.Basics.{nat2_string}
use Rattle.basics.specs.Write.{Wrote}
use Rattle.basics.proofs.Digits.{nat_more, nat_last}
use Rattle.basics.proofs.Laws.{overlay_fits}
use Rattle.book.specs.Book.{depth_most}
use Rattle.name_search.specs.Probe.{probe_name, probe_most}
use Rattle.name_search.specs.ProbeText.{IsProbeName}

pub two_parts : (depth : ℕ) → ascii "probe%" ++ nat2_string depth ≡ probe_name depth
unfolding probe_name
two_parts depth = refl

-- as many digits as the power of ten says at most
digits : (k n : ℕ) → n < 10 ^ suc k → length (nat2_string n) ≤ suc k
digits zero n h = omega (arith, ap length (nat_last n h))
digits (suc k) n h = at (dec_lt n 10) (digits k (n / 10))
  where
    at : Dec (n < 10) → (n / 10 < 10 ^ suc k → length (nat2_string (n / 10)) ≤ suc k) → length (nat2_string n) ≤ suc (suc k)
    at (yes l) up = omega (arith, ap length (nat_last n l))
    at (no l) up =
        let e : 10 ^ suc (suc k) ≡ 10 * 10 ^ suc k = simp unary_clauses (omega arith) in
        omega (arith, simp length-append at (ap length (nat_more n (omega arith))), up (omega (arith, h, e)))

probe_short : (depth : ℕ) → depth ≤ depth_most → length (probe_name depth) ≤ probe_most
probe_short depth h = omega (arith, ap length (sym (two_parts depth)), length-append (ascii "probe%") (nat2_string depth), digits 2 depth (omega arith))

pub probe_told : (depth : ℕ) {o text : List ℕ} {r : ℕ} {name : ArrayVec ℕ} → depth ≤ depth_most → length o ≡ probe_most → Wrote (probe_name depth) o text r
    → name.items ≡ take r text → IsProbeName depth name
probe_told depth {o} {r = r} h l w e =
    let fits : length (probe_name depth) ≤ length o = omega (arith, probe_short depth h) in
    let counted : r ≡ length (probe_name depth) = omega (arith, w.counted, probe_short depth h) in
    let is = e ∙ ap (take r) (w.shown ∙ overlay_fits (probe_name depth) o fits) ∙ take_at (probe_name depth) _ r (sym counted) in
    record { is = is; short = omega (arith, ap length is, probe_short depth h) }
