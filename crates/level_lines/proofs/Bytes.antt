-- The bytes of levels: what one line more makes of them, and that levels that are the same have as many.
use Prim.Native.Nat.{suc, ◌+◌, ◌≤◌}
use native.Mathlib.Omega.{arith}
use mathlib.Core.Path.{◌≡◌, refl, sym, ap, ◌∙◌}
use mathlib.Core.Bool.{true, false≢true}
use mathlib.Core.List.{List, [], ◌∷◌, ◌++◌}
use lib.ListN.{length}
use Rattle.basics.specs.Text.{Text, same}
use Rattle.basics.specs.Lists.{all}
use Rattle.basics.proofs.Bool.{and_both}
use Rattle.smt_engines.specs.SmtEngines.{CMD_PUSH}
use Rattle.smt_engines.specs.Reader.{Stack, first, over, Reader, live, join, dropped, hear_kind, hear, hear_all}
use Rattle.command_lines.specs.declared.kinds.LineKind.{LineKind}
use Rattle.command_lines.specs.declared.kinds.LineKind.TheVariants.{Push, Pop, CheckSat, GetModel, Joins, Foreign}
use Rattle.command_lines.specs.CommandLines.{line_kind, heard_as}
use Rattle.command_lines.proofs.Reading.{heard-as, is_push, push_by, push_length}
use Rattle.live_lines.specs.LiveLines.{is_live}
use Rattle.live_lines.proofs.Living.{live_is, lost≢live, Told, push, joined, told}
use Rattle.level_lines.specs.AsOften.{as_often, same_levels}
use Rattle.level_lines.specs.Bytes.{total, stack_bytes}
use Rattle.level_lines.proofs.Bags.{same_bag}

total_append : (a b : List Text) → total (a ++ b) ≡ total a + total b
unfolding total
total_append [] b = omega arith
total_append (x ∷ a) b = omega (arith, total_append a b)

-- ---- one line more
join_bytes : (st : Stack) (line : Text) → stack_bytes (join st (line ∷ [])) ≡ stack_bytes st + suc (length line)
unfolding stack_bytes join total
join_bytes (first l) line = omega (arith, total_append l (line ∷ []))
join_bytes (over l st) line = omega (arith, total_append l (line ∷ []))

push_bytes : (st : Stack) (line : Text) → same line CMD_PUSH ≡ true → stack_bytes (over [] st) ≡ stack_bytes st + suc (length line)
unfolding stack_bytes total CMD_PUSH
push_bytes st line h = omega (arith, push_length line h)

pop_bytes : (st su : Stack) → dropped st ≡ live su → stack_bytes su ≤ stack_bytes st
unfolding stack_bytes dropped
pop_bytes (first l) su e = absurd (lost≢live e)
pop_bytes (over l st) su e = omega (arith, ap stack_bytes (live_is e))

-- whatever it is, the levels grow by the line and its end at most
pub hear_bytes : (st su : Stack) (line : Text) → hear (live st) line ≡ live su → stack_bytes su ≤ stack_bytes st + suc (length line)
unfolding hear hear_kind heard_as is_push
hear_bytes st su line h = at (line_kind line) refl
  where
    by : (k : LineKind) → line_kind line ≡ k → hear_kind (heard_as k) line st ≡ live su
    by k e = ap {B = Reader} (λ m. hear_kind m line st) (sym (heard-as line ∙ ap heard_as e)) ∙ h

    at : (k : LineKind) → line_kind line ≡ k → stack_bytes su ≤ stack_bytes st + suc (length line)
    at LineKind.Push e = omega (arith, ap stack_bytes (live_is (by Push e)), push_bytes st line (push_by line ∙ ap is_push e))
    at LineKind.Pop e = omega (arith, pop_bytes st su (by Pop e))
    at LineKind.CheckSat e = omega (arith, ap stack_bytes (live_is (by CheckSat e)))
    at LineKind.GetModel e = omega (arith, ap stack_bytes (live_is (by GetModel e)))
    at LineKind.Joins e = omega (arith, ap stack_bytes (live_is (by Joins e)), join_bytes st line)
    at LineKind.Foreign e = omega (arith, ap stack_bytes (live_is (by Foreign e)), join_bytes st line)

-- ---- lines that all stay
pub all_bytes : (st su : Stack) (ls : List Text) → all ls is_live ≡ true → hear_all (live st) ls ≡ live su → stack_bytes su ≡ stack_bytes st + total ls
unfolding hear hear_kind hear_all all total
all_bytes st su [] a h = omega (arith, ap stack_bytes (live_is h))
all_bytes st su (x ∷ ls) a h = let r = and_both (is_live x) (all ls is_live) a in at (told x r.0) (λ sv k. all_bytes sv su ls r.1 k)
  where
    one : (sv : Stack) → hear (live st) x ≡ live sv → hear_all (live sv) ls ≡ live su
    one sv e = ap {B = Reader} (λ r. hear_all r ls) (sym e) ∙ h

    at : Told x → ((sv : Stack) → hear_all (live sv) ls ≡ live su → stack_bytes su ≡ stack_bytes sv + total ls) → stack_bytes su ≡ stack_bytes st + (suc (length x) + total ls)
    at (push p e) rec = omega (arith, rec (over [] st) (one (over [] st) (rw e)), push_bytes st x p)
    at (joined p e) rec = omega (arith, rec (join st (x ∷ [])) (one (join st (x ∷ [])) (rw e)), join_bytes st x)

-- ---- levels that are the same
pub same_bytes : (st su : Stack) → same_levels st su ≡ true → stack_bytes st ≡ stack_bytes su
unfolding same_levels stack_bytes total
same_bytes (first l) (first m) h = (same_bag l m h).size
same_bytes (first l) (over m su) h = absurd (false≢true h)
same_bytes (over l st) (first m) h = absurd (false≢true h)
same_bytes (over l st) (over m su) h =
    let r = and_both (as_often l m) (same_levels st su) h in
    omega (arith, (same_bag l m r.0).size, same_bytes st su r.1)
