-- The levels of live lines that are named by their starts.
use Rattle.std.specs.Prelude.{ℕ, zero, suc, Bool, true, false, ◌&&◌, List, [], ◌∷◌, get_or, if◌then◌else◌}
use Rattle.std.proofs.Math.Seq.{slice}
use Rattle.basics.specs.Text.{Text, same}
use Rattle.smt_engines.specs.Reader.{Stack, first, over, join}
use Rattle.command_lines.specs.Lines.{line_at}
use Rattle.live_lines.specs.LiveLines.{lines_at, push_at}

-- the lines that the starts from a place up to another name
unfoldable pub lines_in : Text → List ℕ → (from to : ℕ) → List Text
lines_in s starts from to = lines_at s (slice from to starts)

unfoldable pub grown : (push : Bool) → Text → Stack → Stack
grown true line st = over [] st
grown false line st = join st (line ∷ [])

-- the stack that the first n leave
unfoldable pub stack_of : Text → List ℕ → ℕ → Stack
stack_of s starts zero = first []
stack_of s starts (suc k) = grown (push_at s starts k) (line_at s (get_or starts k 0)) (stack_of s starts k)

-- a push is among the first n
unfoldable pub has_push : Text → List ℕ → ℕ → Bool
has_push s starts zero = false
has_push s starts (suc k) = if push_at s starts k then true else has_push s starts k

-- the same lines in the same order
unfoldable pub all_same : List Text → List Text → Bool
all_same [] [] = true
all_same [] (y ∷ ys) = false
all_same (x ∷ xs) [] = false
all_same (x ∷ xs) (y ∷ ys) = same x y && all_same xs ys
