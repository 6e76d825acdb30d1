-- The assertion stack of SMT-LIB 2.6 (it stands in for SolverEngine.CommandStacks), as far as a session's text uses it: a text, cut into lines, read on a stack of levels.
use Rattle.std.specs.Prelude.{ℕ, suc, Bool, true, false, ◌||◌, List, [], ◌∷◌, ◌++◌, map, eqb, if◌then◌else◌}
use Rattle.basics.specs.Text.{Text, ascii, newline, same}
use Rattle.smt_engines.specs.Command.{Command, command_to_string}

-- the lines of a text; what stands behind the last line end, if anything, is a line too
unfoldable pub glue : (ends : Bool) → ℕ → List Text → List Text
glue true c ls = [] ∷ ls
glue false c [] = (c ∷ []) ∷ []
glue false c (l ∷ ls) = (c ∷ l) ∷ ls

unfoldable pub cut : Text → List Text
cut [] = []
cut (c ∷ cs) = glue (eqb c newline) c (cut cs)

-- the lines of commands
unfoldable pub lines : List Command → List Text
lines cs = map command_to_string cs

-- the first level, or a level over a stack. A level is its commands, in order
pub data Stack : Type 0 where
  first : List Text → Stack
  over : List Text → Stack → Stack

-- how many levels there are
unfoldable pub height : Stack → ℕ
height (first l) = 1
height (over l st) = suc (height st)

-- a reader that was told to pop the first level is lost
pub data Reader : Type 0 where
  live : Stack → Reader
  lost : Reader

pub data Kind : Type 0 where
  pushes pops asks joins : Kind

unfoldable pub kind : Text → Kind
kind line =
    if same line (ascii "(push 1)") then pushes
    else if same line (ascii "(pop 1)") then pops
    else if same line (ascii "(check-sat)") || same line (ascii "(get-model)") then asks
    else joins

-- more commands at the end of the last level
unfoldable pub join : Stack → List Text → Stack
join (first l) ls = first (l ++ ls)
join (over l st) ls = over (l ++ ls) st

unfoldable pub dropped : Stack → Reader
dropped (first l) = lost
dropped (over l st) = live st

unfoldable pub hear_kind : Kind → Text → Stack → Reader
hear_kind pushes line st = live (over [] st)
hear_kind pops line st = dropped st
hear_kind asks line st = live st
hear_kind joins line st = live (join st (line ∷ []))

unfoldable pub hear : Reader → Text → Reader
hear (live st) line = hear_kind (kind line) line st
hear lost line = lost

unfoldable pub hear_all : Reader → List Text → Reader
hear_all r [] = r
hear_all r (line ∷ ls) = hear_all (hear r line) ls

-- the reader starts with one empty level
unfoldable pub read : Text → Reader
read text = hear_all (live (first [])) (cut text)
