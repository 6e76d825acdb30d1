-- A command of ours, as a line of bytes.
use Rattle.std.specs.Prelude.{ℕ, zero, suc, Bool, true, false, ◌&&◌, ◌||◌, [], ◌∷◌, eqb, leb, length, take, if◌then◌else◌}
use Rattle.basics.specs.Text.{Text, ascii, newline, space_byte, same}
use Rattle.basics.specs.Lists.{all}
use Rattle.smt_engines.specs.SmtEngines.{CMD_PUSH, CMD_POP, CMD_CHECK_SAT, CMD_GET_MODEL}
use Rattle.smt_engines.specs.Reader.{Kind, pushes, pops, asks, joins}
use Rattle.command_lines.specs.declared.kinds.LineKind.{LineKind}
use Rattle.command_lines.specs.declared.kinds.LineKind.TheVariants.{Push, Pop, CheckSat, GetModel, Joins, Foreign}
use Rattle.command_lines.specs.declared.parentheses.Scan.{Scan}
use Rattle.command_lines.specs.declared.parentheses.Scan.TheVariants.{Outside, Between, Shut, Wrong}

-- `~`, the last byte that may stand in a line; a blank is the first
abbrev pub last_printing : ℕ
last_printing = 0x7E

unfoldable pub is_printing : ℕ → Bool
is_printing c = leb space_byte c && leb c last_printing

abbrev pub bar_byte : ℕ
bar_byte = 0x7C

abbrev pub opening_byte : ℕ
opening_byte = 0x28

abbrev pub closing_byte : ℕ
closing_byte = 0x29

abbrev pub semicolon : ℕ
semicolon = 0x3B

abbrev pub quote : ℕ
quote = 0x22

-- what a byte is to the reader of parentheses
pub data Mark : Type 0 where
  bars opens closes forbidden plain : Mark

unfoldable pub mark_of : ℕ → Mark
mark_of c =
    if eqb c bar_byte then bars
    else if eqb c opening_byte then opens
    else if eqb c closing_byte then closes
    else if eqb c semicolon || eqb c quote then forbidden
    else plain

unfoldable pub closing : (depth : ℕ) → Scan
closing zero = Wrong
closing (suc zero) = Shut
closing (suc (suc depth)) = Outside (suc depth)

unfoldable pub step_outside : Mark → (depth : ℕ) → Scan
step_outside bars depth = Between depth
step_outside opens depth = Outside (suc depth)
step_outside closes depth = closing depth
step_outside forbidden depth = Wrong
step_outside plain depth = Outside depth

-- how far a line is read: inside so many parentheses, outside bars or between them; shut by the byte that closes the first one; wrong
unfoldable pub scan_byte : Scan → ℕ → Scan
scan_byte (Outside depth) c = step_outside (mark_of c) depth
scan_byte (Between depth) c = if eqb c bar_byte then Outside depth else Between depth
scan_byte Shut c = Wrong
scan_byte Wrong c = Wrong

unfoldable pub scan : Scan → Text → Scan
scan s [] = s
scan s (c ∷ cs) = scan (scan_byte s c) cs

unfoldable pub is_shut : Scan → Bool
is_shut (Outside depth) = false
is_shut (Between depth) = false
is_shut Shut = true
is_shut Wrong = false

-- as many parentheses as are open
unfoldable pub depth_of : Scan → ℕ
depth_of (Outside depth) = depth
depth_of (Between depth) = depth
depth_of Shut = 0
depth_of Wrong = 0

unfoldable pub starts_with : Text → Text → Bool
starts_with head line = same (take (length head) line) head

unfoldable pub opens_context : Text → Bool
opens_context line = starts_with (ascii "(assert ") line || starts_with (ascii "(declare-fun ") line || starts_with (ascii "(declare-sort ") line

unfoldable pub is_context : Text → Bool
is_context line = opens_context line && all line is_printing && is_shut (scan (Outside 0) line)

unfoldable pub is_command : Text → Bool
is_command line =
    same line CMD_PUSH || same line CMD_POP || same line CMD_CHECK_SAT || same line CMD_GET_MODEL || is_context line

unfoldable pub line_kind : Text → LineKind
line_kind line =
    if same line CMD_PUSH then Push
    else if same line CMD_POP then Pop
    else if same line CMD_CHECK_SAT then CheckSat
    else if same line CMD_GET_MODEL then GetModel
    else if is_context line then Joins
    else Foreign

-- what the reader takes a kind for; it joins what is no command too
unfoldable pub heard_as : LineKind → Kind
heard_as Push = pushes
heard_as Pop = pops
heard_as CheckSat = asks
heard_as GetModel = asks
heard_as Joins = joins
heard_as Foreign = joins

unfoldable pub is_ours : LineKind → Bool
is_ours Push = true
is_ours Pop = true
is_ours CheckSat = true
is_ours GetModel = true
is_ours Joins = true
is_ours Foreign = false

-- every line has its end
unfoldable pub ended : Text → Bool
ended [] = true
ended (c ∷ []) = eqb c newline
ended (c ∷ d ∷ cs) = ended (d ∷ cs)
