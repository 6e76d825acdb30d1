-- How the reader hears the lines of commands.
use mathlib.Core.Bool.{Bool, true, false, not, ◌&&◌}
use mathlib.Core.Path.{◌≡◌, refl, sym, ap, ◌∙◌}
use mathlib.Core.List.{List, [], ◌∷◌, ◌++◌, map, append_assoc, append-nil}
use lib.Dec.{eqb}
use borrow.Author.Tests.{not-true}
use Rattle.basics.specs.Text.{Text, newline, same}
use Rattle.basics.proofs.Bool.{and_both}
use Rattle.basics.proofs.All.{All, end, more, all_weaken}
use Rattle.basics.proofs.Clean.{clean, Clean}
use Rattle.smt_engines.specs.SmtEngines.{CMD_PUSH, CMD_POP, CMD_CHECK_SAT, CMD_GET_MODEL}
use Rattle.smt_engines.specs.Command.{Command, Push, Pop, CheckSat, GetModel, command_to_string, script}
use Rattle.smt_engines.specs.Reader.{glue, cut, Stack, first, over, Reader, live, lost, Kind, kind, join, dropped, hear_kind, hear, hear_all, read, lines}
use Rattle.smt_engines.proofs.Commands.{Plain}

abbrev pub Whole : Command → Type 0
Whole c = Clean (command_to_string c)

cut_line : (l rest : Text) → Clean l → cut (l ++ (newline ∷ rest)) ≡ l ∷ cut rest
unfolding cut glue
cut_line [] rest h = refl
cut_line (c ∷ l) rest h =
    let k = and_both (not (eqb c newline)) (clean l) h in
    rw (not-true (eqb c newline) k.0, cut_line l rest k.1)

pub cut_script : {cs : List Command} → All Whole cs → cut (script cs) ≡ lines cs
unfolding cut script lines
cut_script end = refl
cut_script (more {a = c} {l = cs} h hs) =
    ap cut (append_assoc (command_to_string c) ((newline ∷ [])) (script cs)) ∙ cut_line (command_to_string c) (script cs) h
    ∙ ap {B = List Text} (λ r. command_to_string c ∷ r) (cut_script hs)

pub script_append : (a b : List Command) → script (a ++ b) ≡ script a ++ script b
unfolding script
script_append [] b = refl
script_append (c ∷ a) b =
    ap {B = Text} (λ r. command_to_string c ++ (newline ∷ []) ++ r) (script_append a b)
    ∙ sym (append_assoc (command_to_string c ++ (newline ∷ [])) (script a) (script b))

pub lines_append : (a b : List Command) → lines (a ++ b) ≡ lines a ++ lines b
unfolding lines
lines_append [] b = refl
lines_append (c ∷ a) b = ap {B = List Text} (λ r. command_to_string c ∷ r) (lines_append a b)

pub hear_append : (r : Reader) (a b : List Text) → hear_all r (a ++ b) ≡ hear_all (hear_all r a) b
unfolding hear_all
hear_append r [] b = refl
hear_append r (l ∷ a) b = hear_append (hear r l) a b

-- a reader hears commands
unfoldable pub hears : Reader → List Command → Reader
hears r cs = hear_all r (lines cs)

pub hears_append : (r : Reader) (a b : List Command) → hears r (a ++ b) ≡ hears (hears r a) b
unfolding hears
hears_append r a b = rw (lines_append a b) (hear_append r (lines a) (lines b))

join_nil : (st : Stack) → join st [] ≡ st
unfolding join
join_nil (first l) = ap first (append-nil l)
join_nil (over l st) = ap {B = Stack} (λ m. over m st) (append-nil l)

join_join : (st : Stack) (a b : List Text) → join (join st a) b ≡ join st (a ++ b)
unfolding join
join_join (first l) a b = ap first (append_assoc l a b)
join_join (over l st) a b = ap {B = Stack} (λ m. over m st) (append_assoc l a b)

hears_plain : (st : Stack) {cs : List Command} → All Plain cs → hears (live st) cs ≡ live (join st (lines cs))
unfolding hears hear_all hear hear_kind lines
hears_plain st end = ap live (sym (join_nil st))
hears_plain st (more {a = c} {l = cs} h t) =
    ap (λ (k : Kind). hear_all (hear_kind k (command_to_string c) st) (lines cs)) h.joins
    ∙ hears_plain (join st (command_to_string c ∷ [])) t ∙ ap live (join_join st (command_to_string c ∷ []) (lines cs))

pub hears_push : (st : Stack) {cs : List Command} → All Plain cs → hears (live st) (Push ∷ cs) ≡ live (over (lines cs) st)
unfolding hears hear_all hear kind same hear_kind join lines command_to_string CMD_PUSH CMD_POP CMD_CHECK_SAT CMD_GET_MODEL
hears_push st h = hears_plain (over [] st) h

pub hears_pop : (l : List Text) (st : Stack) → hears (live (over l st)) (Pop ∷ []) ≡ live st
unfolding hears hear_all hear kind same hear_kind dropped lines command_to_string CMD_PUSH CMD_POP CMD_CHECK_SAT CMD_GET_MODEL
hears_pop l st = refl

pub hears_check : (st : Stack) → hears (live st) (CheckSat ∷ []) ≡ live st
unfolding hears hear_all hear kind same hear_kind lines command_to_string CMD_PUSH CMD_POP CMD_CHECK_SAT CMD_GET_MODEL
hears_check st = refl

pub hears_model : (st : Stack) → hears (live st) (GetModel ∷ []) ≡ live st
unfolding hears hear_all hear kind same hear_kind lines command_to_string CMD_PUSH CMD_POP CMD_CHECK_SAT CMD_GET_MODEL
hears_model st = refl

pub all_whole : {cs : List Command} → All Plain cs → All Whole cs
all_whole = all_weaken (λ c h. h.one)

pub whole_push : Whole Push
unfolding command_to_string CMD_PUSH CMD_POP CMD_CHECK_SAT CMD_GET_MODEL
whole_push = refl

pub whole_pop : Whole Pop
unfolding command_to_string CMD_PUSH CMD_POP CMD_CHECK_SAT CMD_GET_MODEL
whole_pop = refl

pub whole_check : Whole CheckSat
unfolding command_to_string CMD_PUSH CMD_POP CMD_CHECK_SAT CMD_GET_MODEL
whole_check = refl

pub whole_model : Whole GetModel
unfolding command_to_string CMD_PUSH CMD_POP CMD_CHECK_SAT CMD_GET_MODEL
whole_model = refl

-- the text of commands, read
pub read_script : {cs : List Command} → All Whole cs → read (script cs) ≡ hears (live (first [])) cs
unfolding read hears
read_script h = ap (hear_all (live (first []))) (cut_script h)
