-- The refusals of an audit, from book bytes, and which lines are commands of ours. R n is point n of 05-request-readings.md.
use Prim.Native.Nat.{ℕ}
use mathlib.Core.Path.{◌≡◌, refl}
use mathlib.Core.Bool.{Bool, true, false}
use mathlib.Core.List.{List, [], ◌∷◌, ◌++◌, map}
use lib.ListN.{replicate}
use Rattle.basics.specs.Text.{Text, ascii}
use Rattle.basics.specs.Outcome.{refused}
use Rattle.book.specs.Book.{Book, no_term}
use Rattle.command_lines.specs.CommandLines.{is_command}
use Rattle.audit.specs.Audit.{AuditCalled, audit_call}
use Rattle.worked_examples.proofs.Everything.{everything}
use Rattle.worked_examples.proofs.Books.{books, bytes32, written, small, none, explained}
use Rattle.worked_examples.proofs.Hosts.{hosts, dirty, clean}
use Rattle.worked_examples.proofs.Audits.{scripts, stated, node1, question1, own}

-- its one letter is none: 4
unlettered : Book
unlettered =
    written (record {
      letters = 0x1F ∷ [];
      names = [];
      types = [];
      constants = [];
      functions = [];
      axioms = [];
      patterns = [];
      terms = [];
      contexts = [];
      lists = [];
    })

audit : Book → (questions : List ℕ) → Text → AuditCalled
audit b questions script = audit_call b dirty (bytes32 questions) script

refused_by : ℕ → AuditCalled
refused_by n = record { answer = refused n; scratch = clean }

-- ---- REFUSALS
pub refusals : List (AuditCalled × AuditCalled)
unfolding everything books hosts scripts unlettered audit refused_by
refusals =
    -- 7: a node or a goal that is not in the book; a node without its goal; a number that is cut short. R 53
    (audit stated (3 ∷ 3 ∷ []) (node1 ++ question1), refused_by 7)
    ∷ (audit stated (1 ∷ 5 ∷ []) (node1 ++ question1), refused_by 7)
    ∷ (audit stated (1 ∷ []) [], refused_by 7)
    ∷ (audit_call stated dirty (bytes32 (1 ∷ 3 ∷ []) ++ (0 ∷ [])) (node1 ++ question1), refused_by 7)
    -- 9 by the node, and by the goal; a 7 behind it comes first; it comes before 26. R 54
    ∷ (audit (explained no_term 0) (1 ∷ 6 ∷ []) [], refused_by 9)
    ∷ (audit (explained no_term 0) (3 ∷ 6 ∷ 3 ∷ 7 ∷ []) (ascii "x"), refused_by 9)
    ∷ (audit (explained no_term 0) (1 ∷ 6 ∷ 4 ∷ 6 ∷ []) [], refused_by 7)
    -- 25, before 26 and 27. R 55
    ∷ (audit small [] [], refused_by 25)
    ∷ (audit small (1 ∷ 3 ∷ []) (ascii "x"), refused_by 25)
    -- 26: no end, an empty line, a foreign one, a pop of the first level, a bar that stays open. R 56, 57
    ∷ (audit stated [] (ascii "(push 1)"), refused_by 26)
    ∷ (audit stated [] (ascii "\n"), refused_by 26)
    ∷ (audit stated [] (ascii "(push 1)\n(exit)\n"), refused_by 26)
    ∷ (audit stated [] (ascii "(push 1)\n(pop 1)\n(pop 1)\n(push 1)\n"), refused_by 26)
    ∷ (audit stated [] (ascii "(assert |f)\n|)\n"), refused_by 26)
    -- 26 before 27, wherever it stands; 27 before any comparison. R 59
    ∷ (audit stated (1 ∷ 3 ∷ []) (own ++ ascii "(pop 1)\n(exit)\n"), refused_by 26)
    ∷ (audit stated (1 ∷ 3 ∷ []) own, refused_by 27)
    ∷ (audit stated (1 ∷ 3 ∷ []) [], refused_by 27)
    ∷ (audit stated [] (ascii "(assert f)\n(check-sat)\n"), refused_by 27)
    -- a script of 65,536 bytes, and a longer one: 3. R 52
    ∷ (audit none [] (replicate 65536 0x20), refused_by 26)
    ∷ (audit none [] (replicate 65537 0x20), refused_by 3)
    -- it comes before 4, and behind 1 and 2
    ∷ (audit unlettered [] [], refused_by 4)
    ∷ (audit unlettered [] (replicate 65537 0x20), refused_by 3)
    -- before all that: a bad book, and a short scratch, which stays as it is
    ∷ (audit [] (1 ∷ []) (replicate 65537 0x20), refused_by 2)
    ∷ (audit_call [] (replicate 127 0x55) [] [], record { answer = refused 1; scratch = replicate 127 0x55 })
    ∷ []

pub refusals_hold : map (λ e. e.0) refusals ≡ map (λ e. e.1) refusals
unfolding refusals
refusals_hold = refl

-- ---- LINES
pub commands : List (Bool × Bool)
unfolding everything
commands =
    (is_command (ascii "(push 1)"), true)
    ∷ (is_command (ascii "(get-model)"), true)
    ∷ (is_command (ascii "(declare-sort T 0)"), true)
    ∷ (is_command (ascii "(declare-fun f () Bool)"), true)
    -- only the start, the parentheses and the bytes are looked at, and between bars only the bytes. R 57, 58
    ∷ (is_command (ascii "(assert )"), true)
    ∷ (is_command (ascii "(assert |;\"(|)"), true)
    ∷ (is_command (ascii "(assert (a)) "), false)
    ∷ (is_command (ascii " (assert a)"), false)
    ∷ (is_command (ascii "(assert a)b)"), false)
    ∷ (is_command (ascii "(assert (a)"), false)
    ∷ (is_command (ascii "(assert a;)"), false)
    ∷ (is_command (ascii "(assert |a)"), false)
    ∷ (is_command (ascii "(assert |\t|)"), false)
    ∷ (is_command (ascii "(assert)"), false)
    -- no other spelling of the four. R 56
    ∷ (is_command (ascii "(push)"), false)
    ∷ (is_command (ascii "(push 2)"), false)
    ∷ (is_command (ascii "(pop 1) "), false)
    ∷ (is_command (ascii "; x"), false)
    ∷ (is_command [], false)
    ∷ []

pub commands_hold : map (λ e. e.0) commands ≡ map (λ e. e.1) commands
unfolding commands
commands_hold = refl
