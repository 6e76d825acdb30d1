-- The call operator: document 01's fourteen names by code, and its refusals 11 and 10. R n is point n of 03-readings.md.
use Prim.Native.Nat.{ℕ}
use mathlib.Core.Path.{◌≡◌, refl}
use mathlib.Core.List.{List, [], ◌∷◌, map}
use lib.ListN.{length}
use Rattle.basics.specs.Text.{Text, ascii}
use Rattle.basics.specs.Outcome.{refused, accepted}
use Rattle.solver_expr.specs.Print.{OperatorNamed, operator_call}
use Rattle.worked_examples.proofs.Everything.{everything}
use Rattle.worked_examples.proofs.Hosts.{hosts, blank, filled}

-- in a buffer with so much room
named : (code room : ℕ) → OperatorNamed
named code room = operator_call code (blank room)

name : (room : ℕ) → Text → OperatorNamed
name room text = record { answer = accepted (length text); text = filled room text }

no : (room : ℕ) → ℕ → OperatorNamed
no room n = record { answer = refused n; text = blank room }

pub table : List (OperatorNamed × OperatorNamed)
unfolding everything hosts named name no
table =
    (named 1 4, name 4 (ascii "="))
    ∷ (named 2 4, name 4 (ascii "=>"))
    ∷ (named 3 4, name 4 (ascii "and"))
    ∷ (named 4 4, name 4 (ascii "or"))
    ∷ (named 5 4, name 4 (ascii "="))
    ∷ (named 6 4, name 4 (ascii "<"))
    ∷ (named 7 4, name 4 (ascii "<="))
    ∷ (named 8 4, name 4 (ascii "+"))
    ∷ (named 9 4, name 4 (ascii "-"))
    ∷ (named 10 4, name 4 (ascii "*"))
    ∷ (named 11 4, name 4 (ascii "div"))
    ∷ (named 12 4, name 4 (ascii "mod"))
    ∷ (named 13 4, name 4 (ascii "not"))
    ∷ (named 14 4, name 4 (ascii "-"))
    -- outside 1 to 14, also where nothing would fit. R 55
    ∷ (named 0 4, no 4 11)
    ∷ (named 15 4, no 4 11)
    ∷ (named 15 0, no 0 11)
    ∷ (named 0xFFFFFFFFFFFFFFFF 4, no 4 11)
    -- just the room, and one byte less
    ∷ (named 13 3, name 3 (ascii "not"))
    ∷ (named 13 2, no 2 10)
    ∷ (named 1 0, no 0 10)
    ∷ []

pub operators : map (λ e. e.0) table ≡ map (λ e. e.1) table
unfolding table
operators = refl
