-- The turns of a session to the other kind, on byte images, on document 01's sample. R n is point n of 05-request-readings.md.
use Prim.Native.Nat.{ℕ, ◌+◌}
use mathlib.Core.Path.{◌≡◌, refl}
use mathlib.Core.List.{List, [], ◌∷◌, ◌++◌, map}
use lib.ListN.{take, replicate}
use Rattle.basics.specs.Outcome.{refused, accepted}
use Rattle.rsolver.specs.LevelState.{constant_places}
use Rattle.solvers.specs.Narrow.{TurnLeft, widened_on_image, narrowed_on_image}
use Rattle.worked_examples.proofs.Everything.{everything}
use Rattle.worked_examples.proofs.Books.{books, bytes32, sample}
use Rattle.worked_examples.proofs.Hosts.{hosts, dirty, clean, blank, levels, pairs}

-- at node 3, where x is declared at level 1
stored : List ℕ
stored = levels ((constant_places + 0, 1) ∷ [])

narrow : (kind node goal owed : ℕ) → List ℕ
narrow kind node goal owed = bytes32 (kind ∷ node ∷ goal ∷ owed ∷ []) ++ stored

wide : (kind node goal owed : ℕ) → List ℕ
wide kind node goal owed = bytes32 (kind ∷ node ∷ goal ∷ owed ∷ []) ++ pairs stored

-- into a buffer of its own, which holds something before
widen : (room : ℕ) → List ℕ → TurnLeft
widen room image = widened_on_image sample dirty image (blank room)

back : (room : ℕ) → List ℕ → TurnLeft
back room image = narrowed_on_image sample dirty image (blank room)

gives : List ℕ → TurnLeft
gives image = record { answer = accepted tt; image = image; scratch = clean }

refuses : (room n : ℕ) → TurnLeft
refuses room n = record { answer = refused n; image = blank room; scratch = clean }

pub turns : List (TurnLeft × TurnLeft)
unfolding everything books hosts stored narrow wide widen back gives refuses
turns =
    -- no question open; a reply and a model owed, with the goal. R 46
    (widen 3216 (narrow 1 3 0 0), gives (wide 2 3 0 0))
    ∷ (widen 3216 (narrow 1 3 18 1), gives (wide 2 3 18 1))
    ∷ (widen 3216 (narrow 1 3 18 2), gives (wide 2 3 18 2))
    ∷ (back 1616 (wide 2 3 0 0), gives (narrow 1 3 0 0))
    ∷ (back 1616 (wide 2 3 18 1), gives (narrow 1 3 18 1))
    ∷ (back 1616 (wide 2 3 18 2), gives (narrow 1 3 18 2))
    -- the other kind, whole or with the other number only. R 43
    ∷ (widen 3216 (wide 2 3 0 0), refuses 3216 20)
    ∷ (widen 3216 (narrow 2 3 0 0), refuses 3216 20)
    ∷ (back 1616 (narrow 1 3 0 0), refuses 1616 20)
    ∷ (back 1616 (wide 1 3 0 0), refuses 1616 20)
    -- a byte too few or too many, of either image. R 47
    ∷ (widen 3216 (take 1615 (narrow 1 3 0 0)), refuses 3216 20)
    ∷ (widen 3215 (narrow 1 3 0 0), refuses 3215 20)
    ∷ (widen 3217 (narrow 1 3 0 0), refuses 3217 20)
    ∷ (back 1616 (wide 2 3 0 0 ++ (0 ∷ [])), refuses 1616 20)
    ∷ (back 1615 (wide 2 3 0 0), refuses 1615 20)
    ∷ (back 1617 (wide 2 3 0 0), refuses 1617 20)
    -- another node, a goal where none is open, a third thing owed
    ∷ (widen 3216 (narrow 1 2 0 0), refuses 3216 20)
    ∷ (back 1616 (wide 2 3 18 0), refuses 1616 20)
    ∷ (back 1616 (wide 2 3 18 3), refuses 1616 20)
    -- before all that: a short scratch, which stays as it is, and a bad book
    ∷ (widened_on_image [] (replicate 127 0x55) [] (blank 1), record { answer = refused 1; image = blank 1; scratch = replicate 127 0x55 })
    ∷ (narrowed_on_image [] dirty (wide 2 3 0 0) (blank 1616), refuses 1616 2)
    ∷ []

pub turns_hold : map (λ e. e.0) turns ≡ map (λ e. e.1) turns
unfolding turns
turns_hold = refl
