-- Replies and models, and sessions that are refused with 20, on document 01's sample. R n is point n of 03-readings.md.
use Prim.Native.Nat.{ℕ, ◌+◌}
use mathlib.Core.Path.{◌≡◌, refl}
use mathlib.Core.Bool.{true, false}
use mathlib.Core.Option.{Option, none, some}
use mathlib.Core.List.{List, [], ◌∷◌, ◌++◌, map}
use lib.ListN.{take, replicate}
use Rattle.basics.specs.Text.{Text, ascii}
use Rattle.basics.specs.Outcome.{refused, accepted}
use Rattle.rsolver.specs.LevelState.{constant_places, function_places, axiom_places, literal_places}
use Rattle.solvers.specs.declared.Owed.{Owed}
use Rattle.solvers.specs.declared.Owed.TheVariants.{Nothing, Reply, Model}
use Rattle.solvers.specs.declared.Session.{Session}
use Rattle.solvers.specs.Session.{session, fresh_session}
use Rattle.solvers.specs.Calls.{move_to, reply_with, model_with}
use Rattle.solvers.specs.Left.{Left, proved, called}
use Rattle.solvers.specs.Image.{ImageLeft, called_on_image}
use Rattle.worked_examples.proofs.Everything.{everything}
use Rattle.worked_examples.proofs.Books.{books, bytes32, sample, small, none as empty}
use Rattle.worked_examples.proofs.Hosts.{hosts, clean, blank, host, writes, proves, fails, refuses, levels, pairs}

-- at node 3 x is declared at level 1, and so it is at node 1
at : (node goal : ℕ) → Owed → Session
at node goal owed = session node goal owed (levels ((constant_places + 0, 1) ∷ []))

at2 : Session
at2 =
    session 2 0 Nothing
    (levels ((constant_places + 0, 1) ∷ (constant_places + 1, 2) ∷ (function_places + 0, 2) ∷ (axiom_places + 0, 2) ∷ []))

-- ---- REPLIES AND MODELS, to goal 18 at node 3, in buffers with so much room
reply : (room reason_room : ℕ) → Text → Left
reply room reason_room text = called sample (at 3 18 Reply) (reply_with (host room reason_room) true text)

failed : (room reason_room : ℕ) → Text → Left
failed room reason_room error = called sample (at 3 18 Reply) (reply_with (host room reason_room) false error)

model : (room reason_room : ℕ) → Text → Option Text → Left
model room reason_room text m = called sample (at 3 18 Model) (model_with (host room reason_room) text m)

pops : Text
pops = ascii "(pop 1)\n(pop 1)\n"

pub replies : List (Left × Left)
unfolding everything books hosts at at2 reply failed model pops
replies =
    -- unsat proves, and its reason buffer may have no room. R 27
    (reply 20 9 (ascii "unsat"), proves 20 9 (at 3 0 Nothing) pops)
    ∷ (reply 16 0 (ascii "unsat"), proves 16 0 (at 3 0 Nothing) pops)
    ∷ (reply 15 0 (ascii "unsat"), refuses 15 0 (at 3 18 Reply) 10)
    -- any other reply asks for the model, also one that only begins so, and an empty one. R 23, 42
    ∷ (reply 20 9 (ascii "sat"), writes 20 9 (at 3 18 Model) (ascii "(get-model)\n"))
    ∷ (reply 12 0 (ascii "unsat\n"), writes 12 0 (at 3 18 Model) (ascii "(get-model)\n"))
    ∷ (reply 12 0 [], writes 12 0 (at 3 18 Model) (ascii "(get-model)\n"))
    ∷ (reply 12 0 (0 ∷ 255 ∷ []), writes 12 0 (at 3 18 Model) (ascii "(get-model)\n"))
    -- a failed check is Unproved, also with the error text unsat, or none. R 43
    ∷ (failed 20 9 (ascii "unsat"), fails 20 9 (at 3 0 Nothing) pops (ascii "unsat"))
    ∷ (failed 20 9 [], fails 20 9 (at 3 0 Nothing) pops [])
    ∷ (failed 16 5 (ascii "unsat"), fails 16 5 (at 3 0 Nothing) pops (ascii "unsat"))
    ∷ (failed 16 4 (ascii "unsat"), refuses 16 4 (at 3 18 Reply) 10)
    -- the reason is the reply, and if a model came a newline and the model, also an empty one. R 24, 44
    ∷ (model 20 20 (ascii "sat") (some (ascii "(model)")), fails 20 20 (at 3 0 Nothing) pops (ascii "sat\n(model)"))
    ∷ (model 20 20 (ascii "sat") none, fails 20 20 (at 3 0 Nothing) pops (ascii "sat"))
    ∷ (model 20 20 (ascii "sat") (some []), fails 20 20 (at 3 0 Nothing) pops (ascii "sat\n"))
    ∷ (model 16 11 (ascii "sat") (some (ascii "(model)")), fails 16 11 (at 3 0 Nothing) pops (ascii "sat\n(model)"))
    ∷ (model 16 10 (ascii "sat") (some (ascii "(model)")), refuses 16 10 (at 3 18 Model) 10)
    ∷ (model 15 11 (ascii "sat") none, refuses 15 11 (at 3 18 Model) 10)
    -- unsat is no reply to give with a model: 8, before 10
    ∷ (model 0 0 (ascii "unsat") none, refuses 0 0 (at 3 18 Model) 8)
    ∷ (model 16 9 (ascii "unsat\n") none, fails 16 9 (at 3 0 Nothing) pops (ascii "unsat\n"))
    -- what is not owed: 21, 22, 23, before 8 and 10. R 22
    ∷ (called sample (at 3 18 Model) (reply_with (host 0 0) true (ascii "unsat")), refuses 0 0 (at 3 18 Model) 22)
    ∷ (called sample (at 3 18 Reply) (model_with (host 0 0) (ascii "unsat") none), refuses 0 0 (at 3 18 Reply) 23)
    ∷ (called sample (at 3 0 Nothing) (model_with (host 0 0) (ascii "unsat") none), refuses 0 0 (at 3 0 Nothing) 23)
    ∷ (called sample (at 3 18 Model) (move_to (host 0 0) 3), refuses 0 0 (at 3 18 Model) 21)
    ∷ []

pub replies_hold : map (λ e. e.0) replies ≡ map (λ e. e.1) replies
unfolding replies
replies_hold = refl

-- ---- SESSIONS THAT NO FRESH ONE COMES TO
-- a move to the root, with room for two pops
home : Session → Left
home s = called sample s (move_to (host 16 0) 0)

pub strangers : List (Left × Left)
unfolding everything books hosts at at2 home pops
strangers =
    (home at2, writes 16 0 fresh_session pops)
    -- node 1 has the levels of node 3, and both are sessions. R 36
    ∷ (home (at 1 0 Nothing), writes 16 0 fresh_session (ascii "(pop 1)\n"))
    -- nor node 2 nor the root has them, nor is there a node 4: 20, and 7 only for the call's own node. R 19, 29
    ∷ (home (at 2 0 Nothing), refuses 16 0 (at 2 0 Nothing) 20)
    ∷ (home (at 0 0 Nothing), refuses 16 0 (at 0 0 Nothing) 20)
    ∷ (home (at 4 0 Nothing), refuses 16 0 (at 4 0 Nothing) 20)
    ∷ (called sample (at 4 0 Nothing) (move_to (host 16 0) 4), refuses 16 0 (at 4 0 Nothing) 7)
    -- from another book
    ∷ (called small at2 (move_to (host 16 0) 0), refuses 16 0 at2 20)
    -- another level; a level more, at a term that is no literal. R 34
    ∷ (
      home (session 3 0 Nothing (levels ((constant_places + 0, 2) ∷ []))),
      refuses 16 0 (session 3 0 Nothing (levels ((constant_places + 0, 2) ∷ []))) 20,
    )
    ∷ (
      home (session 3 0 Nothing (levels ((constant_places + 0, 1) ∷ (literal_places + 0, 1) ∷ []))),
      refuses 16 0 (session 3 0 Nothing (levels ((constant_places + 0, 1) ∷ (literal_places + 0, 1) ∷ []))) 20,
    )
    -- a goal where none is open; one that is not in the book, before 22 and before 21. R 32
    ∷ (home (at 3 18 Nothing), refuses 16 0 (at 3 18 Nothing) 20)
    ∷ (
      called sample (at 3 19 Model) (reply_with (host 16 0) true (ascii "unsat")),
      refuses 16 0 (at 3 19 Model) 20,
    )
    ∷ (home (at 3 19 Reply), refuses 16 0 (at 3 19 Reply) 20)
    ∷ (home (at 3 18 Reply), refuses 16 0 (at 3 18 Reply) 21)
    -- a book without terms has no open question. R 32
    ∷ (
      called empty (session 0 0 Reply (levels [])) (reply_with (host 16 0) true (ascii "unsat")),
      refuses 16 0 (session 0 0 Reply (levels [])) 20,
    )
    -- before all that: short scratch, which stays as it is, and a bad book
    ∷ (
      called [] (at 4 0 Nothing) (move_to (record { scratch = replicate 127 0x55; text = blank 16; reason = [] }) 4),
      record { answer = refused 1; session = at 4 0 Nothing; text = blank 16; reason = []; scratch = replicate 127 0x55 },
    )
    ∷ (called [] (at 4 0 Nothing) (move_to (host 16 0) 4), refuses 16 0 (at 4 0 Nothing) 2)
    ∷ []

pub strangers_hold : map (λ e. e.0) strangers ≡ map (λ e. e.1) strangers
unfolding strangers
strangers_hold = refl

-- ---- THE SAME ON BYTE IMAGES: kind 2, node, goal, what is owed, and the levels
image : (kind node goal owed : ℕ) → List ℕ
image kind node goal owed = bytes32 (kind ∷ node ∷ goal ∷ owed ∷ []) ++ pairs (levels ((constant_places + 0, 1) ∷ []))

-- the reply unsat to an image
unsat : List ℕ → ImageLeft
unsat bytes = called_on_image sample bytes (reply_with (host 16 0) true (ascii "unsat"))

-- no session: the bytes as they were
stays : ℕ → List ℕ → ImageLeft
stays n bytes = record { answer = refused n; image = bytes; text = blank 16; reason = []; scratch = clean }

-- the narrow kind, of the same session
narrow : List ℕ
narrow = bytes32 (1 ∷ 3 ∷ 18 ∷ 1 ∷ []) ++ levels ((constant_places + 0, 1) ∷ [])

pub images : List (ImageLeft × ImageLeft)
unfolding everything books hosts pops image unsat stays narrow
images =
    (unsat (image 2 3 18 1), record { answer = accepted (proved 16); image = image 2 3 0 0; text = pops; reason = []; scratch = clean })
    ∷ (unsat (image 2 3 18 2), stays 22 (image 2 3 18 2))
    -- another kind, a third thing owed, a byte too few or too many, none at all. R 32
    ∷ (unsat (image 1 3 18 1), stays 20 (image 1 3 18 1))
    ∷ (unsat (image 3 3 18 1), stays 20 (image 3 3 18 1))
    ∷ (unsat (image 2 3 18 3), stays 20 (image 2 3 18 3))
    ∷ (unsat (take 3215 (image 2 3 18 1)), stays 20 (take 3215 (image 2 3 18 1)))
    ∷ (unsat (image 2 3 18 1 ++ (0 ∷ [])), stays 20 (image 2 3 18 1 ++ (0 ∷ [])))
    ∷ (unsat [], stays 20 [])
    -- the narrow kind
    ∷ (unsat narrow, stays 20 narrow)
    ∷ []

pub images_hold : map (λ e. e.0) images ≡ map (λ e. e.1) images
unfolding images
images_hold = refl
