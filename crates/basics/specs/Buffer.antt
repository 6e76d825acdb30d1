-- What a call leaves in the buffers that the host lends.
use Rattle.std.specs.Prelude.{ℕ, List, [], ◌∷◌, ltb, length, replicate, if◌then◌else◌}
use Rattle.basics.specs.Text.{Text}
use Rattle.basics.specs.Outcome.{Outcome, refused, accepted}

-- the text written over the front of a buffer, as far as the buffer goes
unfoldable pub overlay : Text → List ℕ → List ℕ
overlay [] buffer = buffer
overlay (x ∷ text) [] = []
overlay (x ∷ text) (y ∷ buffer) = x ∷ overlay text buffer

-- an accepted call writes from byte 0 and touches nothing behind its text; a refused one touches nothing
unfoldable pub buffer_after : {A : Type 0} → Outcome A → (A → Text) → List ℕ → List ℕ
buffer_after (refused n) text_of buffer = buffer
buffer_after (accepted a) text_of buffer = overlay (text_of a) buffer

-- the least scratch that a call takes
abbrev pub scratch_least : ℕ
scratch_least = 128

-- all zero after every call that takes it, except under refusal 1, where it isn't touched
unfoldable pub scratch_after : List ℕ → List ℕ
scratch_after scratch = if ltb (length scratch) scratch_least then scratch else replicate (length scratch) 0
