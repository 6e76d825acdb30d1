-- What is written when a question is closed.
use Prim.Native.Nat.{ℕ, ◌+◌, ◌<◌}
use mathlib.Core.Path.{◌≡◌, sym}
use mathlib.Core.List.{List, [], ◌∷◌, append_assoc}
use lib.ListN.{length}
use Rattle.std.specs.Prelude.{Option, Some, None}
use Rattle.std.specs.Borrow.{Bor}
use Rattle.basics.specs.Text.{Text, newline}
use Rattle.basics.specs.Write.{MOST, WroteAt}
use Rattle.basics.proofs.Places.{at_then, at_as}
use Rattle.smt_engines.specs.Command.{Pop, script}
use Rattle.smt_engines.proofs.Hearing.{script_append}
use Rattle.solvers.specs.Returned.{lent_text}
use Rattle.replies.specs.Replies.{reason_text}

pub pops_wrote : {o o1 o2 : List ℕ} {r1 r : ℕ} → length o < MOST + 1 → WroteAt (script (Pop ∷ [])) 0 o o1 r1 → WroteAt (script (Pop ∷ [])) r1 o1 o2 r
    → WroteAt (script (Pop ∷ Pop ∷ [])) 0 o o2 r
pops_wrote short w1 w2 = at_as (sym (script_append (Pop ∷ []) (Pop ∷ []))) (at_then short w1 w2)

module _ (reply : Text) {model : Option (Bor Text)} {o o1 : List ℕ} {r : ℕ} where
  pub reply_alone : model ≡ None → WroteAt reply 0 o o1 r → WroteAt (reason_text reply (lent_text model)) 0 o o1 r
  unfolding reason_text lent_text
  reply_alone e w = rw e w

  pub reply_and_model : {m : Bor Text} {o2 o3 : List ℕ} {r1 r2 : ℕ} → model ≡ Some m → length o < MOST + 1 → WroteAt reply 0 o o2 r1 → WroteAt (newline ∷ []) r1 o2 o3 r2
      → WroteAt m.now r2 o3 o1 r → WroteAt (reason_text reply (lent_text model)) 0 o o1 r
  unfolding reason_text lent_text
  reply_and_model {m = m} e short w1 w2 w3 = rw e (at_as (append_assoc reply (newline ∷ []) m.now) (at_then short (at_then short w1 w2) w3))
