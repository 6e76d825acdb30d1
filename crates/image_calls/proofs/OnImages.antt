-- A call on an image is the call on the session that it holds.
use Prim.Native.Nat.{ℕ}
use mathlib.Core.Path.{◌≡◌, refl, sym, ap, ◌∙◌}
use mathlib.Core.List.{List}
use lib.ListN.{length}
use borrow.Author.Tests.{eq-eqb, ne_eqb}
use Rattle.std.specs.Prelude.{Result, Ok, Err}
use Rattle.basics.specs.Outcome.{accepted}
use Rattle.book.specs.Book.{Book}
use Rattle.book.specs.declared.Refusal.{Refusal}
use Rattle.book.specs.declared.Refusal.TheVariants.{NoSession}
use Rattle.solvers.specs.declared.Answer.{Answer}
use Rattle.solvers.specs.declared.Answer.TheVariants.{Written, Proved, Unproved}
use Rattle.solvers.specs.declared.Session.{Session}
use Rattle.solvers.specs.Calls.{Call}
use Rattle.solvers.specs.Session.{fresh_session}
use Rattle.solvers.specs.Left.{Values, written, proved, unproved, answer_value, called}
use Rattle.solvers.specs.Image.{image_size, read_image, write_image, image_after, called_on_image}
use Rattle.solvers.specs.Returned.{Returned}
use Rattle.images.proofs.Accepted.{accepted_long}
use Rattle.image_calls.specs.Stored.{ImageReturned, fresh_image, FreshImage}

-- an answer is an accepted call's
values_of : (v : Answer) → (x : Values) × (answer_value (Ok v) ≡ accepted x)
unfolding answer_value
values_of (Written n) = (written n, refl)
values_of (Proved n) = (proved n, refl)
values_of (Unproved n m) = (unproved n m, refl)

module _ (b : Book) (image : List ℕ) (c : Call) {s0 : Session} (held : s0 ≡ read_image image) {a : Result Answer Refusal} {s : Session} {t e sc : List ℕ}
    (R0 : Returned (called b s0 c) (record { answer = a; session = s }) t e sc) where
  R : Returned (called b (read_image image) c) (record { answer = a; session = s }) t e sc
  R = rw held at R0

  returned : {image' : List ℕ} → image' ≡ image_after (answer_value a) s image → ImageReturned (called_on_image b image c) a image' t e sc
  unfolding called_on_image
  returned w =
      record {
        answer = R.answer;
        image'' = w ∙ (λ i. image_after (R.answer i) (R.session i) image);
        text' = R.text';
        reason' = R.reason';
        scratch'' = R.scratch'';
      }

  -- a refused call leaves the image alone
  pub stopped : {why : Refusal} → a ≡ Err why → ImageReturned (called_on_image b image c) (Err why) image t e sc
  unfolding answer_value image_after
  stopped q = rw q at (returned {image' = image} (rw q))

  -- an accepted one finds room for its session's image
  pub room : {v : Answer} → a ≡ Ok v → length image ≡ image_size
  unfolding called_on_image
  room {v} q = let x = values_of v in accepted_long b image c x.0 (sym R.answer ∙ ap answer_value q ∙ x.1)

  pub stored : {v : Answer} {image' : List ℕ} → a ≡ Ok v → image' ≡ write_image s → ImageReturned (called_on_image b image c) (Ok v) image' t e sc
  unfolding image_after
  stored {v} {image'} q w = let x = values_of v in rw q at (returned {image' = image'} (rw (q, x.1) w))

pub no_room : (image : List ℕ) → (length image ≡ image_size → ⊥) → FreshImage image (Err NoSession) image
unfolding fresh_image
no_room image h = record { fits = rw (ne_eqb (length image) image_size h); left = rw (ne_eqb (length image) image_size h) }

pub fresh_there : (image : List ℕ) {s : Session} {image' : List ℕ} → length image ≡ image_size → s ≡ fresh_session → image' ≡ write_image s → FreshImage image (Ok tt) image'
unfolding fresh_image
fresh_there image h e w = record { fits = rw (eq-eqb (length image) image_size h); left = w ∙ rw (eq-eqb (length image) image_size h) (ap write_image e) }
