-- What a call on an image returns and leaves.
use Rattle.std.specs.Prelude.{ℕ, ◌≡◌, List, Result, Ok, Err, eqb, length, if◌then◌else◌}
use Rattle.book.specs.declared.Refusal.{Refusal}
use Rattle.book.specs.declared.Refusal.TheVariants.{NoSession}
use Rattle.solvers.specs.declared.Answer.{Answer}
use Rattle.solvers.specs.Session.{fresh_session}
use Rattle.solvers.specs.Left.{answer_value}
use Rattle.solvers.specs.Image.{image_size, write_image, ImageLeft}

-- THE CALLS ON IMAGES: answer, image, text, reason and scratch are the definition's
pub record ImageReturned (l : ImageLeft) (r : Result Answer Refusal) (image text reason scratch : List ℕ) : Type 0 where
  pub answer : answer_value r ≡ l.answer
  pub image'' : image ≡ l.image
  pub text' : text ≡ l.text
  pub reason' : reason ≡ l.reason
  pub scratch'' : scratch ≡ l.scratch

-- THE CALL fresh: an image of a fresh session, where there is room for just that
unfoldable pub fresh_image : List ℕ → List ℕ
fresh_image image = if eqb (length image) image_size then write_image fresh_session else image

pub record FreshImage (image : List ℕ) (r : Result (Unit {0}) Refusal) (image' : List ℕ) : Type 0 where
  pub fits : r ≡ (if eqb (length image) image_size then Ok tt else Err NoSession)
  pub left : image' ≡ fresh_image image
