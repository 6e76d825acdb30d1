-- The byte image of a session, which the host holds (docs/SESSION.md): four words and the levels.
use Rattle.std.specs.Prelude.{ℕ, ◌+◌, ◌*◌, ◌/◌, ◌%◌, List, [], ◌∷◌, ◌++◌, Bool, true, false, ◌&&◌, eqb, ltb, length, get_or, drop, if◌then◌else◌}
use Rattle.basics.specs.Outcome.{Outcome, refused, accepted}
use Rattle.basics.specs.Bytes.{bytes4}
use Rattle.book.specs.Book.{Book, word}
use Rattle.rsolver.specs.LevelState.{level_count, no_levels}
use Rattle.solvers.specs.declared.Owed.{Owed}
use Rattle.solvers.specs.declared.Owed.TheVariants.{Nothing, Reply, Model}
use Rattle.solvers.specs.declared.Session.{Session}
use Rattle.solvers.specs.Session.{Written, session}
use Rattle.solvers.specs.Calls.{Call, host_of, call}
use Rattle.solvers.specs.Left.{Values, Left, called}

-- the layout: two bytes for each level
abbrev pub image_kind : ℕ
image_kind = 2

-- kind, node, goal and what is owed
abbrev pub head_size : ℕ
head_size = 16

abbrev pub image_size : ℕ
image_size = head_size + 2 * level_count

unfoldable pub owed_number : Owed → ℕ
owed_number Nothing = 0
owed_number Reply = 1
owed_number Model = 2

abbrev pub owed_values : List Owed
owed_values = Nothing ∷ Reply ∷ Model ∷ []

unfoldable pub owed_of : ℕ → Owed
owed_of n = get_or owed_values n Nothing

unfoldable pub head_of : (kind node goal : ℕ) → Owed → List ℕ
head_of kind node goal owed = bytes4 kind ++ bytes4 node ++ bytes4 goal ++ bytes4 (owed_number owed)

-- the low byte first
unfoldable pub level_bytes : List ℕ → List ℕ
level_bytes [] = []
level_bytes (l ∷ ls) = l % 256 ∷ l / 256 % 256 ∷ level_bytes ls

-- back; a last odd byte is dropped
unfoldable pub levels_in : List ℕ → List ℕ
levels_in [] = []
levels_in (low ∷ []) = []
levels_in (low ∷ high ∷ rest) = (low + 256 * high) ∷ levels_in rest

unfoldable pub write_image : Session → List ℕ
write_image s = head_of image_kind s.node s.goal s.owed ++ level_bytes s.levels

-- no book has this node, so that test 20 refuses it
unfoldable pub no_session : Session
no_session = session 0xFFFFFFFF 0 Nothing no_levels

-- bytes of this kind and size, with a known number for what is owed
unfoldable pub is_kind : (kind size : ℕ) → List ℕ → Bool
is_kind kind size image = eqb (length image) size && eqb (word image 0) kind && ltb (word image 12) (length owed_values)

unfoldable pub is_image : List ℕ → Bool
is_image image = is_kind image_kind image_size image

unfoldable pub read_image : List ℕ → Session
read_image image =
    if is_image image then session (word image 4) (word image 8) (owed_of (word image 12)) (levels_in (drop head_size image)) else no_session

-- THE CALLS move, ask, reply and model on an image: a refused one leaves its bytes as they are
unfoldable pub image_after : Outcome Values → Session → List ℕ → List ℕ
image_after (refused n) s image = image
image_after (accepted v) s image = write_image s

pub record ImageLeft : Type 0 where
  pub answer : Outcome Values
  pub image : List ℕ
  pub text : List ℕ
  pub reason : List ℕ
  pub scratch : List ℕ

unfoldable pub called_on_image : Book → (image : List ℕ) → Call → ImageLeft
called_on_image b image c =
    let l = called b (read_image image) c in
    record {
      answer = l.answer;
      image = image_after l.answer l.session image;
      text = l.text;
      reason = l.reason;
      scratch = l.scratch;
    }
