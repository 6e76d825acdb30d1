-- What is read of an image's head.
use Rattle.std.specs.Prelude.{ℕ, ◌≡◌, true, false, List, Option, Some, None}
use Rattle.book.specs.Book.{word}
use Rattle.solvers.specs.Image.{is_kind, owed_of}
use Rattle.images.specs.declared.Head.{Head}

abbrev pub head_at : List ℕ → Head
head_at image = record { node = word image 4; goal = word image 8; owed = owed_of (word image 12) }

-- the head of an image of this kind and size; none of other bytes
unfoldable pub ReadHead : (kind size : ℕ) → List ℕ → Option Head → Type 0
ReadHead kind size image None = is_kind kind size image ≡ false
ReadHead kind size image (Some h) = (is_kind kind size image ≡ true) × (h ≡ head_at image)
