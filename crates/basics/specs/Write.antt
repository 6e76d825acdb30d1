-- Text that is written into the free part of a buffer, as far as it goes; or, of the whole buffer, from a place on.
use Rattle.std.specs.Prelude.{◌≡◌, List, [], ◌∷◌, ℕ, zero, suc, ◌+◌, ◌-◌, ◌^◌, min, length, replicate}
use Rattle.basics.specs.Text.{Text}
use Rattle.basics.specs.Buffer.{overlay}

-- the number at which a length stays
abbrev pub MOST : ℕ
MOST = 2 ^ 64 - 1

-- a writer of the text t leaves o' of the buffer o, and answers the whole length of the text
pub record Wrote (t : Text) (o o' : List ℕ) (r : ℕ) : Type 0 where
  pub counted : r ≡ min (length t) MOST
  pub shown : o' ≡ overlay t o

-- the same of n times the byte b, where n may have stayed at MOST: for every count that n stands for
pub record WroteRepeat (b n : ℕ) (o o' : List ℕ) (r : ℕ) : Type 0 where
  pub text : (count : ℕ) → n ≡ min count MOST → Wrote (replicate count b) o o' r

-- the text written over a buffer from a place on, as far as the buffer goes
unfoldable pub overlay_at : ℕ → Text → List ℕ → List ℕ
overlay_at zero t o = overlay t o
overlay_at (suc n) t [] = []
overlay_at (suc n) t (y ∷ o) = y ∷ overlay_at n t o

-- a writer of the text t at a place leaves o' of the whole buffer o, and answers the place behind the text
pub record WroteAt (t : Text) (at : ℕ) (o o' : List ℕ) (r : ℕ) : Type 0 where
  pub counted : r ≡ min (at + length t) MOST
  pub shown : o' ≡ overlay_at at t o
