-- Texts are lists of bytes. A quoted text stands for its bytes: `ascii "true"`.
use Rattle.std.specs.Prelude.{ℕ, List, [], ◌∷◌, Bool, true, false, ◌&&◌, eqb}
use Prim.Native.Char.{code}
use Prim.Native.String.{String}
use Rattle.std.proofs.Math.Option.{Option, none, some}

abbrev pub Text : Type 0
Text = List ℕ

abbrev pub ascii : String → Text
ascii String.[] = []
ascii (String.◌∷◌ c s) = code c ∷ ascii s

-- the byte that ends a line
abbrev pub newline : ℕ
newline = 0x0A

abbrev pub space_byte : ℕ
space_byte = 0x20

-- the same bytes
unfoldable pub same : Text → Text → Bool
same [] [] = true
same [] (y ∷ ys) = false
same (x ∷ xs) [] = false
same (x ∷ xs) (y ∷ ys) = eqb x y && same xs ys

-- a text under a flag that says whether it came
unfoldable pub given : Bool → Text → Option Text
given false t = none
given true t = some t
