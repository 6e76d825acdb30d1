-- Slices that the library finds equal are the same text.
use mathlib.Core.Path.{◌≡◌, ◌∙◌}
use mathlib.Core.Bool.{Bool}
use lib.Dec.{eqb}
use Rattle.std.specs.Cmp.Lexicographic.{pointwise}
use Rattle.basics.specs.Text.{Text, same}
use Rattle.basics.proofs.Texts.{same_pointwise}

pub compared : {s u : Text} (t : Text) {r : Bool} → s ≡ u → r ≡ pointwise eqb s t → r ≡ same u t
compared {s} t e h = rw (← e) (h ∙ same_pointwise s t)
