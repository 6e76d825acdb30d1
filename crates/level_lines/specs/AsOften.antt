-- Levels that hold the same lines, each as often, in any order.
use Rattle.std.specs.Prelude.{ℕ, ◌+◌, Bool, false, ◌&&◌, List, [], ◌∷◌, eqb, length, if◌then◌else◌}
use Rattle.basics.specs.Text.{Text, same}
use Rattle.basics.specs.Lists.{all}
use Rattle.smt_engines.specs.Reader.{Stack, first, over}

unfoldable pub times_in : Text → List Text → ℕ
times_in x [] = 0
times_in x (y ∷ ys) = (if same x y then 1 else 0) + times_in x ys

-- a line is as often in the one as in the other
unfoldable pub even_in : List Text → List Text → Text → Bool
even_in l m x = eqb (times_in x l) (times_in x m)

unfoldable pub as_often : List Text → List Text → Bool
as_often l m = eqb (length l) (length m) && all l (even_in l m)

unfoldable pub same_levels : Stack → Stack → Bool
same_levels (first l) (first m) = as_often l m
same_levels (first l) (over m su) = false
same_levels (over l st) (first m) = false
same_levels (over l st) (over m su) = as_often l m && same_levels st su
