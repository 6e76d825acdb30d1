-- The name of a probe: `probe%` and a depth in decimal.
use Rattle.std.specs.Prelude.{ℕ, ◌++◌}
use Rattle.basics.specs.Text.{Text, ascii}
use Rattle.basics.specs.Basics.{nat2_string}

unfoldable pub probe_name : ℕ → Text
probe_name depth = ascii "probe%" ++ nat2_string depth

-- letters of the longest such name that a book has: the word, and a depth of three digits
abbrev pub probe_most : ℕ
probe_most = 9
