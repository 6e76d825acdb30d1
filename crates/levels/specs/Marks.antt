-- A level, as a count.
use Rattle.std.specs.Prelude.{ℕ, zero, suc}

unfoldable pub declared : ℕ → ℕ
declared zero = 0
declared (suc l) = 1
