use native.Mathlib.Omega.{arith}
use Rattle.book_growth.proofs.Within.{each_laid}
use Rattle.book_growth.proofs.Written.{grows_each, counted_all}
use Rattle.book_growth.proofs.grown_counts.Goals as goal

pub grown_count-requires : goal.grown_count-requires
grown_count-requires c = (omega arith, each_laid c.requires.0 c.loop-section.section (omega arith), grows_each _ _ c.requires.1 c.loop-section.section (omega arith))

pub returns : goal.returns
returns c = counted_all _ _ c.loop-section.invariant.1 (λ k h. c.loop-section.invariant.0 k (omega (arith, h)))
