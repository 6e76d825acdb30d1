use native.Mathlib.Omega.{arith}
use mathlib.Core.Path.{sym, ap, subst, ◌∙◌}
use Rattle.basics.proofs.Places.{at_then, at_as, at_length}
use Rattle.book_layout.specs.Table.{Counts, table_by}
use Rattle.book_growth.proofs.Within.{each_laid}
use Rattle.book_growth.proofs.Written.{counts_good, written_grown, bodies_none, bodies_more}
use Rattle.book_growth.proofs.grow_into.Goals as goal

pub put_table-at-requires : goal.put_table-at-requires
put_table-at-requires c = subst Counts (sym c.grown_counts-counts.ensures) (counts_good _ _ c.requires.1 c.requires.2 c.requires.3)

pub loop-section-init : goal.loop-section-init
loop-section-init c = (at_as (ap table_by c.grown_counts-counts.ensures ∙ bodies_none _ _) c.put_table-at.ensures, at_length c.put_table-at.ensures)

pub put_grown-at-requires : goal.put_grown-at-requires
put_grown-at-requires c = (omega arith, each_laid c.requires.0 c.loop-section.section (omega arith))

pub loop-section-preserved : goal.loop-section-preserved
loop-section-preserved c = (at_as (bodies_more _ _ c.loop-section.section) (at_then c.well_formed.1.1.0.0 c.loop-section.invariant.0 c.put_grown-at.ensures), at_length c.put_grown-at.ensures ∙ c.loop-section.invariant.1)

pub returns : goal.returns
returns c = at_as (written_grown _ _ _ c.requires.1 c.requires.2 c.requires.3 (omega arith)) c.loop-section.invariant.0
