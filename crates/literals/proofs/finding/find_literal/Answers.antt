use Prim.Native.Nat.{suc}
use native.Mathlib.Omega.{arith}
use native.Mathlib.Numerals.{add-one}
use mathlib.Core.Path.{sym, ap, ◌∙◌}
use borrow.Author.Count.{below_more}
use Rattle.literals.proofs.Going.{gone_before, none_gone, gone_next, gone_most, found_here, found_nowhere}
use Rattle.literals.proofs.finding.find_literal.Goals as goal

pub loop-k-init : goal.loop-k-init
loop-k-init c = (c.count-k-end.ensures.is, none_gone c.args.book.now, λ j l. absurd (omega arith))

pub overflow_add-gone : goal.overflow_add-gone
overflow_add-gone c = omega (arith, gone_next _ _ (omega (arith, c.loop-k.invariant.0)) c.loop-k.invariant.1 c.literals_at-gone.ensures, gone_most c.args.book.now (suc c.loop-k.k), c.loop-k.invariant.0, c.requires.0.terms_laid.few)

pub returns-then-declares_name : goal.returns-then-declares_name
returns-then-declares_name c = found_here _ _ _ c.loop-k.k (omega (arith, c.loop-k.invariant.0)) c.declares_name.ensures c.if-declares_name.true c.loop-k.invariant.2 (gone_next _ _ (omega (arith, c.loop-k.invariant.0)) c.loop-k.invariant.1 c.literals_at-gone.ensures)

pub loop-k-preserved : goal.loop-k-preserved
loop-k-preserved c = (c.loop-k.invariant.0, gone_next _ _ (omega (arith, c.loop-k.invariant.0)) c.loop-k.invariant.1 c.literals_at-gone.ensures ∙ ap (gone_before c.args.book.now) (sym (add-one c.loop-k.k)), below_more _ _ c.loop-k.invariant.2 (sym c.declares_name.ensures ∙ c.if-declares_name.false))

pub returns : goal.returns
returns c = found_nowhere _ _ _ (omega (arith, c.loop-k.invariant.0)) c.loop-k.invariant.2 c.loop-k.invariant.1
