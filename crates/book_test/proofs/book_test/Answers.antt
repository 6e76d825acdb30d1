use Rattle.book_test.proofs.Answers.{untouched, zeroed, fields_fail, terms_fail, range_pass, refused_1, refused_2, refused_3, refused_4, refused_5, refused_6, refused_28, accepted_all}
use Rattle.book_test.proofs.Given.{followed, rooted, spelled}
use Rattle.book_test.proofs.Contents.{contents_stand, all_laid}
use Rattle.book_test.specs.BookTest.{tested_value, book_test_call}
use Rattle.book_forest.proofs.Stored.{room_enough}
use Rattle.book.specs.Refusal.{number}
use Rattle.book.specs.Book.{terms, size}
use Rattle.basics.proofs.Bool.{passed, failed}
use lib.ListN.{length, replicate}
use mathlib.Core.Path.{sym, ap, ◌∙◌}
use native.Mathlib.Omega.{arith}
use Prim.Native.Nat.{ℕ}
use Rattle.std.proofs.lemmas.Bool.{not_from_false, not_from_true}
use Rattle.book_test.proofs.book_test.Goals as goal

pub returns-then-scratch-lt-SCRATCH_LEAST : goal.returns-then-scratch-lt-SCRATCH_LEAST
unfolding tested_value number book_test_call
returns-then-scratch-lt-SCRATCH_LEAST c = (refused_1 c.args.book.now (length c.args.scratch.now) c.if-scratch-lt-SCRATCH_LEAST.true, untouched c.args.scratch.now c.if-scratch-lt-SCRATCH_LEAST.true)

pub returns-then-not-laid_out : goal.returns-then-not-laid_out
unfolding tested_value number book_test_call
returns-then-not-laid_out c = (refused_2 c.args.book.now (length c.args.scratch.now) c.if-scratch-lt-SCRATCH_LEAST.false (failed c.laid_out.ensures (not_from_false _ c.if-not-laid_out.true)), c.clear.ensures ∙ zeroed c.args.scratch.now c.if-scratch-lt-SCRATCH_LEAST.false)

pub counts_fit-requires : goal.counts_fit-requires
counts_fit-requires c = contents_stand _ (passed c.laid_out.ensures (not_from_true _ c.if-not-laid_out.false))

pub returns-then-not-counts_fit : goal.returns-then-not-counts_fit
unfolding tested_value number book_test_call
returns-then-not-counts_fit c = (refused_3 c.args.book.now (length c.args.scratch.now) c.if-scratch-lt-SCRATCH_LEAST.false (passed c.laid_out.ensures (not_from_true _ c.if-not-laid_out.false)) (failed c.counts_fit.ensures (not_from_false _ c.if-not-counts_fit.true)), c.clear.ensures ∙ zeroed c.args.scratch.now c.if-scratch-lt-SCRATCH_LEAST.false)

pub fields_in_range-requires : goal.fields_in_range-requires
fields_in_range-requires c = all_laid _ (passed c.laid_out.ensures (not_from_true _ c.if-not-laid_out.false)) (passed c.counts_fit.ensures (not_from_true _ c.if-not-counts_fit.false))

pub returns-then-not-fields_in_range : goal.returns-then-not-fields_in_range
unfolding tested_value number book_test_call
returns-then-not-fields_in_range c = (refused_4 c.args.book.now (length c.args.scratch.now) c.if-scratch-lt-SCRATCH_LEAST.false (passed c.laid_out.ensures (not_from_true _ c.if-not-laid_out.false)) (passed c.counts_fit.ensures (not_from_true _ c.if-not-counts_fit.false)) (fields_fail _ (failed c.fields_in_range.ensures (not_from_false _ c.if-not-fields_in_range.true))), c.clear.ensures ∙ zeroed c.args.scratch.now c.if-scratch-lt-SCRATCH_LEAST.false)

pub terms_in_range-requires : goal.terms_in_range-requires
terms_in_range-requires c = all_laid _ (passed c.laid_out.ensures (not_from_true _ c.if-not-laid_out.false)) (passed c.counts_fit.ensures (not_from_true _ c.if-not-counts_fit.false))

pub returns-then-not-terms_in_range : goal.returns-then-not-terms_in_range
unfolding tested_value number book_test_call
returns-then-not-terms_in_range c = (refused_4 c.args.book.now (length c.args.scratch.now) c.if-scratch-lt-SCRATCH_LEAST.false (passed c.laid_out.ensures (not_from_true _ c.if-not-laid_out.false)) (passed c.counts_fit.ensures (not_from_true _ c.if-not-counts_fit.false)) (terms_fail _ (failed c.terms_in_range.ensures (not_from_false _ c.if-not-terms_in_range.true))), c.clear.ensures ∙ zeroed c.args.scratch.now c.if-scratch-lt-SCRATCH_LEAST.false)

pub is_forest-requires : goal.is_forest-requires
is_forest-requires c =
    let L = all_laid c.args.book.now (passed c.laid_out.ensures (not_from_true _ c.if-not-laid_out.false)) (passed c.counts_fit.ensures (not_from_true _ c.if-not-counts_fit.false)) in (
      L,
      followed _ (range_pass _ (passed c.fields_in_range.ensures (not_from_true _ c.if-not-fields_in_range.false)) (passed c.terms_in_range.ensures (not_from_true _ c.if-not-terms_in_range.false))),
      room_enough (size c.args.book.now terms) c.clear.new.scratch (omega (arith, L.terms_laid.few, c.clear.auto.scratch, c.if-scratch-lt-SCRATCH_LEAST.false)),
      c.clear.ensures ∙ ap (λ (n : ℕ). replicate n 0) (sym c.clear.auto.scratch),
    )

pub returns-then-not-is_forest : goal.returns-then-not-is_forest
unfolding tested_value number book_test_call
returns-then-not-is_forest c = (refused_5 c.args.book.now (length c.args.scratch.now) c.if-scratch-lt-SCRATCH_LEAST.false (passed c.laid_out.ensures (not_from_true _ c.if-not-laid_out.false)) (passed c.counts_fit.ensures (not_from_true _ c.if-not-counts_fit.false)) (range_pass _ (passed c.fields_in_range.ensures (not_from_true _ c.if-not-fields_in_range.false)) (passed c.terms_in_range.ensures (not_from_true _ c.if-not-terms_in_range.false))) (failed c.is_forest.ensures.0 (not_from_false _ c.if-not-is_forest.true)), c.is_forest.ensures.1 ∙ ap (λ (n : ℕ). replicate n 0) c.clear.auto.scratch ∙ zeroed c.args.scratch.now c.if-scratch-lt-SCRATCH_LEAST.false)

pub shallow-requires : goal.shallow-requires
shallow-requires c = ((all_laid _ (passed c.laid_out.ensures (not_from_true _ c.if-not-laid_out.false)) (passed c.counts_fit.ensures (not_from_true _ c.if-not-counts_fit.false))).contexts_laid, rooted _ (range_pass _ (passed c.fields_in_range.ensures (not_from_true _ c.if-not-fields_in_range.false)) (passed c.terms_in_range.ensures (not_from_true _ c.if-not-terms_in_range.false))))

pub returns-then-not-shallow : goal.returns-then-not-shallow
unfolding tested_value number book_test_call
returns-then-not-shallow c = (refused_6 c.args.book.now (length c.args.scratch.now) c.if-scratch-lt-SCRATCH_LEAST.false (passed c.laid_out.ensures (not_from_true _ c.if-not-laid_out.false)) (passed c.counts_fit.ensures (not_from_true _ c.if-not-counts_fit.false)) (range_pass _ (passed c.fields_in_range.ensures (not_from_true _ c.if-not-fields_in_range.false)) (passed c.terms_in_range.ensures (not_from_true _ c.if-not-terms_in_range.false))) (passed c.is_forest.ensures.0 (not_from_true _ c.if-not-is_forest.false)) (failed c.shallow.ensures (not_from_false _ c.if-not-shallow.true)), c.is_forest.ensures.1 ∙ ap (λ (n : ℕ). replicate n 0) c.clear.auto.scratch ∙ zeroed c.args.scratch.now c.if-scratch-lt-SCRATCH_LEAST.false)

pub names_good-requires : goal.names_good-requires
names_good-requires c = (all_laid _ (passed c.laid_out.ensures (not_from_true _ c.if-not-laid_out.false)) (passed c.counts_fit.ensures (not_from_true _ c.if-not-counts_fit.false)), spelled _ (range_pass _ (passed c.fields_in_range.ensures (not_from_true _ c.if-not-fields_in_range.false)) (passed c.terms_in_range.ensures (not_from_true _ c.if-not-terms_in_range.false))))

pub returns-then-not-names_good : goal.returns-then-not-names_good
unfolding tested_value number book_test_call
returns-then-not-names_good c = (refused_28 c.args.book.now (length c.args.scratch.now) c.if-scratch-lt-SCRATCH_LEAST.false (passed c.laid_out.ensures (not_from_true _ c.if-not-laid_out.false)) (passed c.counts_fit.ensures (not_from_true _ c.if-not-counts_fit.false)) (range_pass _ (passed c.fields_in_range.ensures (not_from_true _ c.if-not-fields_in_range.false)) (passed c.terms_in_range.ensures (not_from_true _ c.if-not-terms_in_range.false))) (passed c.is_forest.ensures.0 (not_from_true _ c.if-not-is_forest.false)) (passed c.shallow.ensures (not_from_true _ c.if-not-shallow.false)) (failed c.names_good.ensures (not_from_false _ c.if-not-names_good.true)), c.is_forest.ensures.1 ∙ ap (λ (n : ℕ). replicate n 0) c.clear.auto.scratch ∙ zeroed c.args.scratch.now c.if-scratch-lt-SCRATCH_LEAST.false)

pub returns : goal.returns
unfolding tested_value number book_test_call
returns c = (accepted_all c.args.book.now (length c.args.scratch.now) c.if-scratch-lt-SCRATCH_LEAST.false (passed c.laid_out.ensures (not_from_true _ c.if-not-laid_out.false)) (passed c.counts_fit.ensures (not_from_true _ c.if-not-counts_fit.false)) (range_pass _ (passed c.fields_in_range.ensures (not_from_true _ c.if-not-fields_in_range.false)) (passed c.terms_in_range.ensures (not_from_true _ c.if-not-terms_in_range.false))) (passed c.is_forest.ensures.0 (not_from_true _ c.if-not-is_forest.false)) (passed c.shallow.ensures (not_from_true _ c.if-not-shallow.false)) (passed c.names_good.ensures (not_from_true _ c.if-not-names_good.false)), c.is_forest.ensures.1 ∙ ap (λ (n : ℕ). replicate n 0) c.clear.auto.scratch ∙ zeroed c.args.scratch.now c.if-scratch-lt-SCRATCH_LEAST.false)
