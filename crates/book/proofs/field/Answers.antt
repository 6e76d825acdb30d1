use native.Mathlib.Omega.{arith}
use mathlib.Core.Path.{◌∙◌}
use Rattle.book.proofs.Sections.{tabled, field_at, field_fits}
use Rattle.book.proofs.field.Goals as goal

pub offset-requires : goal.offset-requires
offset-requires c = let s = c in omega (arith, (tabled s.args.section s.requires.0).number, s.requires.1.laid.contents)

pub overflow_mul-section : goal.overflow_mul-section
overflow_mul-section c = let s = c in omega (arith, field_fits s.args.book.now s.args.section s.requires.0 s.args.k s.args.i s.requires.1)

pub overflow_add-offset : goal.overflow_add-offset
overflow_add-offset c = let s = c in omega (arith, c.offset.ensures.is, field_fits s.args.book.now s.args.section s.requires.0 s.args.k s.args.i s.requires.1)

pub overflow_mul-i : goal.overflow_mul-i
overflow_mul-i c = let s = c in omega (arith, field_fits s.args.book.now s.args.section s.requires.0 s.args.k s.args.i s.requires.1)

pub overflow_add-offset-2 : goal.overflow_add-offset-2
overflow_add-offset-2 c = let s = c in omega (arith, c.offset.ensures.is, field_fits s.args.book.now s.args.section s.requires.0 s.args.k s.args.i s.requires.1)

pub word-requires : goal.word-requires
word-requires c = let s = c in omega (arith, c.offset.ensures.is, field_fits s.args.book.now s.args.section s.requires.0 s.args.k s.args.i s.requires.1)

pub returns : goal.returns
returns c =
    let s = c in
    record {
      is = rw c.offset.ensures.is at c.word.ensures.is ∙ field_at _ _ s.requires.0 _ _;
      small = c.word.ensures.small;
    }
