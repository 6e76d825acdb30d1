use Prim.Native.Nat.{◌-◌}
use native.Mathlib.Omega.{arith}
use mathlib.Core.Path.{◌≡◌, refl, ap, ◌∙◌}
use Rattle.symbols.specs.Symbols.{has_bar}
use Rattle.book.specs.Book.{name_text}
use Rattle.book_names.proofs.Looked.{reads_name, word_plain, user_plain}
use Rattle.book_names.proofs.plain_type.Goals as goal

pub returns-in-Bool : goal.returns-in-Bool
returns-in-Bool c = word_plain _ _ (omega (arith, c.in-Bool.ensures))

pub returns-in-Int : goal.returns-in-Int
returns-in-Int c = word_plain _ _ (omega (arith, c.in-Int.ensures))

pub name-requires : goal.name-requires
name-requires c = rw c.field.ensures.is (reads_name _ c.requires.0 c.requires.1 _ (c.requires.1.typ _ (omega (arith, c.in-User.ensures))))

pub returns-in-User : goal.returns-in-User
returns-in-User c =
    let e : c.args.typ - 2 ≡ c.in-User.k = omega (arith, c.in-User.ensures) in
    user_plain _ _ (omega (arith, c.in-User.ensures)) (c.has_bar.ensures ∙ ap has_bar (c.name.ensures ∙ ap (name_text _) (c.field.ensures.is ∙ rw e refl)))
