use Prim.Native.Nat.{◌-◌}
use native.Mathlib.Omega.{arith}
use mathlib.Core.Path.{◌≡◌}
use Rattle.book.specs.Book.{types, size}
use Rattle.book_fields.specs.Fields.{type_limit}
use Rattle.book_fields.proofs.Types.{basic_type, user_type}
use Rattle.book_fields.proofs.is_type.Goals as goal

pub returns-in-Bool : goal.returns-in-Bool
unfolding type_limit
returns-in-Bool c = basic_type c.args.t (size c.args.book.now types) (omega (arith, c.in-Bool.ensures))

pub returns-in-Int : goal.returns-in-Int
unfolding type_limit
returns-in-Int c = basic_type c.args.t (size c.args.book.now types) (omega (arith, c.in-Int.ensures))

pub returns-in-User : goal.returns-in-User
unfolding type_limit
returns-in-User c =
    let e : c.args.t - 2 ≡ c.in-User.k = omega (arith, c.in-User.ensures) in
    rw (← e, c.count.ensures.is) (user_type c.args.t (size c.args.book.now types) (omega (arith, c.in-User.ensures)))
