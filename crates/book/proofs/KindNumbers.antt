-- What the code makes of a number is what document 01 makes of it.
use Prim.Native.Nat.{ℕ, suc}
use mathlib.Core.Path.{◌≡◌, refl}
use Rattle.book.specs.Decode.{kind_of}
use Rattle.book.specs.declared.kind.Kind.{Kind}
use Rattle.book.specs.declared.kind.Kind.TheVariants.{Boolean, Integer, CustomLiteral, Id, BuiltIn, Application, IfThenElse, LetExpr, QuantifierExpr}
use Rattle.book.specs.Kinds.{number_of, meant}

kind_is : (k : Kind) → kind_of (number_of k) ≡ meant k
unfolding kind_of
kind_is Boolean = refl
kind_is Integer = refl
kind_is CustomLiteral = refl
kind_is Id = refl
kind_is BuiltIn = refl
kind_is Application = refl
kind_is IfThenElse = refl
kind_is LetExpr = refl
kind_is QuantifierExpr = refl

pub kind_meant : (k : Kind) {n : ℕ} → number_of k ≡ n → kind_of n ≡ meant k
kind_meant k e = rw (← e) (kind_is k)
