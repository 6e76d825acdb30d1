-- A term's test by the kind that the code makes of its number, and a number that is no kind's.
use Prim.Native.Nat.{ℕ, ◌<◌, ◌≤◌}
use native.Mathlib.Omega.{arith}
use mathlib.Core.Path.{◌≡◌, sym, ap, ◌∙◌}
use mathlib.Core.Bool.{false, ◌&&◌}
use lib.Dec.{ltb}
use lib.ListN.{length}
use borrow.Author.Tests.{le-ltb, lt-ltb}
use Rattle.book.specs.Book.{Book, terms, field}
use Rattle.book.specs.Decode.{kinds, kind_of}
use Rattle.book.specs.declared.kind.Kind.{Kind}
use Rattle.book.specs.declared.kind.Kind.TheVariants.{Boolean, Integer, CustomLiteral, Id, BuiltIn, Application, IfThenElse, LetExpr, QuantifierExpr}
use Rattle.book.specs.Kinds.{number_of, meant}
use Rattle.book.proofs.KindNumbers.{kind_meant}
use Rattle.book_terms.specs.Terms.{kind_in_range, term_in_range}

small : (k : Kind) → number_of k < length kinds
small Boolean = omega arith
small Integer = omega arith
small CustomLiteral = omega arith
small Id = omega arith
small BuiltIn = omega arith
small Application = omega arith
small IfThenElse = omega arith
small LetExpr = omega arith
small QuantifierExpr = omega arith

module _ (b : Book) (t : ℕ) where
  pub by_kind : (k : Kind) {n : ℕ} → n ≡ field b terms t 0 → number_of k ≡ n → kind_in_range b (meant k) t ≡ term_in_range b t
  unfolding term_in_range
  by_kind k e h =
      let q : number_of k ≡ field b terms t 0 = h ∙ e in
      rw (kind_meant k q, lt-ltb (field b terms t 0) (length kinds) (rw q at (small k)))

  pub no_kind : {n : ℕ} → n ≡ field b terms t 0 → 9 ≤ n → false ≡ term_in_range b t
  unfolding term_in_range
  no_kind e h = rw (le-ltb (field b terms t 0) (length kinds) (rw e at h))
