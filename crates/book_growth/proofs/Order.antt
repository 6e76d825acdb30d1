-- Growth is an order: no count is smaller, a tested book grew from itself, and what grew from a grown book grew from the first.
use Prim.Native.Nat.{◌+◌, ◌≤◌}
use native.Mathlib.Omega.{arith}
use mathlib.Core.Path.{◌≡◌, refl, sym, ap, ◌∙◌}
use mathlib.Core.List.{List, [], append-nil, append_assoc, ◌++◌}
use mathlib.Core.Option.{Option}
use lib.ListN.{length, length-append}
use Rattle.basics.specs.Outcome.{accepted}
use Rattle.book.specs.RExpr.{Literal}
use Rattle.book.specs.Book.{Book, terms, contexts, size}
use Rattle.book.specs.Program.{Context, Program}
use Rattle.book.specs.Extends.{Extends}
use Rattle.book.specs.Decode.{program}
use Rattle.book.proofs.Terms.{contexts_length, literals_length}
use Rattle.book_test.specs.BookTest.{book_test}
use Rattle.book_growth.specs.Grows.{Grows}

extends_refl : (p : Program) → Extends p p
extends_refl p =
    record {
      same_axioms = refl;
      new_literals = [];
      more_literals = sym (append-nil p.literals);
      new-contexts = [];
      more_contexts = sym (append-nil p.contexts);
    }

extends_trans : {p q r : Program} → Extends p q → Extends q r → Extends p r
extends_trans {p} x y =
    record {
      same_axioms = y.same_axioms ∙ x.same_axioms;
      new_literals = x.new_literals ++ y.new_literals;
      more_literals =
          y.more_literals ∙ ap (λ (l : List (Option Literal)). l ++ y.new_literals) x.more_literals
          ∙ append_assoc p.literals x.new_literals y.new_literals;
      new-contexts = x.new-contexts ++ y.new-contexts;
      more_contexts =
          y.more_contexts ∙ ap (λ (l : List Context). l ++ y.new-contexts) x.more_contexts
          ∙ append_assoc p.contexts x.new-contexts y.new-contexts;
    }

pub terms_grew : {b c : Book} → Grows b c → size b terms ≤ size c terms
terms_grew {b} {c} g =
    let e : length (program c).literals ≡ length (program b).literals + length g.extends.new_literals =
    ap length g.extends.more_literals ∙ length-append (program b).literals g.extends.new_literals in
    omega (arith, literals_length b, literals_length c)

pub contexts_grew : {b c : Book} → Grows b c → size b contexts ≤ size c contexts
contexts_grew {b} {c} g =
    let e : length (program c).contexts ≡ length (program b).contexts + length g.extends.new-contexts =
    ap length g.extends.more_contexts ∙ length-append (program b).contexts g.extends.new-contexts in
    omega (arith, contexts_length b, contexts_length c)

pub grows_refl : (b : Book) → book_test b ≡ accepted tt → Grows b b
grows_refl b ok = record { before = ok; after = ok; extends = extends_refl (program b); kept = λ t l. refl }

pub grows_trans : {a b c : Book} → Grows a b → Grows b c → Grows a c
grows_trans g h =
    record {
      before = g.before;
      after = h.after;
      extends = extends_trans g.extends h.extends;
      kept = λ t l. h.kept t (omega (arith, l, terms_grew g)) ∙ g.kept t l;
    }
