-- Two books, the second with every record of the first and no more axioms: its program goes on behind the first one's.
use Prim.Native.Nat.{ℕ, ◌-◌, ◌<◌}
use native.Mathlib.Omega.{arith}
use mathlib.Core.Path.{◌≡◌, refl}
use mathlib.Core.Bool.{Bool, true, false}
use mathlib.Core.List.{map}
use lib.Dec.{eqb}
use borrow.Author.Tests.{eqb-false}
use Rattle.basics.specs.Lists.{up_to}
use Rattle.basics.proofs.Counting.{up_same, up_goes_on}
use Rattle.book.specs.Book.{Book, axioms, terms, contexts, size, field, no_term}
use Rattle.book.specs.Decode.{literal_at, axiom_term, axiom_of, context_of, program}
use Rattle.book_test.specs.Promise.{Promise}
use Rattle.book_test.specs.Kept.{Kept}
use Rattle.book.specs.Extends.{Extends}
use Rattle.book_test.proofs.KeptRecords.{entries_kept, trace_of_kept}
use Rattle.book_test.proofs.KeptTerms.{literal_at_kept, term_kept}

module _ (b c : Book) (P : Promise b) (K : Kept b c) where
  axiom_term_kept : (x : Bool) (t : ℕ) → (x ≡ false → t < size b terms) → axiom_term c x t ≡ axiom_term b x t
  unfolding axiom_term
  axiom_term_kept true t h = refl
  axiom_term_kept false t h = rw (term_kept b c P K t (h refl))

  pub axiom_of_kept : (k : ℕ) → k < size b axioms → axiom_of c k ≡ axiom_of b k
  unfolding axiom_of
  axiom_of_kept k h =
      let G = P.axiom' k h in
      let t = field b axioms k 0 in
      rw (
        K.fields 5 (omega arith) k 0 h (omega arith),
        K.fields 5 (omega arith) k 1 h (omega arith),
        K.fields 5 (omega arith) k 2 h (omega arith),
        entries_kept b c P K (field b axioms k 1) (field b axioms k 2) G.explains.ends,
        axiom_term_kept (eqb t no_term) t (λ e. G.term (eqb-false t no_term e)),
      )

  pub context_of_kept : (k : ℕ) → k < size b contexts → context_of c k ≡ context_of b k
  unfolding context_of
  context_of_kept k h =
      let G = P.context k h in
      rw (
        K.fields 8 (omega arith) k 0 h (omega arith),
        K.fields 8 (omega arith) k 1 h (omega arith),
        K.fields 8 (omega arith) k 2 h (omega arith),
        term_kept b c P K (field b contexts k 1) G.term,
        trace_of_kept b c P K (field b contexts k 2) G.trace,
      )

  same_axioms : size c axioms ≡ size b axioms → map (axiom_of c) (up_to 0 (size c axioms)) ≡ map (axiom_of b) (up_to 0 (size b axioms))
  same_axioms e = rw e (up_same (axiom_of c) (axiom_of b) 0 (size b axioms) (λ k l. axiom_of_kept k (omega arith)))

  pub program_extends : size c axioms ≡ size b axioms → Extends (program b) (program c)
  unfolding program
  program_extends e =
      record {
        same_axioms = same_axioms e;
        new_literals = map (literal_at c) (up_to (size b terms) (size c terms - size b terms));
        more_literals = up_goes_on (literal_at c) (literal_at b) (size b terms) (size c terms) (K.counts 7 (omega arith)) (literal_at_kept b c P K);
        new-contexts = map (context_of c) (up_to (size b contexts) (size c contexts - size b contexts));
        more_contexts = up_goes_on (context_of c) (context_of b) (size b contexts) (size c contexts) (K.counts 8 (omega arith)) context_of_kept;
      }

  -- with no more of anything it is the same
  pub program_kept : size c axioms ≡ size b axioms → size c terms ≡ size b terms → size c contexts ≡ size b contexts → program c ≡ program b
  unfolding program
  program_kept e et ec =
      rw (
        same_axioms e,
        et,
        ec,
        up_same (literal_at c) (literal_at b) 0 (size b terms) (λ t l. literal_at_kept b c P K t (omega arith)),
        up_same (context_of c) (context_of b) 0 (size b contexts) (λ k l. context_of_kept k (omega arith)),
      )
