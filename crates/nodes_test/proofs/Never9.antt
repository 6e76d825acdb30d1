-- Where a list of nodes passed, no move to a node of it meets 9.
use Prim.Native.Nat.{ℕ, suc, ◌≤◌, ◌<◌}
use native.Mathlib.Omega.{arith}
use mathlib.Core.Path.{◌≡◌, refl, sym, ◌∙◌, subst}
use mathlib.Core.Bool.{Bool, true, false, not, false≢true}
use mathlib.Core.List.{List, [], ◌∷◌}
use mathlib.Core.Option.{none}
use lib.Dec.{eqb, leb, ltb}
use lib.ListN.{length, get_or}
use borrow.Author.Tests.{eqb-true, leb-true, not-true, not-false}
use Rattle.basics.specs.Lists.{member}
use Rattle.basics.specs.Buffer.{scratch_least}
use Rattle.basics.specs.Outcome.{refused, accepted}
use Rattle.basics.proofs.All.{all-at, all_true}
use Rattle.basics.proofs.Bool.{or_second}
use Rattle.basics.proofs.Refusals.{NotNumber, guarded, passing, past}
use Rattle.book.specs.Book.{Book, contexts, size}
use Rattle.book.specs.Program.{path}
use Rattle.book.specs.Decode.{program}
use Rattle.book_test.specs.BookTest.{book_test, ready}
use Rattle.book_test.proofs.Outcomes.{passed, both, same_answer, ready_passed}
use Rattle.solvers.specs.declared.Owed.TheVariants.{Nothing}
use Rattle.solvers.specs.declared.Session.{Session}
use Rattle.solvers.specs.Calls.{owes, is_session, Host, fitting, move_to, call}
use Rattle.solvers.specs.Left.{values, left, called}
use Rattle.solvers.specs.Image.{read_image, called_on_image}
use Rattle.solvers.specs.Rule.{standing}
use Rattle.solvers.specs.ByBook.{call_by_book, move_by_book}
use Rattle.solvers.proofs.ByBook.{by_book}
use Rattle.nodes_test.specs.NodesTest.{could_move, first_failing, all_inside, nodes_most, nodes_in, nodes_tested}
use Rattle.nodes_test.specs.Reach.{Never9}
use Rattle.nodes_test.proofs.Outcomes.{refused_alike}
use Rattle.nodes_test.proofs.First.{first}

-- a move, by the book alone
module _ (b : Book) (ok : book_test b ≡ accepted tt) (n : ℕ) (could : could_move (program b) n ≡ true) where
  clear : (standing (program b) (path (program b) n)).missing ≡ false
  unfolding could_move
  clear = not-true _ could

  move_not9 : (s : Session) (h : Host) → NotNumber 9 (move_by_book b s h n)
  unfolding move_by_book ready fitting
  move_not9 s h =
      passing (NotNumber 9) (λ k l. l) (ready (length h.scratch) b) _ (guarded (NotNumber 9) (λ k l. l) 1 (ltb (length h.scratch) scratch_least) (book_test b) (omega arith) (λ e. rw ok tt)) λ e₁.
      guarded (NotNumber 9) (λ k l. l) 7 (ltb (size b contexts) n) _ (omega arith) λ e₇.
      guarded (NotNumber 9) (λ k l. l) 20 (not (is_session (program b) s)) _ (omega arith) λ e₂₀.
      guarded (NotNumber 9) (λ k l. l) 21 (not (owes s.owed Nothing)) _ (omega arith) λ e₂₁.
      past (NotNumber 9) 9 _ clear (guarded (NotNumber 9) (λ k l. l) 10 _ _ (omega arith) (λ e₁₀. tt))

  pub never : (s : Session) (h : Host) → ¬ (call b s (move_to h n) ≡ refused 9)
  unfolding call_by_book
  never s h e = subst (NotNumber 9) (sym (by_book b s (move_to h n)) ∙ e) (move_not9 s h) refl

-- a node of the list has a place in it
place : (n : ℕ) (ns : List ℕ) → member n ns ≡ true → (i : ℕ) × (i < length ns) × (get_or ns i 0 ≡ n)
unfolding member
place n [] h = absurd (false≢true h)
place n (m ∷ ns) h = at (eqb n m) refl (λ l. place n ns l)
  where
    at : (x : Bool) → eqb n m ≡ x → (member n ns ≡ true → (i : ℕ) × (i < length ns) × (get_or ns i 0 ≡ n)) → (i : ℕ) × (i < suc (length ns)) × (get_or (m ∷ ns) i 0 ≡ n)
    at true e f = (0, omega arith, sym (eqb-true n m e))
    at false e f = let r = f (or_second (eqb n m) (member n ns) h e) in (suc r.0, omega (arith, r.1), r.2)

-- a list that passed
pub record Passes (b : Book) (ns : List ℕ) : Type 0 where
  pub tested : book_test b ≡ accepted tt
  pub inside : (n : ℕ) → member n ns ≡ true → n ≤ size b contexts
  pub could : (n : ℕ) → member n ns ≡ true → could_move (program b) n ≡ true

all-inside : (b : Book) (ns : List ℕ) → all_inside b ns ≡ true → (n : ℕ) → member n ns ≡ true → n ≤ size b contexts
unfolding all_inside
all-inside b ns a n h =
    let r = place n ns h in
    rw r.2 at (leb-true (get_or ns r.0 0) (size b contexts) (all-at (all_true ns (λ k. leb k (size b contexts)) a) r.0 0 r.1))

all_could : (b : Book) (ns : List ℕ) → first_failing (program b) ns ≡ none → (n : ℕ) → member n ns ≡ true → could_move (program b) n ≡ true
all_could b ns a n h = let r = place n ns h in rw r.2 at ((first (program b) ns).all_pass a r.0 r.1)

pub passes : (scratch : ℕ) (b : Book) (ns : List ℕ) → nodes_tested scratch b ns ≡ accepted none → Passes b ns
unfolding nodes_tested nodes_in
passes scratch b ns e =
    let r1 = both (ready scratch b) _ e in
    let r3 = passed 3 (ltb nodes_most (length ns)) _ r1.1 in
    let r7 = passed 7 (not (all_inside b ns)) _ r3.1 in
    record {
      tested = (ready_passed scratch b r1.0).1;
      inside = all-inside b ns (not-false (all_inside b ns) r7.0);
      could = all_could b ns (same_answer r7.1);
    }

pub never_9 : (scratch : ℕ) (b : Book) (nodes : List ℕ) → nodes_tested scratch b nodes ≡ accepted none → Never9 b nodes
unfolding called_on_image called left
never_9 scratch b ns e =
    let t = passes scratch b ns e in
    record {
      session = λ s h n m. never b t.tested n (t.could n m) s h;
      image = λ image h n m z. never b t.tested n (t.could n m) (read_image image) h (refused_alike values (call b (read_image image) (move_to h n)) z);
    }
