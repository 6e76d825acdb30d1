-- Every call on every session, not only on one that a list of calls leads to, gives what the book alone gives.
use Prim.Native.Nat.{ℕ, ◌≤◌, ◌<◌}
use mathlib.Core.Path.{◌≡◌, refl, ap, ◌∙◌, subst}
use mathlib.Core.List.{List, ◌++◌}
use mathlib.Core.Option.{none}
use mathlib.Core.Bool.{Bool, true, false, not, ◌&&◌, ◌||◌}
use lib.Dec.{eqb, leb, ltb}
use lib.ListN.{length}
use borrow.Author.Tests.{leb-true, leb-false, eqb-true, not-false, not-true}
use Rattle.basics.specs.Text.{same}
use Rattle.basics.specs.Outcome.{Outcome, accepted, refused, refuse, ◌>>◌}
use Rattle.basics.proofs.Bool.{and_both, or_right}
use Rattle.basics.proofs.Texts.{same_eq}
use Rattle.book.specs.Book.{Book, terms, contexts, size}
use Rattle.book.specs.Program.{path}
use Rattle.book.specs.Decode.{term, program}
use Rattle.book_test.specs.BookTest.{ready}
use Rattle.book_test.specs.Promise.{Promise}
use Rattle.book_test.proofs.Outcomes.{ready_passed}
use Rattle.book_test.proofs.Promise.{promise}
use Rattle.solver_expr.proofs.Clean.{CleanR}
use Rattle.rsolver.specs.LevelState.{LevelState, send}
use Rattle.rsolver.specs.REngine.{assume_not}
use Rattle.solvers.specs.declared.Owed.TheVariants.{Nothing, Reply}
use Rattle.solvers.specs.declared.Session.{Session}
use Rattle.solvers.specs.Session.{Written, session, moved, asked, move, ask}
use Rattle.solvers.specs.Calls.{owes, goal_fits, is_session, Host, fitting, move_call, ask_call, Call, move_to, ask_for, reply_with, model_with, call}
use Rattle.solvers.specs.Rule.{standing, goal_state, move_commands, question_commands, present, session_at}
use Rattle.solvers.specs.ByBook.{move_by_book, ask_by_book, call_by_book}
use Rattle.book.proofs.Terms.{contexts_length}
use Rattle.solvers.proofs.Good.{Good, good, term_clean}
use Rattle.solvers.proofs.Standing.{sending}
use Rattle.solvers.proofs.Contexts.{set_fresh}
use Rattle.solvers.proofs.Questions.{Fits, owes_nothing, arrives, asked_at}

same_then : {A : Type 0} (o : Outcome (Unit {0})) (x y : Outcome A) → (o ≡ accepted tt → x ≡ y) → (o >> x) ≡ (o >> y)
unfolding ◌>>◌
same_then (refused k) x y f = refl
same_then (accepted tt) x y f = f refl

same_guard : {A : Type 0} (k : ℕ) (t : Bool) (x y : Outcome A) → (t ≡ false → x ≡ y) → (refuse k t >> x) ≡ (refuse k t >> y)
unfolding refuse ◌>>◌
same_guard k true x y f = refl
same_guard k false x y f = f refl

module _ (b : Book) (P : Promise b) where
  G : Good (program b)
  G = good b P

  T : (t : ℕ) → t < size b terms → CleanR (term b t)
  T = term_clean b P

  -- a session that is not refused with 20, and owes Nothing, is the book's
  pub record Known (s : Session) : Type 0 where
    pub is : s ≡ session_at b (present s.node 0 Nothing)
    pub fits : Fits b (present s.node 0 Nothing)

  pub known : (s : Session) → is_session (program b) s ≡ true → s.owed ≡ Nothing → Known s
  unfolding is_session goal_fits session_at present
  known s v o =
      let at = standing (program b) (path (program b) s.node) in
      let A = leb s.node (length (program b).contexts) in
      let v' : (A && not at.missing && same s.levels at.levels && eqb s.goal 0) ≡ true = rw (set_fresh (program b) G s.node, o) at v in
      let r3 = and_both (A && not at.missing && same s.levels at.levels) (eqb s.goal 0) v' in
      let r2 = and_both (A && not at.missing) (same s.levels at.levels) r3.0 in
      let r1 = and_both A (not at.missing) r2.0 in
      let goal : s.goal ≡ 0 = eqb-true s.goal 0 r3.1 in
      let levels : s.levels ≡ at.levels = same_eq s.levels at.levels r2.1 in
      record {
        is = λ i. record { node = s.node; goal = goal i; owed = o i; levels = levels i };
        fits = record {
          inside = subst (λ (k : ℕ). s.node ≤ k) (contexts_length b) (leb-true s.node (length (program b).contexts) r1.0);
          clear = not-true at.missing r1.1;
          asks = refl;
        };
      }

  moved_same : (s : Session) → Known s → (n : ℕ)
      → moved (program b) s n ≡ sending (move_commands (program b) s.node n) (standing (program b) (path (program b) n))
  unfolding present
  moved_same s K n = ap (λ (x : Session). moved (program b) x n) K.is ∙ arrives b G T (present s.node 0 Nothing) K.fits n

  move_same : (s : Session) → Known s → (h : Host) (n : ℕ)
      → (refuse 9 (moved (program b) s n).missing >> fitting h (move (program b) s n))
      ≡ (refuse 9 (standing (program b) (path (program b) n)).missing
      >> fitting h (record { commands = move_commands (program b) s.node n; session = session_at b (present n 0 Nothing); result = none }))
  unfolding move present session_at
  move_same s K h n =
      ap (λ (x : LevelState). refuse 9 x.missing >> fitting h (record { commands = x.sent; session = session n 0 Nothing x.levels; result = none })) (moved_same s K n)

  ask_same : (s : Session) → Known s → (h : Host) (n t : ℕ) → t < size b terms
      → (refuse 9 (asked (program b) s n (term b t)).missing >> fitting h (ask (program b) s n t (term b t)))
      ≡ (refuse 9 (goal_state (program b) n (term b t)).missing
      >> fitting h (record {
        commands = move_commands (program b) s.node n ++ question_commands (program b) n (term b t);
        session = session_at b (present n t Reply);
        result = none;
      }))
  unfolding ask present session_at assume_not send
  ask_same s K h n t l =
      let w = present s.node 0 Nothing in
      let Q = ap (λ (x : Session). asked (program b) x n (term b t)) K.is ∙ asked_at b G T w K.fits n t l in
      λ i. refuse 9 (Q i).missing >> fitting h (record { commands = (Q i).sent; session = session n t Reply (moved_same s K n i).levels; result = none })

pub by_book : (b : Book) (s : Session) (c : Call) → call b s c ≡ call_by_book b s c
unfolding call call_by_book move_call ask_call move_by_book ask_by_book
by_book b s (move_to h n) =
    same_then (ready (length h.scratch) b) _ _ λ e₁.
    same_guard 7 (ltb (size b contexts) n) _ _ λ e₇.
    same_guard 20 (not (is_session (program b) s)) _ _ λ e₂₀.
    same_guard 21 (not (owes s.owed Nothing)) _ _ λ e₂₁.
    let P = promise b (ready_passed _ b e₁).1 in
    move_same b P s (known b P s (not-false (is_session (program b) s) e₂₀) (owes_nothing s.owed e₂₁)) h n
by_book b s (ask_for h n t) =
    same_then (ready (length h.scratch) b) _ _ λ e₁.
    same_guard 7 (ltb (size b contexts) n || leb (size b terms) t) _ _ λ e₇.
    same_guard 20 (not (is_session (program b) s)) _ _ λ e₂₀.
    same_guard 21 (not (owes s.owed Nothing)) _ _ λ e₂₁.
    let P = promise b (ready_passed _ b e₁).1 in
    let l = leb-false (size b terms) t (or_right (ltb (size b contexts) n) (leb (size b terms) t) e₇) in
    ask_same b P s (known b P s (not-false (is_session (program b) s) e₂₀) (owes_nothing s.owed e₂₁)) h n t l
by_book b s (reply_with h o r) = refl
by_book b s (model_with h r m) = refl
