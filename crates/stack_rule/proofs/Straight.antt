-- A fresh session, given scratch and buffer enough, is sent straight to a present that fits, and stands there as the list of events does.
use Prim.Native.Nat.{ℕ}
use mathlib.Core.Path.{◌≡◌, refl, sym, ap, ◌∙◌, subst}
use mathlib.Core.List.{[], ◌∷◌}
use Rattle.basics.specs.Outcome.{accepted}
use Rattle.book.specs.Book.{Book}
use Rattle.book.specs.Program.{path, path_up}
use Rattle.book.specs.Decode.{program}
use Rattle.book_test.specs.BookTest.{book_test}
use Rattle.smt_engines.specs.Reader.{live, read}
use Rattle.rsolver.specs.LevelState.{fresh}
use Rattle.solvers.specs.declared.Owed.{Owed}
use Rattle.solvers.specs.declared.Owed.TheVariants.{Nothing, Reply, Model}
use Rattle.solvers.specs.declared.Session.{Session}
use Rattle.solvers.specs.Session.{Written, fresh_session}
use Rattle.solvers.specs.Calls.{Host, Enough, Call, move_to}
use Rattle.solvers.specs.Rule.{standing, levels_for, goal_levels, present, next, node_levels, must_live, session_at, said}
use Rattle.solvers.proofs.Questions.{Fits, Kept}
use Rattle.solvers.proofs.Root.{root_present}
use Rattle.solvers.proofs.Straight.{Takes, room_for, nobody, move_yes, ask_yes}
use Rattle.stack_rule.specs.Events.{calls, Trace, after, happens, run_from, start, run, straight_to, straight}
use Rattle.stack_rule.specs.StackRule.{Same}
use Rattle.stack_rule.proofs.Holds.{Holds, kept, holds_after, holds_start, reads_at}

-- ---- one call from a fresh session
module _ (b : Book) (ok : book_test b ≡ accepted tt) (c : Call) (y : Written) (e : Takes b c y) where
  pub run_one : run b (calls c ∷ []) ≡ after (start b) c (accepted y)
  unfolding run run_from happens start session_at fresh_session standing fresh path path_up root_present present
  run_one = ap (after (start b) c) e

  pub holds_one : Holds (after (start b) c (accepted y))
  unfolding start session_at fresh_session standing fresh path path_up root_present present
  holds_one =
      let x = holds_start b ok in
      holds_after (start b) x c (accepted y) (subst (Kept b root_present c) e (kept (start b) x c))

module _ (b : Book) (ok : book_test b ≡ accepted tt) where
  straight_yes : (h : Host) (n t : ℕ) (o : Owed) → Fits b (present n t o) → Enough (room_for b (straight_to o h n t)) h
      → (y : Written) × Takes b (straight_to o h n t) y
  unfolding straight_to present
  straight_yes h n t Nothing f k = (_, move_yes b ok h n (unfold present in record { inside = f.inside; clear = f.clear; asks = refl }) k)
  straight_yes h n t Reply f k = (_, ask_yes b ok h n t f.inside f.asks.0 f.asks.1 k)
  straight_yes h n t Model f k = (_, ask_yes b ok h n t f.inside f.asks.0 f.asks.1 k)

  -- it comes to the same levels
  same_live : (h : Host) (n t : ℕ) (o : Owed) → must_live b (next root_present (straight_to o h n t)) ≡ must_live b (present n t o)
  unfolding straight_to next must_live levels_for goal_levels present
  same_live h n t Nothing = refl
  same_live h n t Reply = refl
  same_live h n t Model = refl

  same_node : (h : Host) (n t : ℕ) (o : Owed) → (next root_present (straight_to o h n t)).node ≡ n
  unfolding straight_to next present
  same_node h n t Nothing = refl
  same_node h n t Reply = refl
  same_node h n t Model = refl

  -- what is said does not hang on the host
  room_same : (h k : Host) (n t : ℕ) (o : Owed) → room_for b (straight_to o h n t) ≡ room_for b (straight_to o k n t)
  unfolding straight_to said room_for
  room_same h k n t Nothing = refl
  room_same h k n t Reply = refl
  room_same h k n t Model = refl

  pub moved_there : (n : ℕ) → Fits b (present n 0 Nothing) → (h : Host) → Enough (room_for b (move_to (nobody b ok) n)) h
      → read (run b (calls (move_to h n) ∷ [])).text ≡ live (node_levels b n)
  unfolding must_live levels_for node_levels next present after start
  moved_there n f h k =
      let y = move_yes b ok h n f (unfold room_for said in k) in
      ap (λ (t : Trace). read t.text) (run_one b ok (move_to h n) _ y) ∙ reads_at _ (holds_one b ok (move_to h n) _ y)

pub straight_there : (t : Trace) (x : Holds t) (h : Host) → Enough (room_for t.book (straight (nobody t.book x.tested) t.due)) h
    → Same t (run t.book (calls (straight h t.due) ∷ []))
unfolding straight present root_present session_at after start
straight_there t x h k =
    let b = t.book in
    let n = t.due.node in
    let g = t.due.goal in
    let o = t.due.owed in
    let c = straight_to o h n g in
    let y = straight_yes b x.tested h n g o x.fits (rw (room_same b x.tested h (nobody b x.tested) n g o) k) in
    let u = holds_one b x.tested c y.0 y.1 in
    let node = same_node b x.tested h n g o in
    subst (Same t) (sym (run_one b x.tested c y.0 y.1))
    (record {
      live = reads_at t x ∙ ap live (sym (same_live b x.tested h n g o)) ∙ sym (reads_at _ u);
      node = ap (λ (s : Session). s.node) x.session ∙ sym (ap (λ (s : Session). s.node) u.session ∙ node);
      levels =
          ap (λ (s : Session). s.levels) x.session
          ∙ sym (ap (λ (s : Session). s.levels) u.session ∙ ap (λ (m : ℕ). (standing (program b) (path (program b) m)).levels) node);
    })
