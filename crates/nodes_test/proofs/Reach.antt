-- A node passes exactly if a fresh session can move to it; the root passes, and what is below a node that fails does not.
use Prim.Native.Nat.{ℕ, suc, ◌≤◌}
use native.Mathlib.Omega.{arith}
use mathlib.Core.Path.{◌≡◌, refl, sym, ap, ◌∙◌}
use mathlib.Core.Bool.{Bool, true, false, not, false≢true}
use mathlib.Core.List.{[]}
use lib.Dec.{ltb}
use lib.ListN.{length, replicate, length-replicate}
use borrow.Author.Tests.{le-ltb, not-true, not-false}
use Rattle.basics.specs.Buffer.{scratch_least}
use Rattle.basics.specs.Outcome.{refused, accepted, refuse, ◌>>◌}
use Rattle.book.specs.Book.{Book, contexts, size}
use Rattle.book.specs.Program.{node_at, path, path_up}
use Rattle.book.specs.Decode.{program}
use Rattle.book.proofs.Paths.{path_step}
use Rattle.book_test.specs.BookTest.{book_test, ready}
use Rattle.book_test.proofs.Promise.{promise}
use Rattle.rsolver.specs.LevelState.{LevelState, fresh}
use Rattle.solvers.specs.declared.Owed.TheVariants.{Nothing}
use Rattle.solvers.specs.Session.{fresh_session, move}
use Rattle.solvers.specs.Calls.{owes, is_session, Host, Enough, move_call, move_to, call}
use Rattle.solvers.specs.Rule.{standing, present, session_at, said}
use Rattle.solvers.proofs.Good.{good}
use Rattle.solvers.proofs.Standing.{missing_above}
use Rattle.solvers.proofs.Questions.{arrives}
use Rattle.solvers.proofs.Root.{root_present, G, T, fits_start}
use Rattle.solvers.proofs.Straight.{room_for, nobody, pass, pass_all, ready_ok, valid_start, owes_start, move_yes}
use Rattle.nodes_test.specs.NodesTest.{could_move}
use Rattle.nodes_test.specs.Reach.{MovesIn, Reaches, FromRoot}
use Rattle.nodes_test.proofs.Outcomes.{not_both}

module _ (b : Book) (ok : book_test b ≡ accepted tt) where
  -- where a fresh session stands
  at_root : session_at b root_present ≡ fresh_session
  unfolding session_at fresh_session standing fresh path path_up root_present present
  at_root = refl

  module _ (n : ℕ) (here : n ≤ size b contexts) where
    clear : could_move (program b) n ≡ true → (standing (program b) (path (program b) n)).missing ≡ false
    unfolding could_move
    clear h = not-true _ h

    missing : could_move (program b) n ≡ false → (standing (program b) (path (program b) n)).missing ≡ true
    unfolding could_move
    missing h = not-false _ h

    moves : could_move (program b) n ≡ true → MovesIn b n (room_for b (move_to (nobody b ok) n))
    unfolding room_for said present
    moves h k e = (move (program b) (session_at b root_present) n, rw (← at_root) (move_yes b ok k n (record { inside = here; clear = clear h; asks = refl }) e))

    nine : could_move (program b) n ≡ false → (h : Host) → scratch_least ≤ length h.scratch → call b fresh_session (move_to h n) ≡ refused 9
    unfolding call move_call
    nine f h k =
        let p = program b in
        let s = session_at b root_present in
        let A = arrives b (G b ok) (T b ok) root_present (fits_start b ok) n in
        rw (← at_root)
        (pass_all (ready (length h.scratch) b) _ (ready_ok b ok {room = 0} {h = h} (record { scratch = k; text = omega arith }))
        ∙ pass 7 (ltb (size b contexts) n) _ (le-ltb (size b contexts) n here)
        ∙ pass 20 (not (is_session p s)) _ (rw (valid_start b ok))
        ∙ pass 21 (not (owes s.owed Nothing)) _ (owes_start b ok)
        ∙ unfold refuse ◌>>◌ in rw (ap (λ (x : LevelState). x.missing) A ∙ missing f))

    -- a host that lends this room
    lends : ℕ → Host
    lends room = record { scratch = replicate scratch_least 0; text = replicate room 0; reason = [] }

    lends_enough : (room : ℕ) → Enough room (lends room)
    unfolding lends
    lends_enough room = record { scratch = omega (arith, length-replicate {A = ℕ} scratch_least 0); text = omega (arith, length-replicate {A = ℕ} room 0) }

    pub reaches : Reaches b n
    reaches =
        record {
          passes = λ h. (room_for b (move_to (nobody b ok) n), moves h);
          only = λ room f. could room f (could_move (program b) n) refl;
          fails = nine;
        }
      where
        could : (room : ℕ) → MovesIn b n room → (x : Bool) → could_move (program b) n ≡ x → could_move (program b) n ≡ true
        could room f true h = h
        could room f false h =
            let w = f (lends room) (lends_enough room) in
            absurd (not_both (sym (nine h (lends room) (lends_enough room).scratch) ∙ w.1))

  pub from_root : FromRoot b
  unfolding could_move
  from_root =
      record {
        root = unfold standing fresh path path_up in refl;
        child = λ n h. below n (not-false _ h) (standing (program b) (path (program b) (suc n))).missing refl;
      }
    where
      below : (n : ℕ) → (standing (program b) (path (program b) (node_at (program b) (suc n)).parent)).missing ≡ true
          → (x : Bool) → (standing (program b) (path (program b) (suc n))).missing ≡ x → not (standing (program b) (path (program b) (suc n))).missing ≡ false
      below n h true e = rw e
      below n h false e =
          let P = good b (promise b ok) in
          let up = path_step (program b) P.parents (suc n) (omega arith) in
          absurd (false≢true (sym (missing_above (program b) P (suc n) _ (rw up at e)) ∙ h))
