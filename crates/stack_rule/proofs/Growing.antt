-- The newest book grew from the first; so nodes that passed the test of nodes before are not refused 9 behind any list of events.
use Prim.Native.Nat.{ℕ, ◌≤◌}
use mathlib.Core.Path.{◌≡◌, refl, ap, ◌∙◌}
use mathlib.Core.Bool.{not}
use mathlib.Core.List.{List, [], ◌∷◌}
use mathlib.Core.Option.{none}
use Rattle.basics.specs.Outcome.{Outcome, refused, accepted}
use Rattle.book.specs.Book.{Book, contexts, size}
use Rattle.book.specs.Decode.{program}
use Rattle.book_test.specs.BookTest.{book_test}
use Rattle.book_growth.specs.Grows.{Grows}
use Rattle.book_growth.proofs.Order.{grows_refl, grows_trans}
use Rattle.book_writer.specs.Writing.{Lent, write, newest}
use Rattle.book_writer.proofs.Writing.{write_grows}
use Rattle.rsolver.specs.LevelState.{LevelState}
use Rattle.nodes_test.specs.NodesTest.{could_move, nodes_tested}
use Rattle.nodes_test.proofs.Never9.{passes, never}
use Rattle.stack_rule.specs.Events.{Event, calls, writes, Trace, after, happens, run_from, start, run}
use Rattle.stack_rule.specs.Growth.{Never9After}
use Rattle.stack_rule.proofs.GrownBook.{standing_kept}
use Rattle.solvers.specs.Session.{Written}
use Rattle.solvers.specs.Calls.{Call, call}

-- ---- from the first book to the newest
pub newest_grows : (b : Book) → book_test b ≡ accepted tt → (x : Lent) (o : Outcome Book) → write b x ≡ o → Grows b (newest b o)
unfolding newest
newest_grows b ok x (refused k) e = grows_refl b ok
newest_grows b ok x (accepted c) e = write_grows b x c e

call_grows : (t : Trace) → book_test t.book ≡ accepted tt → (c : Call) (o : Outcome Written) → Grows t.book (after t c o).book
unfolding after
call_grows t ok c (refused k) = grows_refl t.book ok
call_grows t ok c (accepted w) = grows_refl t.book ok

event_grows : (t : Trace) → book_test t.book ≡ accepted tt → (e : Event) → Grows t.book (happens t e).book
unfolding happens
event_grows t ok (calls c) = call_grows t ok c (call t.book t.now c)
event_grows t ok (writes x) = newest_grows t.book ok x (write t.book x) refl

grows_from : (es : List Event) (t : Trace) → book_test t.book ≡ accepted tt → Grows t.book (run_from t es).book
unfolding run_from
grows_from [] t ok = grows_refl t.book ok
grows_from (e ∷ es) t ok = let g = event_grows t ok e in grows_trans g (grows_from es (happens t e) g.after)

pub run_grows : (b : Book) (es : List Event) → book_test b ≡ accepted tt → Grows b (run b es).book
unfolding run start
run_grows b es ok = grows_from es (start b) ok

-- ---- nodes that passed
could_kept : {b c : Book} → Grows b c → (n : ℕ) → n ≤ size b contexts → could_move (program c) n ≡ could_move (program b) n
unfolding could_move
could_kept g n i = ap (λ (s : LevelState). not s.missing) (standing_kept g n i)

pub never_9_after : (scratch : ℕ) (b : Book) (nodes : List ℕ) → nodes_tested scratch b nodes ≡ accepted none → Never9After b nodes
never_9_after scratch b nodes e es h n m =
    let t = passes scratch b nodes e in
    let g = run_grows b es t.tested in
    never (run b es).book g.after n (could_kept g n (t.inside n m) ∙ t.could n m) (run b es).now h
