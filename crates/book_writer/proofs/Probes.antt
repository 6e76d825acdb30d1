-- Record and RecordTracePoint: the probe's name by the parent's depth, and both calls by one function.
use Rattle.std.specs.Prelude.{Some, None}
use denote.Bor.{Bor}
use Prim.Native.Nat.{ℕ, ◌≤◌}
use native.Mathlib.Omega.{arith}
use mathlib.Core.Path.{◌≡◌, sym, ap, ◌∙◌}
use mathlib.Core.Option.{Option}
use mathlib.Core.Bool.{false}
use mathlib.Core.List.{List}
use lib.ListN.{length}
use borrow.Author.Tests.{ltb-false}
use Rattle.basics.proofs.Bool.{or_left}
use Rattle.basics.specs.Text.{Text}
use Rattle.book.specs.Book.{Book, contexts, size}
use Rattle.book.specs.Program.{depth}
use Rattle.book.specs.Decode.{program}
use Rattle.contexts.specs.Path.{IsPath}
use Rattle.arrayvec.specs.ArrayVec.{ArrayVec, array_vec_len}
use Rattle.name_search.specs.Names.{maybe}
use Rattle.new_records.specs.NewNames.{maybe_text}
use Rattle.name_search.specs.Probe.{probe_name}
use Rattle.name_search.specs.ProbeText.{IsProbeName}
use Rattle.book_writer.specs.Growths.{record_term, record_trace_point, outside_at, probe_draft, draft_of, addition_of, handed_right, number_of}
use Rattle.book_writer.specs.Coded.{grow_below, Appends, probe_by, probe_below}
use Rattle.book_writer.specs.Writing.{Answer}

-- a path's length is its node's depth
depth_is : (b : Book) (n : ℕ) {r : ArrayVec ℕ} → IsPath b n r → array_vec_len r ≡ depth (program b) n
unfolding depth
depth_is b n h = ap length h.is

module _ (b : Book) (p : ℕ) (t : Option ℕ) (typ : ℕ) (trace : Option Text) (room : ℕ) {q : ArrayVec ℕ} {d : ℕ} {r : ArrayVec ℕ} {n : List ℕ} {x : Answer} {o o1 s s1 : List ℕ} where
  pub probe_as : IsPath b p q → d ≡ array_vec_len q → IsProbeName d r → n ≡ r.items → Appends (probe_by b n p t typ trace room) x o o1 s s1
      → Appends (probe_below b p t typ trace room) x o o1 s s1
  unfolding probe_below
  probe_as h e k l a = rw (l ∙ k.is ∙ ap probe_name (e ∙ depth_is b p h)) at a

pub inside_parent : (b : Book) (p t : ℕ) → outside_at b p t ≡ false → p ≤ size b contexts
unfolding outside_at
inside_parent b p t e = ltb-false (size b contexts) p (or_left _ _ e)

module _ (b : Book) (room : ℕ) {x : Answer} {o o1 s s1 : List ℕ} where
  pub recorded : (p t typ : ℕ) (trace : Option Text) → Appends (probe_below b p (maybe (Some t)) typ trace room) x o o1 s s1 → Appends (grow_below b (record_term p t typ trace) room) x o o1 s s1
  unfolding probe_below probe_by grow_below maybe addition_of draft_of probe_draft handed_right number_of
  recorded p t typ trace a = a

  pub pointed : (p : ℕ) (trace : Bor Text) → Appends (probe_below b p (maybe None) 0 (maybe_text (Some trace)) room) x o o1 s s1 → Appends (grow_below b (record_trace_point p trace.now) room) x o o1 s s1
  unfolding probe_below probe_by grow_below maybe addition_of draft_of probe_draft handed_right number_of
  pointed p trace a = a
