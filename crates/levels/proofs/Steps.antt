-- Steps that were done, one after the other; and the small ones.
use Prim.Native.Nat.{ℕ, ◌+◌, ◌<◌}
use native.Mathlib.Numerals.{add-one}
use mathlib.Core.Path.{◌≡◌, refl, sym, ap, ◌∙◌}
use mathlib.Core.Bool.{Bool, true, false}
use mathlib.Core.List.{List, [], ◌∷◌, ◌++◌, append-nil, append_assoc, map}
use lib.ListN.{length}
use Rattle.basics.specs.Write.{MOST, WroteAt}
use Rattle.basics.proofs.Places.{at_then, at_none, at_as, at_length}
use Rattle.book.specs.Book.{Book, lists, field, entries}
use Rattle.book_test.proofs.Entries.{entries_more, map_more}
use Rattle.smt_engines.specs.Command.{Command, script}
use Rattle.smt_engines.proofs.Hearing.{script_append}
use Rattle.rsolver.specs.Step.{Step, skip, ◌⨟◌, for, do_unless, unless}
use Rattle.rsolver.specs.LevelState.{LevelState, level_state, join_at, send, declare_at, miss}
use Rattle.levels.specs.declared.Progress.{Progress}
use Rattle.levels.specs.Did.{Did, Ready}

pub did_skip : (n : ℕ) (ls : List ℕ) (so : Progress) (o : List ℕ) → so.at < MOST + 1 → Did skip n ls ls so o o so
unfolding skip script
did_skip n ls so o h =
    record {
      commands = [];
      does = λ st sent e. ap (level_state st ls so.missing) (sym (append-nil sent));
      text = at_none so.at o h;
    }

pub did_then : {f g : Step LevelState} {n : ℕ} {ls ls1 ls2 : List ℕ} {so s1 s2 : Progress} {o o1 o2 : List ℕ} → length o < MOST + 1
    → Did f n ls ls1 so o o1 s1 → Did g n ls1 ls2 s1 o1 o2 s2 → Did (f ⨟ g) n ls ls2 so o o2 s2
unfolding ◌⨟◌
did_then {f} {g} {n} {ls} {ls1} {ls2} {so} {s1} {s2} {o} {o1} {o2} short a b =
    record {
      commands = a.commands ++ b.commands;
      does = λ st sent e.
          ap g (a.does st sent e) ∙ b.does st (sent ++ a.commands) e
          ∙ ap (level_state st ls2 s2.missing) (append_assoc sent a.commands b.commands);
      text = at_as (sym (script_append a.commands b.commands)) (at_then short a.text b.text);
    }

-- the step told otherwise
pub did_as : {f g : Step LevelState} {n : ℕ} {ls ls' : List ℕ} {so r : Progress} {o o' : List ℕ} → ((s : LevelState) → g s ≡ f s) → Did f n ls ls' so o o' r → Did g n ls ls' so o o' r
did_as same d = record { commands = d.commands; does = λ st sent e. same _ ∙ d.does st sent e; text = d.text }

pub did_unless : (test : LevelState → Bool) (f : Step LevelState) {n : ℕ} {ls ls' : List ℕ} {so r : Progress} {o o' : List ℕ}
    → ((st : List ℕ) (sent : List Command) → test (level_state st ls so.missing sent) ≡ false) → Did f n ls ls' so o o' r → Did (unless test f) n ls ls' so o o' r
unfolding unless do_unless
did_unless test f fails d = record { commands = d.commands; does = λ st sent e. rw (fails st sent) (d.does st sent e); text = d.text }

pub did_not : (test : LevelState → Bool) (f : Step LevelState) (n : ℕ) {ls : List ℕ} {so : Progress} (o : List ℕ)
    → ((st : List ℕ) (sent : List Command) → test (level_state st ls so.missing sent) ≡ true) → so.at < MOST + 1 → Did (unless test f) n ls ls so o o so
unfolding unless do_unless script
did_not test f n {ls} {so} o holds h =
    record {
      commands = [];
      does = λ st sent e. rw (holds st sent) (ap (level_state st ls so.missing) (sym (append-nil sent)));
      text = at_none so.at o h;
    }

pub did_send : (c : Command) {n : ℕ} {ls : List ℕ} {so r : Progress} {o o' : List ℕ} → WroteAt (script (c ∷ [])) so.at o o' r.at → r.missing ≡ so.missing → Did (send c) n ls ls so o o' r
unfolding send
did_send c {n} {ls} {so} w e = record { commands = c ∷ []; does = λ st sent h. ap (λ (m : Bool). level_state st ls m (sent ++ (c ∷ []))) (sym e); text = w }

pub did_mark : (k : ℕ) {n : ℕ} {ls ls1 : List ℕ} {so : Progress} (o : List ℕ) → ls1 ≡ join_at ls k n → so.at < MOST + 1 → Did (declare_at k) n ls ls1 so o o so
unfolding declare_at script
did_mark k {n} {ls} {ls1} {so} o j l =
    record {
      commands = [];
      does = λ st sent e. rw (e, ← j) (ap (level_state st ls1 so.missing) (sym (append-nil sent)));
      text = at_none so.at o l;
    }

-- a command is sent and a place marked, in either order
pub did_told : (c : Command) (k : ℕ) {n : ℕ} {ls ls1 : List ℕ} {so r : Progress} {o o' : List ℕ} → ls1 ≡ join_at ls k n → WroteAt (script (c ∷ [])) so.at o o' r.at → r.missing ≡ so.missing
    → Did (send c ⨟ declare_at k) n ls ls1 so o o' r
unfolding send declare_at ◌⨟◌
did_told c k {n} {ls} {ls1} {so} {r} j w e =
    record {
      commands = c ∷ [];
      does = λ st sent h. rw (h, ← j) (ap (λ (m : Bool). level_state st ls1 m (sent ++ (c ∷ []))) (sym e));
      text = w;
    }

pub did_miss : {n : ℕ} {ls : List ℕ} {so r : Progress} (o : List ℕ) → r.at ≡ so.at → r.missing ≡ true → so.at < MOST + 1 → Did miss n ls ls so o o r
unfolding miss script
did_miss {n} {ls} {so} {r} o a e h =
    record {
      commands = [];
      does = λ st sent k. rw e (ap (level_state st ls true) (sym (append-nil sent)));
      text = rw a (at_none so.at o h);
    }

-- ---- over a range of lists
for_more : {A : Type 0} (xs : List A) (x : A) (body : A → Step LevelState) (s : LevelState) → for (xs ++ (x ∷ [])) body s ≡ (for xs body ⨟ body x) s
unfolding for ◌⨟◌
for_more [] x body s = refl
for_more (y ∷ xs) x body s = for_more xs x body (body y s)

for_none : {A : Type 0} (body : A → Step LevelState) (s : LevelState) → for [] body s ≡ skip s
unfolding for skip
for_none body s = refl

pub did_none : (n : ℕ) (ls : List ℕ) (so : Progress) (o : List ℕ) {A : Type 0} (b : Book) (g : ℕ → A) (body : A → Step LevelState) (start : ℕ) → so.at < MOST + 1
    → Did (for (map g (entries b start 0)) body) n ls ls so o o so
unfolding entries
did_none n ls so o b g body start h = did_as (λ s. for_none body s) (did_skip n ls so o h)

pub did_more : {A : Type 0} (b : Book) (g : ℕ → A) (body : A → Step LevelState) (start i : ℕ) {n k : ℕ} {ls ls1 ls2 : List ℕ} {so s1 s2 : Progress} {o o1 o2 : List ℕ} → length o < MOST + 1
    → Did (for (map g (entries b start i)) body) n ls ls1 so o o1 s1 → k ≡ field b lists (start + i) 0 → Did (body (g k)) n ls1 ls2 s1 o1 o2 s2 → Did (for (map g (entries b start (i + 1))) body) n ls ls2 so o o2 s2
did_more b g body start i short a e d =
    did_as (λ s. rw (add-one i, entries_more b start i, map_more g (entries b start i) (field b lists (start + i) 0)) (for_more (map g (entries b start i)) (g (field b lists (start + i) 0)) body s))
    (did_then short a (rw e at d))

-- ---- what a call leaves
pub did_length : {f : Step LevelState} {n : ℕ} {ls ls' : List ℕ} {so r : Progress} {o o' : List ℕ} → Did f n ls ls' so o o' r → length o' ≡ length o
did_length d = at_length d.text

pub ready_next : {b : Book} {n : ℕ} {ls ls1 : List ℕ} → Ready b n ls → length ls1 ≡ length ls → Ready b n ls1
ready_next r e = record { promise = r.promise; deep = r.deep; wide = e ∙ r.wide }
