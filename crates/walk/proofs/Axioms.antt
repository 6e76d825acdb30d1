-- Functions that are declared with their axioms, and axioms that are sent.
use Prim.Native.Nat.{ℕ, suc, ◌+◌, ◌<◌, ◌≤◌}
use native.Mathlib.Nat.{le_refl}
use native.Mathlib.Omega.{arith}
use native.Mathlib.Numerals.{add-one}
use mathlib.Core.Path.{◌≡◌, refl, sym, ap, ◌∙◌}
use mathlib.Core.Bool.{Bool, true, false, not, ◌||◌}
use mathlib.Core.List.{List, [], ◌∷◌, ◌++◌}
use lib.Dec.{eqb}
use lib.ListN.{length, get_or, replicate, length-replicate}
use borrow.Author.Tests.{eq-eqb, ne_eqb}
use Rattle.basics.specs.Lists.{all}
use Rattle.basics.specs.Write.{MOST, WroteAt}
use Rattle.basics.proofs.Places.{at_as}
use Rattle.book.specs.Book.{Book, no_term, functions, axioms, lists, size, field, entries}
use Rattle.book.specs.Decode.{function_of, axiom_term, axiom_of, term, program}
use Rattle.book.proofs.Terms.{axioms_length, axiom-at}
use Rattle.book_test.proofs.Entries.{entries_more}
use Rattle.smt_engines.specs.Command.{Command, Assume, script}
use Rattle.rsolver.specs.Step.{Step, skip, ◌⨟◌, for, unless}
use Rattle.rsolver.specs.LevelState.{LevelState, level_state, place, is_declared_at, join_at, count, send, declare_at, miss, function_places, axiom_places, sent_by}
use Rattle.rsolver.specs.REngine.{assume, walk, send_axiom, include_axiom, declare_operator, declare_new_types, declare_function, declare_new_symbols}
use Rattle.rsolver.proofs.Fewer.{fuel_free}
use Rattle.rsolver.proofs.Fuel.{undeclared, mark_new, counts, undeclared_most}
use Rattle.levels.specs.declared.Progress.{Progress}
use Rattle.levels.specs.Did.{Did, Ready}
use Rattle.levels.specs.Types.{engine, function_step}
use Rattle.levels.proofs.Steps.{did_skip, did_then, did_as, did_unless, did_not, did_send, did_mark, did_miss}
use Rattle.excluded.specs.Excluded.{Excludes}
use Rattle.walk.specs.Walk.{inner, symbols_step, operator_step, axioms_step, axiom_step, sent_axiom_step, all_explained, Walked, Included, Stands, NewSymbols}
use Rattle.walk.proofs.Walks.{left, inside}

module _ (b : Book) where
  -- ---- a function
  pub operator_old : (k n : ℕ) (ls : List ℕ) (so : Progress) (o : List ℕ) → (get_or ls (function_places + k) 0 ≡ 0 → ⊥) → so.at < MOST + 1 → Included (operator_step b k) n ls ls so o o so
  unfolding operator_step declare_operator function_of is_declared_at place
  operator_old k n ls so o z h = record { did = λ x. did_not _ _ n o (λ st sent. rw (ne_eqb (get_or ls (function_places + k) 0) 0 z)) h }

  whole : (k : ℕ) (x : List ℕ) (s : LevelState)
      → (for (function_of b k).input_types (declare_new_types (engine b)) ⨟ declare_new_types (engine b) (function_of b k).typ ⨟ declare_function (engine b) (function_of b k) ⨟ for (function_of b k).explained_by (include_axiom (engine b) (program b) (inner b) x)) s
      ≡ (function_step b k ⨟ axioms_step b (field b functions k 4) (field b functions k 5) x) s
  unfolding function_step axioms_step function_of ◌⨟◌
  whole k x s = refl

  pub operator_new : (k : ℕ) {start many : ℕ} {n : ℕ} {ls ls1 ls2 : List ℕ} {so s1 r : Progress} {o o1 o2 : List ℕ} → length o < MOST + 1
      → get_or ls (function_places + k) 0 ≡ 0 → Did (function_step b k) n ls ls1 so o o1 s1 → start ≡ field b functions k 4 → many ≡ field b functions k 5
      → Included (axioms_step b start many) n ls1 ls2 s1 o1 o2 r → Included (operator_step b k) n ls ls2 so o o2 r
  unfolding operator_step declare_operator function_of is_declared_at place
  operator_new k {ls = ls} short z d es em v =
      record { did = λ x. did_unless _ _ (λ st sent. rw (eq-eqb (get_or ls (function_places + k) 0) 0 z)) (did_as (λ s. whole k x s) (did_then short d (rw (es, em) at (v.did x)))) }

  -- ---- a range of axioms
  next : (ks : List ℕ) (k : ℕ) (body : ℕ → Step LevelState) (s : LevelState) → for (ks ++ (k ∷ [])) body s ≡ (for ks body ⨟ body k) s
  unfolding for ◌⨟◌
  next [] k body s = refl
  next (j ∷ ks) k body s = next ks k body (body j s)

  of_none : (start : ℕ) (x : List ℕ) (s : LevelState) → axioms_step b start 0 x s ≡ skip s
  unfolding axioms_step entries for skip
  of_none start x s = refl

  of_more : (start i : ℕ) (x : List ℕ) (s : LevelState) → axioms_step b start (suc i) x s ≡ (axioms_step b start i x ⨟ axiom_step b (field b lists (start + i) 0) x) s
  unfolding axioms_step axiom_step
  of_more start i x s = rw (entries_more b start i) (next (entries b start i) (field b lists (start + i) 0) (include_axiom (engine b) (program b) (inner b) x) s)

  pub axioms_none : (start n : ℕ) (ls : List ℕ) (so : Progress) (o : List ℕ) → so.at < MOST + 1 → Included (axioms_step b start 0) n ls ls so o o so
  axioms_none start n ls so o l = record { did = λ x. did_as (λ s. of_none start x s) (did_skip n ls so o l) }

  pub axioms_more : (start i : ℕ) {k n : ℕ} {ls ls1 ls2 : List ℕ} {so s1 s2 : Progress} {o o1 o2 : List ℕ} → length o < MOST + 1
      → Included (axioms_step b start i) n ls ls1 so o o1 s1 → k ≡ field b lists (start + i) 0 → Included (axiom_step b k) n ls1 ls2 s1 o1 o2 s2 → Included (axioms_step b start (i + 1)) n ls ls2 so o o2 s2
  axioms_more start i short v e w = record { did = λ x. rw (add-one i) (did_as (λ s. of_more start i x s) (did_then short (v.did x) (rw e at (w.did x)))) }

  -- ---- one axiom
  module _ {k : ℕ} (here : k < size b axioms) {cond : ℕ} (is : cond ≡ field b axioms k 0) where
    of_axiom : (x : List ℕ) (s : LevelState) → axiom_step b k x s ≡ send_axiom (engine b) (program b) (inner b) x k (axiom_of b k).explains (axiom_term b (eqb cond no_term) cond) s
    unfolding axiom_step include_axiom
    of_axiom x s = rw (axiom-at b k here) (unfold axiom_of in rw (← is))

    pub axiom_missing : {n : ℕ} {ls : List ℕ} {so r : Progress} (o : List ℕ) → cond ≡ no_term → r.at ≡ so.at → r.missing ≡ true → so.at < MOST + 1 → Included (axiom_step b k) n ls ls so o o r
    axiom_missing o e a m h = record { did = λ x. did_as (λ s. of_axiom x s ∙ missed x s) (did_miss o a m h) }
      where
        missed : (x : List ℕ) (s : LevelState) → send_axiom (engine b) (program b) (inner b) x k (axiom_of b k).explains (axiom_term b (eqb cond no_term) cond) s ≡ miss s
        missed x s = unfold axiom_term send_axiom in rw (eq-eqb cond no_term e)

    module _ (known : cond ≡ no_term → ⊥) where
      of_known : (x : List ℕ) (s : LevelState) → axiom_step b k x s
          ≡ unless (λ s. is_declared_at (axiom_places + k) s || not (all (axiom_of b k).explains (λ f. is_declared_at (function_places + f) s))) (sent_axiom_step b k cond x) s
      unfolding sent_axiom_step place
      of_known x s = of_axiom x s ∙ unfold axiom_term send_axiom place in rw (ne_eqb cond no_term known)

      pub axiom_old : (n : ℕ) (ls : List ℕ) (so : Progress) (o : List ℕ) → (get_or ls (axiom_places + k) 0 ≡ 0 → ⊥) → so.at < MOST + 1 → Included (axiom_step b k) n ls ls so o o so
      unfolding is_declared_at
      axiom_old n ls so o z h = record { did = λ x. did_as (λ s. of_known x s) (did_not _ _ n o (λ st sent. rw (ne_eqb (get_or ls (axiom_places + k) 0) 0 z)) h) }

      pub axiom_early : (n : ℕ) (ls : List ℕ) (so : Progress) (o : List ℕ) {e : Bool} → get_or ls (axiom_places + k) 0 ≡ 0 → e ≡ all_explained b k ls → e ≡ false → so.at < MOST + 1 → Included (axiom_step b k) n ls ls so o o so
      unfolding is_declared_at all_explained
      axiom_early n ls so o z q f h =
          record { did = λ x. did_as (λ s. of_known x s) (did_not _ _ n o (λ st sent. rw (eq-eqb (get_or ls (axiom_places + k) 0) 0 z, ← q, f)) h) }

      pub axiom_sent : {n : ℕ} {ls ls1 : List ℕ} {so r : Progress} {o o1 : List ℕ} {e : Bool} → get_or ls (axiom_places + k) 0 ≡ 0 → e ≡ all_explained b k ls → e ≡ true
          → Included (sent_axiom_step b k cond) n ls ls1 so o o1 r → Included (axiom_step b k) n ls ls1 so o o1 r
      unfolding is_declared_at all_explained
      axiom_sent {ls = ls} z q f w = record { did = λ x. did_as (λ s. of_known x s) (did_unless _ _ (λ st sent. rw (eq-eqb (get_or ls (axiom_places + k) 0) 0 z, ← q, f)) (w.did x)) }

  -- ---- an axiom that is sent: its mark makes the undeclared fewer, so the fuel is enough for its own walk
  module _ {n : ℕ} {ls ls1 : List ℕ} (y : Ready b n ls) {k : ℕ} (here : k < size b axioms) (zero' : get_or ls (axiom_places + k) 0 ≡ 0) (marked : ls1 ≡ join_at ls (axiom_places + k) n) where
    falls : (st : List ℕ) (m : Bool) (sent : List Command) → length st ≡ n → undeclared (program b) (level_state st ls1 m sent) < undeclared (program b) (level_state st ls m sent)
    falls st m sent e =
        rw (marked, ← e)
        (unfold declare_at in mark_new (program b) k (level_state st ls m sent) (inside y st m sent e) (omega (arith, axioms_length b)) (unfold is_declared_at in rw (eq-eqb (get_or ls (axiom_places + k) 0) 0 zero')))

    pub mark_fewer : left b ls1 < left b ls
    unfolding left
    mark_fewer = unfold undeclared in falls (replicate n 0) false [] (length-replicate {A = ℕ} n 0)

    ready_marked : length ls1 ≡ length ls → Ready b n ls1
    ready_marked e = record { promise = y.promise; deep = y.deep; wide = e ∙ y.wide }

    enough : length ls1 ≡ length ls → (t : ℕ) (st : List ℕ) (m : Bool) (sent : List Command) → length st ≡ n
        → inner b (term b t) [] (level_state st ls1 m sent) ≡ symbols_step b t [] (level_state st ls1 m sent)
    unfolding symbols_step
    enough l t st m sent e =
        let u = undeclared (program b) (level_state st ls1 m sent) in
        let most : undeclared (program b) (level_state st ls m sent) ≤ length (program b).axioms = unfold undeclared in undeclared_most axiom_places (length (program b).axioms) ls in
        fuel_free (counts (program b)) u (length (program b).axioms) (suc (length (program b).axioms)) (omega (arith, falls st m sent e, most)) (omega (arith, falls st m sent e, most)) (term b t) [] (level_state st ls1 m sent)
        (inside (ready_marked l) st m sent e) (le_refl u)
        ∙ unfold walk in refl

    pub sent_axiom : (cond : ℕ) {tag : ℕ} {ls2 none' : List ℕ} {so s1 r : Progress} {o o1 o2 : List ℕ} → length o < MOST + 1 → so.at < MOST + 1 → length ls1 ≡ length ls
        → Excludes none' [] → Walked (symbols_step b cond) none' n ls1 ls2 so o o1 s1 → tag ≡ count ls2
        → WroteAt (script (Assume (term b cond) tag ∷ [])) s1.at o1 o2 r.at → r.missing ≡ s1.missing → Included (sent_axiom_step b k cond) n ls ls2 so o o2 r
    unfolding sent_axiom_step place
    sent_axiom cond {tag} {ls2} {none'} {so} {s1} {r} {o} {o1} {o2} short h l e w q a m =
        let d : Did (symbols_step b cond []) n ls1 ls2 so o o1 s1 = w.did [] e in
        let own : Did (inner b (term b cond) []) n ls1 ls2 so o o1 s1 =
        record { commands = d.commands; does = λ st sent p. enough l cond st so.missing sent p ∙ d.does st sent p; text = d.text } in
        let last : Did (assume (engine b) (term b cond)) n ls2 ls2 s1 o1 o2 r = asserted a m in
        record { did = λ x. did_then short (did_mark (axiom_places + k) o marked h) (did_then short own last) }
      where
        asserted : WroteAt (script (Assume (term b cond) tag ∷ [])) s1.at o1 o2 r.at → r.missing ≡ s1.missing → Did (assume (engine b) (term b cond)) n ls2 ls2 s1 o1 o2 r
        asserted a m =
            let s : Did (send (Assume (term b cond) tag)) n ls2 ls2 s1 o1 o2 r = did_send (Assume (term b cond) tag) a m in
            record { commands = s.commands; does = λ st sent p. unfold assume in rw (← q) (s.does st sent p); text = s.text }

  -- ---- DeclareNewSymbols
  stands : {s : LevelState} {n : ℕ} {ls : List ℕ} {m : Bool} → Stands s n ls m → s ≡ level_state s.stack ls m s.sent
  stands {s} h i = level_state s.stack (h.levels i) (h.missing i) s.sent

  pub new_symbols : (t : ℕ) {n : ℕ} {ls ls1 none' : List ℕ} {so r : Progress} {o o1 : List ℕ} → Excludes none' [] → Walked (symbols_step b t) none' n ls ls1 so o o1 r → NewSymbols b t n ls ls1 so o o1 r
  unfolding symbols_step declare_new_symbols walk sent_by
  new_symbols t {n} {ls} {ls1} {so = so} e w =
      let f : Step LevelState = declare_new_symbols (engine b) (program b) (term b t) in
      let d = w.did [] e in
      record {
        levels = λ s h. ap (λ (y : LevelState). (f y).levels) (stands h) ∙ ap (λ (y : LevelState). y.levels) (d.does s.stack s.sent h.height);
        missing = λ s h. ap (λ (y : LevelState). (f y).missing) (stands h) ∙ ap (λ (y : LevelState). y.missing) (d.does s.stack s.sent h.height);
        text = λ s h.
            at_as (ap script (sym (ap (λ (y : LevelState). (f (level_state y.stack y.levels y.missing [])).sent) (stands h) ∙ ap (λ (y : LevelState). y.sent) (d.does s.stack [] h.height)))) d.text;
      }
