-- Walks that were done, by what was done to the parts; and that no walk has more undeclared axioms afterwards.
use Prim.Native.Nat.{ℕ, zero, suc, ◌+◌, ◌*◌, ◌<◌, ◌≤◌}
use native.Mathlib.Omega.{arith}
use native.Mathlib.Numerals.{add-one}
use mathlib.Core.Path.{◌≡◌, refl}
use mathlib.Core.Bool.{Bool}
use mathlib.Core.List.{List, [], ◌∷◌}
use lib.ListN.{length, replicate, length-replicate}
use Rattle.basics.specs.Write.{MOST}
use Rattle.book.specs.Book.{Book, constants, patterns, terms, lists, size, field, entries}
use Rattle.book.specs.RExpr.{UserDefinedFunction}
use Rattle.book.specs.Decode.{function_of, args_of, pattern_of, to_rpatterns, term, program}
use Rattle.book.proofs.Terms.{axioms_length}
use Rattle.book_test.specs.Promise.{Promise}
use Rattle.smt_engines.specs.Command.{Command}
use Rattle.rsolver.specs.Step.{Step, skip}
use Rattle.rsolver.specs.LevelState.{LevelState, level_state, axiom_places}
use Rattle.rsolver.proofs.Fewer.{then_f, symbols_fall, all_fall, patterns_fall, operator_falls, axioms_fall, type_falls, types_fall, variables_fall, function_falls}
use Rattle.rsolver.proofs.Fuel.{undeclared_in, undeclared, Inside, Falls, counts}
use Rattle.levels.specs.declared.Progress.{Progress}
use Rattle.levels.specs.Did.{Did, Ready}
use Rattle.levels.specs.Types.{type_step, constant_types_step, function_step}
use Rattle.levels.proofs.Steps.{did_skip, did_then, did_as, did_length}
use Rattle.literals.specs.Literals.{literal_step}
use Rattle.excluded.specs.Excluded.{set_size, Joined, Ranged}
use Rattle.excluded.proofs.Sets.{excludes_with, listed, excludes_listed}
use Rattle.walk.specs.Walk.{id_step, symbols_step, terms_step, patterns_step, operator_step, axioms_step, Walked, Included}
use Rattle.walk.proofs.Shapes.{of_boolean, of_integer, of_literal, of_id, of_built_in, of_application, of_if, of_let, of_quantifier, of_terms, of_no_terms, of_patterns, of_no_patterns}

-- how many axioms are not declared
unfoldable pub left : Book → List ℕ → ℕ
left b ls = undeclared_in axiom_places (length (program b).axioms) ls

-- The number that falls with each call of the cycle: of the undeclared axioms, then of the term's number and the function called. One
-- axiom weighs more than any term.
abbrev pub axiom_weight : ℕ
axiom_weight = 5000

abbrev pub measure : Book → List ℕ → (below : ℕ) → ℕ
measure b ls below = left b ls * axiom_weight + below

pub inside : {b : Book} {n : ℕ} {ls : List ℕ} → Ready b n ls → (st : List ℕ) (m : Bool) (sent : List Command) → length st ≡ n → Inside (program b) (level_state st ls m sent)
inside {b} r st m sent e = record { deep = omega (arith, r.deep); wide = omega (arith, r.wide, axioms_length b, r.promise.axioms_laid.few) }

pub did_fewer : {b : Book} {f : Step LevelState} {n : ℕ} {ls ls' : List ℕ} {so r : Progress} {o o' : List ℕ} → Ready b n ls → Falls (program b) f → Did f n ls ls' so o o' r → left b ls' ≤ left b ls
unfolding left undeclared
did_fewer {b} {f} {n} {ls} {so = so} y F d =
    let st : List ℕ = replicate n 0 in
    let e : length st ≡ n = length-replicate {A = ℕ} n 0 in
    rw (d.does st [] e) at (F.falls (level_state st ls so.missing []) (inside y st so.missing [] e))

module _ {b : Book} {n : ℕ} {ls ls' : List ℕ} {so r : Progress} {o o' : List ℕ} (y : Ready b n ls) where
  some : {f : List ℕ → Step LevelState} {set : List ℕ} → length set ≡ set_size → Walked f set n ls ls' so o o' r → ((x : List ℕ) → Falls (program b) (f x)) → left b ls' ≤ left b ls
  some {f} {set} l w F = did_fewer y (F (listed set constants.most)) (w.did (listed set constants.most) (excludes_listed set l))

  pub term_fewer : (t : ℕ) {set : List ℕ} → length set ≡ set_size → Walked (symbols_step b t) set n ls ls' so o o' r → left b ls' ≤ left b ls
  unfolding symbols_step
  term_fewer t l w = some l w (λ x. symbols_fall (counts (program b)) (length (program b).axioms) (term b t) x)

  pub terms_fewer : (start count : ℕ) {set : List ℕ} → length set ≡ set_size → Walked (terms_step b start count) set n ls ls' so o o' r → left b ls' ≤ left b ls
  unfolding terms_step
  terms_fewer start count l w = some l w (λ x. all_fall (counts (program b)) (length (program b).axioms) (args_of b (term b) start count) x)

  pub patterns_fewer : (start count : ℕ) {set : List ℕ} → length set ≡ set_size → Walked (patterns_step b start count) set n ls ls' so o o' r → left b ls' ≤ left b ls
  unfolding patterns_step
  patterns_fewer start count l w =
      some l w (λ x. patterns_fall (counts (program b)) (length (program b).axioms) (to_rpatterns (pattern_of b (term b)) (entries b start count)) x)

  pub operator_fewer : (k : ℕ) → Included (operator_step b k) n ls ls' so o o' r → left b ls' ≤ left b ls
  unfolding operator_step
  operator_fewer k w = did_fewer y (operator_falls (counts (program b)) (length (program b).axioms) (UserDefinedFunction (function_of b k)) []) (w.did [])

  pub axioms_fewer : (start count : ℕ) → Included (axioms_step b start count) n ls ls' so o o' r → left b ls' ≤ left b ls
  unfolding axioms_step
  axioms_fewer start count w = did_fewer y (axioms_fall (counts (program b)) (length (program b).axioms) (entries b start count) []) (w.did [])

  pub type_fewer : (typ : ℕ) → Did (type_step b typ) n ls ls' so o o' r → left b ls' ≤ left b ls
  unfolding type_step
  type_fewer typ d = did_fewer y (type_falls (counts (program b)) _) d

  pub variables_fewer : (start count : ℕ) → Did (constant_types_step b start count) n ls ls' so o o' r → left b ls' ≤ left b ls
  unfolding constant_types_step
  variables_fewer start count d = did_fewer y (variables_fall (counts (program b)) _) d

  pub function_fewer : (k : ℕ) → Did (function_step b k) n ls ls' so o o' r → left b ls' ≤ left b ls
  unfolding function_step
  function_fewer k d = did_fewer y (then_f (types_fall (counts (program b)) _) (then_f (type_falls (counts (program b)) _) (function_falls (counts (program b)) _))) d

-- ---- a term, by its kind
module _ {b : Book} (P : Promise b) {t : ℕ} (here : t < size b terms) {k : ℕ} (kind : k ≡ field b terms t 0) where
  pub walked_none : (k ≤ 1) → (set : List ℕ) (n : ℕ) (ls : List ℕ) (so : Progress) (o : List ℕ) → so.at < MOST + 1 → Walked (symbols_step b t) set n ls ls so o o so
  walked_none h set n ls so o l = record { did = λ x e. did_as (λ s. at x s k refl) (did_skip n ls so o l) }
    where
      at : (x : List ℕ) (s : LevelState) (j : ℕ) → k ≡ j → symbols_step b t x s ≡ skip s
      at x s zero e = of_boolean P here kind x s e
      at x s (suc zero) e = of_integer P here kind x s e
      at x s (suc (suc j)) e = absurd (omega arith)

  pub walked_literal : {set : List ℕ} {n : ℕ} {ls ls1 : List ℕ} {so s1 : Progress} {o o1 : List ℕ} → k ≡ 2 → Did (literal_step b t) n ls ls1 so o o1 s1 → Walked (symbols_step b t) set n ls ls1 so o o1 s1
  walked_literal q d = record { did = λ x e. did_as (λ s. of_literal P here kind x s q) d }

  pub walked_id : {v : ℕ} {set : List ℕ} {n : ℕ} {ls ls1 : List ℕ} {so s1 : Progress} {o o1 : List ℕ} → k ≡ 3 → v ≡ field b terms t 1 → Walked (id_step b v) set n ls ls1 so o o1 s1 → Walked (symbols_step b t) set n ls ls1 so o o1 s1
  walked_id q ev w = record { did = λ x e. did_as (λ s. of_id P here kind x s q) (rw ev at (w.did x e)) }

  pub walked_built_in : {start count : ℕ} {set : List ℕ} {n : ℕ} {ls ls1 : List ℕ} {so s1 : Progress} {o o1 : List ℕ} → k ≡ 4 → start ≡ field b terms t 2 → count ≡ field b terms t 3
      → Walked (terms_step b start count) set n ls ls1 so o o1 s1 → Walked (symbols_step b t) set n ls ls1 so o o1 s1
  walked_built_in q es ec w = record { did = λ x e. did_as (λ s. of_built_in P here kind x s q) (rw (es, ec) at (w.did x e)) }

  pub walked_application : {f start count : ℕ} {set : List ℕ} {n : ℕ} {ls ls1 ls2 : List ℕ} {so s1 s2 : Progress} {o o1 o2 : List ℕ} → length o < MOST + 1
      → k ≡ 5 → f ≡ field b terms t 1 → start ≡ field b terms t 2 → count ≡ field b terms t 3
      → Included (operator_step b f) n ls ls1 so o o1 s1 → Walked (terms_step b start count) set n ls1 ls2 s1 o1 o2 s2 → Walked (symbols_step b t) set n ls ls2 so o o2 s2
  walked_application short q ef es ec v w =
      record { did = λ x e. did_as (λ s. of_application P here kind x s q) (did_then short (rw ef at (v.did x)) (rw (es, ec) at (w.did x e))) }

  pub walked_if : {g h e : ℕ} {set : List ℕ} {n : ℕ} {ls ls1 ls2 ls3 : List ℕ} {so s1 s2 s3 : Progress} {o o1 o2 o3 : List ℕ} → length o < MOST + 1
      → k ≡ 6 → g ≡ field b terms t 1 → h ≡ field b terms t 2 → e ≡ field b terms t 3
      → Walked (symbols_step b g) set n ls ls1 so o o1 s1 → Walked (symbols_step b h) set n ls1 ls2 s1 o1 o2 s2 → Walked (symbols_step b e) set n ls2 ls3 s2 o2 o3 s3 → Walked (symbols_step b t) set n ls ls3 so o o3 s3
  walked_if short q eg eh ee u v w =
      record {
        did = λ x e.
            did_as (λ s. of_if P here kind x s q)
            (did_then short (rw eg at (u.did x e)) (did_then (omega (arith, did_length (u.did x e))) (rw eh at (v.did x e)) (rw ee at (w.did x e))));
      }

  pub walked_let : {v h e : ℕ} {set set' : List ℕ} {n : ℕ} {ls ls1 ls2 ls3 : List ℕ} {so s1 s2 s3 : Progress} {o o1 o2 o3 : List ℕ} → length o < MOST + 1
      → k ≡ 7 → v ≡ field b terms t 1 → h ≡ field b terms t 2 → e ≡ field b terms t 3
      → Did (type_step b (field b constants v 1)) n ls ls1 so o o1 s1 → Walked (symbols_step b h) set n ls1 ls2 s1 o1 o2 s2 → Joined set set' v → Walked (symbols_step b e) set' n ls2 ls3 s2 o2 o3 s3
      → Walked (symbols_step b t) set n ls ls3 so o o3 s3
  walked_let {v} short q ev eh ee u w j z =
      record {
        did = λ x e.
            did_as (λ s. of_let P here kind x s q)
            (did_then short (rw ev at u) (did_then (omega (arith, did_length u)) (rw eh at (w.did x e)) (rw (ee, ev) at (z.did (v ∷ x) (excludes_with e j)))));
      }

  pub walked_quantifier : {start count e : ℕ} {set set' : List ℕ} {n : ℕ} {ls ls1 ls2 ls3 : List ℕ} {so s1 s2 s3 : Progress} {o o1 o2 o3 : List ℕ} → length o < MOST + 1
      → k ≡ 8 → start ≡ field b terms t 4 → count ≡ field b terms t 5 → e ≡ field b terms t 6
      → Did (constant_types_step b (field b terms t 2) (field b terms t 3)) n ls ls1 so o o1 s1 → Ranged b (field b terms t 2) (field b terms t 3) set set'
      → Walked (patterns_step b start count) set' n ls1 ls2 s1 o1 o2 s2 → Walked (symbols_step b e) set' n ls2 ls3 s2 o2 o3 s3 → Walked (symbols_step b t) set n ls ls3 so o o3 s3
  walked_quantifier short q es ec ee u j w z =
      record {
        did = λ x e.
            did_as (λ s. of_quantifier P here kind x s q)
            (did_then short u (did_then (omega (arith, did_length u)) (rw (es, ec) at (w.did _ (j.ranges x e))) (rw ee at (z.did _ (j.ranges x e)))));
      }

-- ---- lists
module _ (b : Book) where
  pub terms_none : (start : ℕ) (set : List ℕ) (n : ℕ) (ls : List ℕ) (so : Progress) (o : List ℕ) → so.at < MOST + 1 → Walked (terms_step b start 0) set n ls ls so o o so
  terms_none start set n ls so o l = record { did = λ x e. did_as (λ s. of_no_terms b x start s) (did_skip n ls so o l) }

  pub terms_more : (start i : ℕ) {c : ℕ} {set : List ℕ} {n : ℕ} {ls ls1 ls2 : List ℕ} {so s1 s2 : Progress} {o o1 o2 : List ℕ} → length o < MOST + 1
      → Walked (terms_step b start i) set n ls ls1 so o o1 s1 → c ≡ field b lists (start + i) 0 → Walked (symbols_step b c) set n ls1 ls2 s1 o1 o2 s2 → Walked (terms_step b start (i + 1)) set n ls ls2 so o o2 s2
  terms_more start i short v ec w =
      record { did = λ x e. rw (add-one i) (did_as (λ s. of_terms b x start i s) (did_then short (v.did x e) (rw ec at (w.did x e)))) }

  pub patterns_none : (start : ℕ) (set : List ℕ) (n : ℕ) (ls : List ℕ) (so : Progress) (o : List ℕ) → so.at < MOST + 1 → Walked (patterns_step b start 0) set n ls ls so o o so
  patterns_none start set n ls so o l = record { did = λ x e. did_as (λ s. of_no_patterns b x start s) (did_skip n ls so o l) }

  pub patterns_more : (start i : ℕ) {p first many : ℕ} {set : List ℕ} {n : ℕ} {ls ls1 ls2 : List ℕ} {so s1 s2 : Progress} {o o1 o2 : List ℕ} → length o < MOST + 1
      → Walked (patterns_step b start i) set n ls ls1 so o o1 s1 → p ≡ field b lists (start + i) 0 → first ≡ field b patterns p 0 → many ≡ field b patterns p 1
      → Walked (terms_step b first many) set n ls1 ls2 s1 o1 o2 s2 → Walked (patterns_step b start (i + 1)) set n ls ls2 so o o2 s2
  patterns_more start i short v ep ef em w =
      record { did = λ x e. rw (add-one i) (did_as (λ s. of_patterns b x start i s) (did_then short (v.did x e) (rw (ef, em, ep) at (w.did x e)))) }
