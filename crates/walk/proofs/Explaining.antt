-- Constants that are walked, and what an axiom explains.
use Prim.Native.Nat.{ℕ, zero, suc, ◌+◌, ◌<◌}
use native.Mathlib.Omega.{arith}
use native.Mathlib.Numerals.{add-one}
use mathlib.Core.Path.{◌≡◌, refl, sym, ◌∙◌}
use mathlib.Core.Bool.{Bool, true, false, not, ◌&&◌}
use mathlib.Core.List.{List, [], ◌∷◌, ◌++◌}
use lib.Dec.{eqb}
use lib.ListN.{get_or}
use borrow.Author.Tests.{eq-eqb, ne_eqb}
use Rattle.basics.specs.Lists.{all, member}
use Rattle.basics.specs.Write.{MOST}
use Rattle.basics.proofs.Bool.{and-true, and-false}
use Rattle.book.specs.Book.{Book, constants, axioms, lists, field, entries}
use Rattle.book.specs.Decode.{axiom_of}
use Rattle.book_test.proofs.Entries.{entries_more}
use Rattle.rsolver.specs.LevelState.{constant_places, function_places, place, is_declared_at}
use Rattle.levels.specs.declared.Progress.{Progress}
use Rattle.levels.specs.Did.{Did}
use Rattle.levels.specs.Types.{constant_step}
use Rattle.levels.proofs.Steps.{did_unless, did_not}
use Rattle.excluded.specs.Excluded.{is_excluded}
use Rattle.walk.specs.Walk.{id_step, all_explained, Walked}

module _ (b : Book) where
  -- ---- an Id
  pub id_excluded : (v n : ℕ) (ls : List ℕ) (so : Progress) (o : List ℕ) {set : List ℕ} {r : Bool} → r ≡ is_excluded set v → r ≡ true → v < constants.most → so.at < MOST + 1
      → Walked (id_step b v) set n ls ls so o o so
  unfolding id_step
  id_excluded v n ls so o e t h l = record { did = λ x k. let q : member v x ≡ true = sym (k.same v h) ∙ sym e ∙ t in did_not _ _ n o (λ st sent. rw q) l }

  pub id_declared : (v n : ℕ) (ls : List ℕ) (so : Progress) (o : List ℕ) {set : List ℕ} {r : Bool} → r ≡ is_excluded set v → r ≡ false → v < constants.most → (get_or ls (constant_places + v) 0 ≡ 0 → ⊥) → so.at < MOST + 1
      → Walked (id_step b v) set n ls ls so o o so
  unfolding id_step is_declared_at place
  id_declared v n ls so o e t h z l =
      record { did = λ x k. let q : member v x ≡ false = sym (k.same v h) ∙ sym e ∙ t in did_not _ _ n o (λ st sent. rw (q, ne_eqb (get_or ls (constant_places + v) 0) 0 z)) l }

  pub id_new : (v : ℕ) {n : ℕ} {ls ls1 : List ℕ} {so s1 : Progress} {o o1 : List ℕ} {set : List ℕ} {r : Bool} → r ≡ is_excluded set v → r ≡ false → v < constants.most → get_or ls (constant_places + v) 0 ≡ 0
      → Did (constant_step b v) n ls ls1 so o o1 s1 → Walked (id_step b v) set n ls ls1 so o o1 s1
  unfolding id_step is_declared_at place
  id_new v {ls = ls} e t h z d =
      record { did = λ x k. let q : member v x ≡ false = sym (k.same v h) ∙ sym e ∙ t in did_unless _ _ (λ st sent. rw (q, eq-eqb (get_or ls (constant_places + v) 0) 0 z)) d }

  -- ---- the functions of a range of lists, all declared
  abbrev pub Explained : ℕ → ℕ → List ℕ → Bool
  Explained start count ls = all (entries b start count) (λ f. not (eqb (get_or ls (function_places + f) 0) 0))

  pub explained_none : (start : ℕ) (ls : List ℕ) → Explained start 0 ls ≡ true
  unfolding entries all
  explained_none start ls = refl

  all_more : (xs : List ℕ) (x : ℕ) (test : ℕ → Bool) → all (xs ++ (x ∷ [])) test ≡ (all xs test && test x)
  unfolding all
  all_more [] x test = and-true (test x)
  all_more (y ∷ xs) x test = rw (all_more xs x test) (assoc (test y) (all xs test) (test x))
    where
      assoc : (p q r : Bool) → (p && (q && r)) ≡ ((p && q) && r)
      assoc true q r = refl
      assoc false q r = refl

  pub explained_more : (start i : ℕ) (ls : List ℕ) {f : ℕ} → Explained start i ls ≡ true → f ≡ field b lists (start + i) 0 → (get_or ls (function_places + f) 0 ≡ 0 → ⊥) → Explained start (i + 1) ls ≡ true
  explained_more start i ls {f} h e z =
      rw (add-one i, entries_more b start i, all_more (entries b start i) (field b lists (start + i) 0) (λ f. not (eqb (get_or ls (function_places + f) 0) 0)), h, ← e)
      (rw (ne_eqb (get_or ls (function_places + f) 0) 0 z))

  fails : (start count i : ℕ) (test : ℕ → Bool) → i < count → test (field b lists (start + i) 0) ≡ false → all (entries b start count) test ≡ false
  unfolding entries all
  fails start zero i test h e = absurd (omega arith)
  fails start (suc count) zero test h e = let q : start + 0 ≡ start = omega arith in rw (rw q at e)
  fails start (suc count) (suc i) test h e =
      let q : start + suc i ≡ suc start + i = omega arith in
      rw (fails (suc start) count i test (omega arith) (rw q at e)) (and-false (test (field b lists start 0)))

  explains_is : (k : ℕ) (ls : List ℕ) {start count : ℕ} → start ≡ field b axioms k 1 → count ≡ field b axioms k 2 → Explained start count ls ≡ all_explained b k ls
  unfolding all_explained axiom_of
  explains_is k ls e f = rw (e, f)

  pub explained_stop : (k : ℕ) (ls : List ℕ) {start count i f : ℕ} → start ≡ field b axioms k 1 → count ≡ field b axioms k 2 → i < count → f ≡ field b lists (start + i) 0 → get_or ls (function_places + f) 0 ≡ 0 → false ≡ all_explained b k ls
  explained_stop k ls {start} {count} {i} {f} e g h q z =
      sym (fails start count i (λ f. not (eqb (get_or ls (function_places + f) 0) 0)) h (rw (← q, eq-eqb (get_or ls (function_places + f) 0) 0 z))) ∙ explains_is k ls e g

  pub explained_all : (k : ℕ) (ls : List ℕ) {start count i : ℕ} → start ≡ field b axioms k 1 → count ≡ field b axioms k 2 → i ≡ count → Explained start i ls ≡ true → true ≡ all_explained b k ls
  explained_all k ls e g q h = sym (rw q at h) ∙ explains_is k ls e g
