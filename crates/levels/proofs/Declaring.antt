-- The steps that declare types, constants and functions, by what the code does.
use Prim.Native.Nat.{ℕ, zero, suc, ◌+◌, ◌-◌, ◌<◌, ◌≤◌}
use native.Mathlib.Omega.{arith}
use mathlib.Core.Path.{◌≡◌}
use mathlib.Core.List.{List, [], ◌∷◌}
use lib.ListN.{length, get_or}
use borrow.Author.Tests.{eq-eqb, ne_eqb}
use Rattle.basics.specs.Write.{MOST, WroteAt}
use Rattle.book.specs.Book.{Book, constants, functions, lists, field, user_types}
use Rattle.book.specs.Decode.{type_of, constant_of, function_of}
use Rattle.smt_engines.specs.Command.{DeclareSort, DeclareConstant, DeclareFunction, script}
use Rattle.smt_engines.specs.Written.{type_decl_of}
use Rattle.rsolver.specs.LevelState.{constant_places, function_places, place, join_at, is_declared_at}
use Rattle.rsolver.specs.REngine.{declare_type, declare_constant, declare_function, declare_new_types, declare_type_of}
use Rattle.levels.specs.declared.Progress.{Progress}
use Rattle.levels.specs.Did.{Did}
use Rattle.levels.specs.Types.{user_type_step, type_step, types_step, constant_types_step, constant_step, function_step}
use Rattle.levels.proofs.Steps.{did_skip, did_then, did_unless, did_not, did_told, did_none, did_more}

module _ (b : Book) where
  pub user_new : (k : ℕ) {n : ℕ} {ls ls1 : List ℕ} {so r : Progress} {o o1 : List ℕ} → get_or ls k 0 ≡ 0 → ls1 ≡ join_at ls k n
      → WroteAt (script (DeclareSort (type_decl_of b k) ∷ [])) so.at o o1 r.at → r.missing ≡ so.missing → Did (user_type_step b k) n ls ls1 so o o1 r
  unfolding user_type_step declare_new_types declare_type place is_declared_at
  user_new k {ls = ls} z j w e = did_unless _ _ (λ st sent. rw (eq-eqb (get_or ls k 0) 0 z)) (did_told _ _ j w e)

  pub user_old : (k : ℕ) {n : ℕ} {ls : List ℕ} {so : Progress} {o : List ℕ} → (get_or ls k 0 ≡ 0 → ⊥) → so.at < MOST + 1 → Did (user_type_step b k) n ls ls so o o so
  unfolding user_type_step declare_new_types declare_type place is_declared_at
  user_old k {ls = ls} {o = o} z h = did_not _ _ _ o (λ st sent. rw (ne_eqb (get_or ls k 0) 0 z)) h

  pub type_none : (typ : ℕ) {n : ℕ} {ls : List ℕ} {so : Progress} {o : List ℕ} → typ ≤ 1 → so.at < MOST + 1 → Did (type_step b typ) n ls ls so o o so
  unfolding type_step type_of declare_new_types
  type_none zero l h = did_skip _ _ _ _ h
  type_none (suc zero) l h = did_skip _ _ _ _ h
  type_none (suc (suc k)) l h = absurd (omega arith)

  pub type_some : (k : ℕ) {typ n : ℕ} {ls ls1 : List ℕ} {so r : Progress} {o o1 : List ℕ} → suc (suc k) ≡ typ → Did (user_type_step b k) n ls ls1 so o o1 r → Did (type_step b typ) n ls ls1 so o o1 r
  unfolding type_step user_type_step type_of
  type_some k e d = rw (← e) d

  pub types_none : (start n : ℕ) (ls : List ℕ) (so : Progress) (o : List ℕ) → so.at < MOST + 1 → Did (types_step b start 0) n ls ls so o o so
  unfolding types_step
  types_none start n ls so o h = did_none n ls so o b (type_of b) _ start h

  pub types_more : (start i : ℕ) {n k : ℕ} {ls ls1 ls2 : List ℕ} {so s1 s2 : Progress} {o o1 o2 : List ℕ} → length o < MOST + 1
      → Did (types_step b start i) n ls ls1 so o o1 s1 → k ≡ field b lists (start + i) 0 → Did (type_step b k) n ls1 ls2 s1 o1 o2 s2 → Did (types_step b start (i + 1)) n ls ls2 so o o2 s2
  unfolding types_step type_step
  types_more start i short a e d = did_more b (type_of b) _ start i short a e d

  pub variables_none : (start n : ℕ) (ls : List ℕ) (so : Progress) (o : List ℕ) → so.at < MOST + 1 → Did (constant_types_step b start 0) n ls ls so o o so
  unfolding constant_types_step
  variables_none start n ls so o h = did_none n ls so o b (constant_of b) _ start h

  pub variables_more : (start i : ℕ) {n v : ℕ} {ls ls1 ls2 : List ℕ} {so s1 s2 : Progress} {o o1 o2 : List ℕ} → length o < MOST + 1
      → Did (constant_types_step b start i) n ls ls1 so o o1 s1 → v ≡ field b lists (start + i) 0 → Did (type_step b (field b constants v 1)) n ls1 ls2 s1 o1 o2 s2
      → Did (constant_types_step b start (i + 1)) n ls ls2 so o o2 s2
  unfolding constant_types_step type_step declare_type_of constant_of
  variables_more start i short a e d = did_more b (constant_of b) _ start i short a e d

  pub constant_is : (k : ℕ) {n : ℕ} {ls ls1 ls2 : List ℕ} {so s1 r : Progress} {o o1 o2 : List ℕ} → length o < MOST + 1
      → Did (type_step b (field b constants k 1)) n ls ls1 so o o1 s1 → ls2 ≡ join_at ls1 (constant_places + k) n
      → WroteAt (script (DeclareConstant (constant_of b k) ∷ [])) s1.at o1 o2 r.at → r.missing ≡ s1.missing → Did (constant_step b k) n ls ls2 so o o2 r
  unfolding constant_step type_step declare_constant constant_of place
  constant_is k short d j w m = did_then short d (did_told _ _ j w m)

  pub function_is : (k : ℕ) {n start count typ : ℕ} {ls ls1 ls2 ls3 : List ℕ} {so s1 s2 r : Progress} {o o1 o2 o3 : List ℕ} → length o < MOST + 1
      → start ≡ field b functions k 2 → count ≡ field b functions k 3 → Did (types_step b start count) n ls ls1 so o o1 s1
      → typ ≡ field b functions k 1 → Did (type_step b typ) n ls1 ls2 s1 o1 o2 s2 → ls3 ≡ join_at ls2 (function_places + k) n
      → WroteAt (script (DeclareFunction (function_of b k) ∷ [])) s2.at o2 o3 r.at → r.missing ≡ s2.missing → length o1 ≡ length o → Did (function_step b k) n ls ls3 so o o3 r
  unfolding function_step types_step type_step declare_function function_of place
  function_is k short es ec a e d j w m l = did_then short (rw (es, ec) at a) (did_then (omega arith) (rw e at d) (did_told _ _ j w m))
