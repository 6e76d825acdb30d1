-- What a verdict says: each level holds the same commands, each as often; and the check-sat that is named is the first that differs.
use Prim.Native.Nat.{ℕ, zero, suc, ◌+◌, ◌<◌}
use native.Mathlib.Omega.{arith}
use mathlib.Core.Path.{◌≡◌, refl, sym, ap, ◌∙◌}
use mathlib.Core.Logic.{◌⊎◌, inl, inr}
use mathlib.Core.Bool.{Bool, true, false, true≢false, false≢true}
use mathlib.Core.List.{List, [], ◌∷◌}
use lib.ListN.{length}
use Rattle.basics.specs.Text.{Text}
use Rattle.basics.specs.Outcome.{accepted}
use Rattle.basics.proofs.Bool.{and_both, both_and}
use Rattle.book.specs.Book.{Book}
use Rattle.smt_engines.specs.Reader.{Stack, first, over, height}
use Rattle.level_lines.specs.AsOften.{as_often, same_levels}
use Rattle.level_lines.proofs.Bags.{same_bag, bag_same}
use Rattle.script_checks.specs.ScriptChecks.{checks}
use Rattle.question_lists.specs.Questions.{Question, questions_of, question_at, stack_for}
use Rattle.audit.specs.Audit.{Verdict, agrees, differs_at, agreeing, verdict, audited}
use Rattle.audit.proofs.Accepted.{not_refused}
use Rattle.own_scripts.specs.Agreement.{level_at, AsOften, SameCommands, OftenTest, LevelsTest, AgreesAt, Agreement, Audits}

-- ---- one level
as-often : (l m : List Text) → as_often l m ≡ true → AsOften l m
as-often l m h = (same_bag l m h).counts

often_as : (l m : List Text) → AsOften l m → as_often l m ≡ true
often_as l m h = bag_same l m h

pub often_test : (l m : List Text) → OftenTest l m
often_test l m = record { each = as-often l m; only = often_as l m }

-- ---- all levels
positive : (st : Stack) → 0 < height st
unfolding height
positive (first l) = omega arith
positive (over l st) = omega arith

same_commands : (st su : Stack) → same_levels st su ≡ true → SameCommands st su
unfolding same_levels level_at height
same_commands (first l) (first m) h = record { height = refl; levels = at }
  where
    at : (k : ℕ) → AsOften (level_at (first l) k) (level_at (first m) k)
    at zero = as-often l m h
    at (suc k) = λ x. refl
same_commands (first l) (over m su) h = absurd (false≢true h)
same_commands (over l st) (first m) h = absurd (false≢true h)
same_commands (over l st) (over m su) h =
    let r = and_both (as_often l m) (same_levels st su) h in
    let s = same_commands st su r.1 in
    record { height = ap suc s.height; levels = at r.0 s }
  where
    at : as_often l m ≡ true → SameCommands st su → (k : ℕ) → AsOften (level_at (over l st) k) (level_at (over m su) k)
    at e s zero = as-often l m e
    at e s (suc k) = s.levels k

commands_same : (st su : Stack) → SameCommands st su → same_levels st su ≡ true
unfolding same_levels level_at height
commands_same (first l) (first m) c = often_as l m (c.levels 0)
commands_same (first l) (over m su) c = absurd (omega (arith, c.height, positive su))
commands_same (over l st) (first m) c = absurd (omega (arith, c.height, positive st))
commands_same (over l st) (over m su) c =
    both_and (often_as l m (c.levels 0)) (commands_same st su (record { height = omega (arith, c.height); levels = λ k. c.levels (suc k) }))

pub levels_test : (st su : Stack) → LevelsTest st su
levels_test st su = record { each = same_commands st su; only = commands_same st su }

-- ---- the verdict
module _ (b : Book) where
  abbrev Agree : List Stack → List Question → ℕ → Type 0
  Agree sts qs n = (i : ℕ) → i < n → AgreesAt b sts qs i

  -- the first that differs, counted from k
  record Differs (k : ℕ) (sts : List Stack) (qs : List Question) (j : ℕ) : Type 0 where
    says : verdict k (agreeing b sts qs) ≡ differs_at (k + j)
    here : j < length qs
    differs : ¬ AgreesAt b sts qs j
    before : Agree sts qs j

  record Agrees (k : ℕ) (sts : List Stack) (qs : List Question) : Type 0 where
    says : verdict k (agreeing b sts qs) ≡ agrees
    each : Agree sts qs (length qs)

  abbrev Found : ℕ → List Stack → List Question → Type 0
  Found k sts qs = Agrees k sts qs ⊎ ((j : ℕ) × Differs k sts qs j)

  found : (k : ℕ) (sts : List Stack) (qs : List Question) → length sts ≡ length qs → Found k sts qs
  unfolding agreeing verdict question_at
  found k [] [] e = inl (record { says = refl; each = λ i l. absurd (omega arith) })
  found k [] (q ∷ qs) e = absurd (omega arith)
  found k (st ∷ sts) [] e = absurd (omega arith)
  found k (st ∷ sts) (q ∷ qs) e = at (same_levels st (stack_for b q)) refl (found (suc k) sts qs (omega arith))
    where
      one : {n : ℕ} → same_levels st (stack_for b q) ≡ true → Agree sts qs n → Agree (st ∷ sts) (q ∷ qs) (suc n)
      one h f zero l = same_commands st (stack_for b q) h
      one h f (suc i) l = f i (omega arith)

      at : (x : Bool) → same_levels st (stack_for b q) ≡ x → Found (suc k) sts qs → Found k (st ∷ sts) (q ∷ qs)
      at true h (inl f) = inl (record { says = rw h f.says; each = one h f.each })
      at true h (inr (j, f)) =
          let n : suc k + j ≡ k + suc j = omega arith in
          inr (suc j, record { says = rw h (f.says ∙ ap differs_at n); here = omega (arith, f.here); differs = f.differs; before = one h f.before })
      at false h r =
          let n : k ≡ k + 0 = omega arith in
          inr (0, record { says = rw h (ap differs_at n); here = omega arith; differs = λ c. true≢false (sym (commands_same st (stack_for b q) c) ∙ h); before = λ i l. absurd (omega arith) })

  agrees≢differs : {k : ℕ} → agrees ≡ differs_at k → ⊥
  agrees≢differs e = let z : ◌≡◌ {A = ℕ} 0 1 = cc in omega arith

  pub agreement : (sts : List Stack) (qs : List Question) → length sts ≡ length qs → Agreement b sts qs
  agreement sts qs e = at (found 1 sts qs e)
    where
      at : Found 1 sts qs → Agreement b sts qs
      at (inl f) =
          record {
            each = λ v. f.each;
            only = λ g. f.says;
            named = λ k v. absurd (agrees≢differs (sym f.says ∙ v));
            differs = λ k v. absurd (agrees≢differs (sym f.says ∙ v));
            before = λ k v. absurd (agrees≢differs (sym f.says ∙ v));
          }
      at (inr (j, f)) =
          let is : (k : ℕ) → verdict 1 (agreeing b sts qs) ≡ differs_at k → suc j ≡ k = λ k v. place (sym f.says ∙ v) in
          record {
            each = λ v. absurd (agrees≢differs (sym v ∙ f.says));
            only = λ g. absurd (f.differs (g j f.here));
            named = λ k v. (omega (arith, is k v), omega (arith, is k v, f.here));
            differs = λ k v. let z : j ≡ k = omega (arith, is (suc k) v) in rw (← z) f.differs;
            before = λ k v. let z : j ≡ k = omega (arith, is (suc k) v) in rw (← z) f.before;
          }
        where
          place : {k : ℕ} → differs_at (1 + j) ≡ differs_at k → suc j ≡ k
          place {k} v = let z : 1 + j ≡ k = cc in omega (arith, z)

-- ---- the call: behind 27 there are as many check-sats as questions
pub audits : (scratch : ℕ) (b : Book) (numbers : List ℕ) (script : Text) (v : Verdict) → audited scratch b numbers script ≡ accepted v → Audits b numbers script v
audits scratch b numbers script v e =
    let a = not_refused scratch b numbers script v e in
    record { given = a.given; means = agreement b (checks script) (questions_of numbers) a.even }
