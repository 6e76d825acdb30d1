-- What our own writer makes is accepted where no other check refuses it.
use Prim.Native.Nat.{ℕ, suc}
use native.Mathlib.Omega.{arith}
use mathlib.Core.Path.{◌≡◌, refl, ap, ◌∙◌, subst}
use mathlib.Core.Bool.{true, not}
use mathlib.Core.List.{List, [], ◌∷◌, map}
use lib.ListN.{length, length-map}
use borrow.Author.Tests.{le-leb, lt-ltb, eq-eqb}
use Rattle.basics.specs.Lists.{all}
use Rattle.basics.specs.Outcome.{Outcome, refused, accepted}
use Rattle.basics.proofs.All.{All, end, more}
use Rattle.basics.proofs.Refusals.{may, past}
use Rattle.book.specs.Book.{Book, terms, contexts, size}
use Rattle.smt_engines.specs.Reader.{Stack, first, over}
use Rattle.solvers.specs.Rule.{present}
use Rattle.stack_rule.specs.Events.{Event, Trace, run}
use Rattle.script_checks.specs.ScriptChecks.{checks}
use Rattle.level_lines.specs.AsOften.{same_levels}
use Rattle.level_lines.proofs.Bags.{bag_same}
use Rattle.question_lists.specs.Questions.{Question, questions_of, numbers_of, is_inside, is_complete, stack_for}
use Rattle.audit.specs.Audit.{Verdict, agrees, agreeing, verdict, audited}
use Rattle.own_scripts.specs.OwnScripts.{asked, OwnScripts}
use Rattle.own_scripts.proofs.Said.{Open}
use Rattle.own_scripts.proofs.Asked.{Told, own_told}

-- ---- the questions
numbers_back : (qs : List Question) → questions_of (numbers_of qs) ≡ qs
unfolding questions_of numbers_of
numbers_back [] = refl
numbers_back (q ∷ qs) = ap {B = List Question} (λ r. q ∷ r) (numbers_back qs)

all-inside : (b : Book) {qs : List Question} → All (Open b) qs → all qs (is_inside b) ≡ true
unfolding all is_inside present
all-inside b end = refl
all-inside b (more {a = q} f fs) =
    rw (le-leb q.node (size b contexts) f.inside, lt-ltb q.goal (size b terms) f.asks.0, all-inside b fs)

all-complete : (b : Book) {qs : List Question} → All (Open b) qs → all qs (is_complete b) ≡ true
unfolding all is_complete present
all-complete b end = refl
all-complete b (more {a = q} f fs) = rw (f.asks.1, all-complete b fs)

-- ---- the verdict
levels_refl : (st : Stack) → same_levels st st ≡ true
unfolding same_levels
levels_refl (Stack.first l) = bag_same l l (λ x. refl)
levels_refl (Stack.over l st) = rw (bag_same l l (λ x. refl), levels_refl st)

agree_own : (b : Book) (k : ℕ) (qs : List Question) → verdict k (agreeing b (map (stack_for b) qs) qs) ≡ agrees
unfolding agreeing verdict
agree_own b k [] = refl
agree_own b k (q ∷ qs) = rw (levels_refl (stack_for b q)) (agree_own b (suc k) qs)

-- ---- the ladder
abbrev Says : Outcome Verdict → Type 0
Says (refused k) = (¬ (k ≡ 7)) × (¬ (k ≡ 9)) × (¬ (k ≡ 27))
Says (accepted v) = v ≡ agrees

says : (scratch : ℕ) (t : Trace) (qs : List Question) → Told t qs → Says (audited scratch t.book (numbers_of qs) t.text)
unfolding audited
says scratch t qs x =
    let b = t.book in
    let even : length (checks t.text) ≡ length qs = ap length x.seen ∙ length-map qs (stack_for b) in
    rw (numbers_back qs)
    (may Says 1 _ _ (omega arith)
    (may Says 2 _ _ (omega arith)
    (may Says 3 _ _ (omega arith)
    (may Says 4 _ _ (omega arith)
    (may Says 5 _ _ (omega arith)
    (may Says 6 _ _ (omega arith)
    (may Says 28 _ _ (omega arith)
    (past Says 7 _ (ap not (all-inside b x.opens))
    (past Says 9 _ (ap not (all-complete b x.opens))
    (may Says 25 _ _ (omega arith)
    (may Says 26 _ _ (omega arith)
    (past Says 27 _ (ap not (eq-eqb (length (checks t.text)) (length qs) even))
    (rw x.seen (agree_own b 1 qs))))))))))))))

pub own-scripts : (b : Book) (es : List Event) → OwnScripts b es
own-scripts b es =
    let s : (scratch : ℕ) → Says (audited scratch (run b es).book (numbers_of (asked b es)) (run b es).text) =
    λ scratch. says scratch (run b es) (asked b es) (own_told b es) in
    record {
      accepts = λ scratch v e. subst Says e (s scratch);
      never7 = λ scratch e. (subst Says e (s scratch)).0 refl;
      never9 = λ scratch e. (subst Says e (s scratch)).1 refl;
      never27 = λ scratch e. (subst Says e (s scratch)).2 refl;
    }
