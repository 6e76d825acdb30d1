-- The call operator.
use Rattle.std.specs.Prelude.{Result, Err}
use Prim.Native.Nat.{ℕ, zero, suc, ◌-◌, ◌≤◌}
use native.Mathlib.Omega.{arith}
use mathlib.Core.Path.{◌≡◌, refl, sym, ap, ◌∙◌}
use mathlib.Core.List.{List}
use mathlib.Core.Option.{none, some}
use lib.ListN.{length}
use Rattle.std.proofs.lemmas.List.{get_or-map}
use Rattle.basics.specs.Text.{Text}
use Rattle.basics.specs.Outcome.{map_outcome}
use Rattle.basics.specs.Buffer.{buffer_after}
use Rattle.book.specs.Refusal.{number}
use Rattle.book.specs.declared.Refusal.{Refusal}
use Rattle.book.specs.declared.Refusal.TheVariants.{NoOperator}
use Rattle.solver_expr.specs.Operators.{Equiv, operators, operator_of}
use Rattle.solver_expr.specs.Print.{printed_value, fitting, Answered, operator_text, operator_call}
use Rattle.printing.specs.Calls.{operator_count, operator_name, entry}
use Rattle.printing.proofs.OperatorTable.{name_is}

module _ (code : ℕ) (x : List ℕ) where
  abbrev Named : Result ℕ Refusal → List ℕ → Type 0
  Named r x1 = (printed_value r ≡ (operator_call code x).answer) × (x1 ≡ (operator_call code x).text)

  pub no_name : operator_of code ≡ none → Named (Err NoOperator) x
  unfolding operator_call operator_text map_outcome buffer_after printed_value number
  no_name e = rw e (refl, refl)

  pub a_name : (name : Text) {r : Result ℕ Refusal} {x1 : List ℕ} → ((room : ℕ) → operator_text (operator_of code) room ≡ fitting room name) → Answered (fitting (length x) name) r x x1 → Named r x1
  unfolding operator_call
  a_name name e a = rw (e (length x)) (a.answer, a.text)

-- what stands in the code for it is its operator's name
pub named : (code : ℕ) (x : List ℕ) {name : Text} {r : Result ℕ Refusal} {x1 : List ℕ} → 1 ≤ code → code ≤ operator_count → name ≡ entry (code - 1)
    → Answered (fitting (length x) name) r x x1 → Named code x r x1
unfolding operator_text operator_of operator_name
named zero x l h e a = absurd (omega arith)
named (suc k) x {name} l h e a = a_name (suc k) x name told a
  where
    told : (room : ℕ) → operator_text (operator_of (suc k)) room ≡ fitting room name
    told room =
        let j : suc k - 1 ≡ k = omega arith in
        rw (get_or-map some operators k Equiv none (omega arith)) (sym (ap (fitting room) (e ∙ ap entry j ∙ name_is k (omega arith))))
