-- Program script: its output for document 01's sample, and where it stops. R n is point n of 03-readings.md.
use Prim.Native.Nat.{ℕ}
use mathlib.Core.Path.{◌≡◌, refl}
use mathlib.Core.List.{List, [], ◌∷◌, ◌++◌, map}
use lib.ListN.{length, take, replicate}
use Rattle.basics.specs.Text.{Text, ascii}
use Rattle.book.specs.Book.{Book}
use Rattle.script_text.specs.Script.{stopped, refused_line, shape_of, shape, desk, told, reply, answered, turn, onward, run_for, run, is_cut, book_of, calls_of, script_output}
use Rattle.worked_examples.proofs.Everything.{everything}
use Rattle.worked_examples.proofs.Books.{books, bytes32, sample}

unfoldable scripting : Unit {0}
unfolding stopped refused_line shape_of shape desk told reply answered turn onward run_for run is_cut book_of calls_of script_output
scripting = tt

input : Book → List ℕ → List ℕ
input b calls = bytes32 (length b ∷ []) ++ b ++ bytes32 calls

unfoldable pub outputs : List (Text × Text)
unfolding everything books scripting input
outputs =
    -- the sample, a node that is not there, a call of no kind and another that is not reached. R 60, 61, 63
    (
      script_output (input sample (1 ∷ 2 ∷ 0 ∷ 1 ∷ 3 ∷ 0 ∷ 2 ∷ 3 ∷ 18 ∷ 1 ∷ 4 ∷ 0 ∷ 3 ∷ 0 ∷ 0 ∷ 1 ∷ 0 ∷ 0 ∷ [])),
      ascii "(push 1)\n(declare-fun x () Int)\n(assert (< 0 x))\n(push 1)\n(declare-fun y () Int)\n(declare-fun f (Int) Int)\n(assert (forall ((z Int)) (= (f z) z)))\n(assert (= y (f x)))\n(pop 1)\n(push 1)\n(assert (< x 9))\n(push 1)\n(declare-fun f (Int) Int)\n(assert (forall ((z Int)) (= (f z) z)))\n(declare-fun y () Int)\n(push 1)\n(assert (not (< 0 (f y))))\n(check-sat)\n(pop 1)\n(pop 1)\n; refused 7\n; stopped\n",
    )
    -- no length, and a book cut short. R 57
    ∷ (script_output [], ascii "; stopped\n")
    ∷ (script_output (0 ∷ 0 ∷ 0 ∷ []), ascii "; stopped\n")
    ∷ (script_output (2 ∷ 0 ∷ 0 ∷ 0 ∷ 7 ∷ []), ascii "; stopped\n")
    -- a bad book is no stop, but a move with a term is. R 59, 60
    ∷ (script_output (input [] []), [])
    ∷ (script_output (input [] (1 ∷ 0 ∷ 0 ∷ 2 ∷ 9 ∷ 9 ∷ 1 ∷ 0 ∷ 1 ∷ [])), ascii "; refused 2\n; refused 2\n; stopped\n")
    -- a call cut short
    ∷ (script_output (take 15 (input [] (1 ∷ 0 ∷ 0 ∷ []))), ascii "; stopped\n")
    ∷ []

pub outputs_hold : map (λ e. e.0) outputs ≡ map (λ e. e.1) outputs
unfolding outputs
outputs_hold = refl
