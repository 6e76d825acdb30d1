-- A node's own line.
use Prim.Native.Nat.{ℕ, zero, suc, ◌+◌, ◌-◌, ◌≤◌, ◌<◌}
use native.Mathlib.Omega.{arith}
use mathlib.Core.Path.{◌≡◌, refl, sym, ap, ◌∙◌}
use mathlib.Core.List.{List, [], ◌∷◌, ◌++◌}
use Rattle.basics.specs.Text.{ascii, newline, space_byte}
use Rattle.basics.specs.Write.{Wrote, WroteRepeat}
use Rattle.basics.proofs.Laws.{wrote_none, wrote_as}
use Rattle.book.specs.Book.{Book, letters, names, contexts, size, field, name_text}
use Rattle.book.specs.Laid.{Laid, Holds}
use Rattle.book.specs.Program.{Context, node_at}
use Rattle.book.specs.Decode.{trace_of, context_of, program}
use Rattle.book.proofs.Terms.{node-at}
use Rattle.contexts.specs.Path.{IsBelow}
use Rattle.rsolver.specs.Trace.{trace_line}

-- the field that a node's trace is told by
trace_at : (b : Book) (node : ℕ) → IsBelow b node → (node_at (program b) node).trace_string ≡ trace_of b (field b contexts (node - 1) 2)
unfolding context_of
trace_at b zero h = absurd (omega (arith, h.below))
trace_at b (suc k) h =
    let e : suc k - 1 ≡ k = omega arith in
    rw e (ap (λ (c : Context). c.trace_string) (node-at b k (omega (arith, h.inside))))

no_line : (b : Book) (trace : ℕ) → trace ≡ 0 → trace_line (trace_of b trace) ≡ []
unfolding trace_line trace_of
no_line b zero e = refl
no_line b (suc n) e = absurd (omega arith)

name_line : (b : Book) (trace : ℕ) → ¬ (trace ≡ 0) → trace_line (trace_of b trace) ≡ ascii "  " ++ name_text b (trace - 1) ++ (newline ∷ [])
unfolding trace_line trace_of
name_line b zero h = absurd (h refl)
name_line b (suc n) h = let e : suc n - 1 ≡ n = omega arith in rw e

module _ (b : Book) (node : ℕ) (here : IsBelow b node) (trace : ℕ) (is : trace ≡ field b contexts (node - 1) 2) where
  line-is : trace_line (trace_of b trace) ≡ trace_line (node_at (program b) node).trace_string
  line-is = ap (λ (n : ℕ). trace_line (trace_of b n)) is ∙ ap trace_line (sym (trace_at b node here))

  pub wrote_no_line : trace ≡ 0 → (o : List ℕ) → Wrote (trace_line (node_at (program b) node).trace_string) o o 0
  wrote_no_line e o = wrote_as (sym (no_line b trace e) ∙ line-is) (wrote_none o)

  pub wrote_line : ¬ (trace ≡ 0) → {o o1 : List ℕ} {r : ℕ} → Wrote (ascii "  " ++ name_text b (trace - 1) ++ (newline ∷ [])) o o1 r
      → Wrote (trace_line (node_at (program b) node).trace_string) o o1 r
  wrote_line h w = wrote_as (sym (name_line b trace h) ∙ line-is) w

  -- the name can be read
  pub name_here : ¬ (trace ≡ 0)
      → Laid b letters × Holds b names (trace - 1) 1 × (field b names (trace - 1) 0 + field b names (trace - 1) 1 ≤ size b letters)
  name_here h =
      let P = here.promise in
      let few = (P.context (node - 1) (omega (arith, here.inside, here.below))).trace in
      let l : trace - 1 < size b names = omega arith in
      (P.letters_laid, record { laid = P.names_laid; here = l; within = omega arith }, (P.name (trace - 1) l).ends)

-- two spaces
pub two_spaces : {o o1 : List ℕ} {r : ℕ} → WroteRepeat space_byte 2 o o1 r → Wrote (ascii "  ") o o1 r
two_spaces w = w.text 2 refl
