-- A program with more behind its axioms and contexts: the same is looked up, the paths are the same, and SetContext goes the same way, in
-- any two forms of the state.
use Prim.Native.Nat.{ℕ, zero, suc, ◌-◌, ◌≤◌, ◌<◌}
use native.Mathlib.Omega.{arith}
use mathlib.Core.Path.{◌≡◌, refl, sym, ap, ap₂, ◌∙◌, subst}
use mathlib.Core.List.{List, ◌∷◌, ◌++◌}
use lib.Dec.{ltb}
use lib.ListN.{length, length-append, get_or-append}
use borrow.Author.Tests.{ltb-false}
use Rattle.basics.specs.Text.{Text}
use Rattle.book.specs.Program.{Program, Context, node_at, path_up, path, depth}
use Rattle.rsolver.specs.Step.{◌⨟◌}
use Rattle.rsolver.specs.Methods.{Marker, Methods}
use Rattle.rsolver.specs.REngine.{enter, adjust_context, pop_times, set_context}
use Rattle.rsolver.specs.Trace.{trace_line, trace_of, print_trace}
use Rattle.rsolver.proofs.Related.{Keeps, skip_k, then_k, unless_r, either_k, SameAxioms}
use Rattle.solvers.specs.Fallbacks.{Anything, program_or}
use Rattle.solvers.proofs.Good.{Good}
use Rattle.solvers.proofs.PlacedBook.{Bounded}
use Rattle.book.proofs.Paths.{path_step}

-- what SetContext asks of two forms of the state: the stacks are alike, and a pop keeps that where there is something to pop
pub record Stacked {S T : Type 0} (M : Methods S) (N : Methods T) (R : S → T → Type 0) : Type 0 where
  pub high : (s : S) (t : T) → R s t → M.stack_length s ≡ N.stack_length t
  pub top : (memo : ℕ) (s : S) (t : T) → R s t → M.is_top_memo memo s ≡ N.is_top_memo memo t
  pub pop : (s : S) (t : T) → R s t → 0 < N.stack_length t → R (M.pop s) (N.pop t)
  pub lower : (t : T) → N.stack_length (N.pop t) ≡ N.stack_length t - 1

module _ (x : Anything) where
  -- ---- axioms
  module _ {Q : Marker → Type 0} {p : Program} (B : Bounded Q p) where
    pub same_axioms : SameAxioms Q (program_or x p) p
    unfolding program_or
    same_axioms =
        record {
          same = λ k h. get_or-append p.axioms x.axioms _ k (B.listed k h);
          explains = B.has.explains;
          term = B.has.axiom_term;
        }

    pub more_axioms : length p.axioms < suc (length (program_or x p).axioms)
    unfolding program_or
    more_axioms = omega (arith, length-append p.axioms x.axioms)

  -- ---- contexts
  module _ (p : Program) where
    pub node_same : (n : ℕ) → 0 < n → n ≤ length p.contexts → node_at (program_or x p) n ≡ node_at p n
    unfolding node_at program_or
    node_same n h l = get_or-append p.contexts x.contexts _ (n - 1) (omega arith)

    module _ (G : Good p) where
      up_same : (f n : ℕ) → n ≤ length p.contexts → path_up (program_or x p) f n ≡ path_up p f n
      unfolding path_up
      up_same zero n l = refl
      up_same (suc f) zero l = refl
      up_same (suc f) (suc n) l =
          ap {B = List ℕ} (λ (c : Context). suc n ∷ path_up (program_or x p) f c.parent) (node_same (suc n) (omega arith) l)
          ∙ ap {B = List ℕ} (λ r. suc n ∷ r) (up_same f (node_at p (suc n)).parent (omega (arith, G.parents n)))

      depth_same : (n : ℕ) → n ≤ length p.contexts → depth (program_or x p) n ≡ depth p n
      unfolding depth path
      depth_same n l = ap length (up_same n n l)

      trace_up : (f n : ℕ) → n ≤ length p.contexts → trace_of (program_or x p) (path_up p f n) ≡ trace_of p (path_up p f n)
      unfolding path_up trace_of
      trace_up zero n l = refl
      trace_up (suc f) zero l = refl
      trace_up (suc f) (suc n) l =
          ap₂ (λ (text : Text) (c : Context). text ++ trace_line c.trace_string) (trace_up f (node_at p (suc n)).parent (omega (arith, G.parents n)))
          (node_same (suc n) (omega arith) l)

      pub trace_same : (n : ℕ) → n ≤ length p.contexts → print_trace (program_or x p) n ≡ print_trace p n
      unfolding print_trace path
      trace_same n l = ap (trace_of (program_or x p)) (up_same n n l) ∙ trace_up n n l

      -- a node of some depth is no root, and its parent has one less
      deeper : (d n : ℕ) → suc d ≡ depth p n → (0 < n) × ((node_at p n).parent ≤ n) × (d ≡ depth p (node_at p n).parent)
      unfolding depth
      deeper d zero e = absurd (unfold path path_up in omega arith)
      deeper d (suc n) e = (omega arith, omega (arith, G.parents n), omega (arith, e, ap length (path_step p G.parents (suc n) (omega arith))))

      -- ---- moves
      module _ {S T : Type 0} {M : Methods S} {N : Methods T} {R : S → T → Type 0} (X : Stacked M N R)
          (enter_k : (n : ℕ) → 0 < n → n ≤ length p.contexts → Keeps R (enter M (program_or x p) n) (enter N p n)) where
        adjust_k : (d n : ℕ) → d ≡ depth p n → n ≤ length p.contexts → Keeps R (adjust_context M (program_or x p) d n) (adjust_context N p d n)
        unfolding adjust_context ◌⨟◌
        adjust_k zero n e l = skip_k
        adjust_k (suc d) n e l =
            let D = deeper d n e in
            let up : Keeps R (adjust_context M (program_or x p) d (node_at (program_or x p) n).parent) (adjust_context N p d (node_at p n).parent) =
            subst (λ (c : Context). Keeps R (adjust_context M (program_or x p) d c.parent) (adjust_context N p d (node_at p n).parent))
            (sym (node_same n D.0 l)) (adjust_k d (node_at p n).parent D.2 (omega (arith, D.1))) in
            let down = then_k up (enter_k n D.0 l) in
            either_k _ _ (λ s t r. ap (λ (k : ℕ). ltb k (suc d)) (X.high s t r)) down
            (λ s t r f.
            unless_r R _ _ _ _ s t (X.top n s t r) r
            (λ g. down.keeps (M.pop s) (N.pop t) (X.pop s t r (omega (arith, ltb-false (N.stack_length t) (suc d) f)))))

        pops_k : (n : ℕ) (s : S) (t : T) → R s t → n ≤ N.stack_length t → R (pop_times M (program_or x p) n s) (pop_times N p n t)
        unfolding pop_times
        pops_k zero s t r h = r
        pops_k (suc n) s t r h = pops_k n (M.pop s) (N.pop t) (X.pop s t r (omega arith)) (omega (arith, X.lower t))

        pub set_k : (n : ℕ) → n ≤ length p.contexts → Keeps R (set_context M (program_or x p) n) (set_context N p n)
        unfolding set_context
        set_k n l =
            record {
              keeps = λ s t r.
                  let k = N.stack_length t - depth p n in
                  let pops : R (pop_times M (program_or x p) k s) (pop_times N p k t) = pops_k k s t r (omega arith) in
                  let set : R (adjust_context M (program_or x p) (depth p n) n (pop_times M (program_or x p) k s)) (adjust_context N p (depth p n) n (pop_times N p k t)) =
                  (adjust_k (depth p n) n refl l).keeps _ _ pops in
                  rw (depth_same n l, X.high s t r) set;
            }
