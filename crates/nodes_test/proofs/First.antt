-- The position answered is the first that fails.
use Prim.Native.Nat.{ℕ, zero, suc, ◌<◌}
use native.Mathlib.Omega.{arith}
use mathlib.Core.Path.{◌≡◌, refl, sym, ◌∙◌, subst}
use mathlib.Core.Logic.{◌⊎◌, inl, inr}
use mathlib.Core.Bool.{Bool, true, false}
use mathlib.Core.List.{List, [], ◌∷◌}
use mathlib.Core.Option.{some, some-injective, some-ne-none}
use lib.ListN.{length, get_or}
use Rattle.book.specs.Program.{Program}
use Rattle.nodes_test.specs.NodesTest.{could_move, first_failing}
use Rattle.nodes_test.specs.Reach.{First}
use Rattle.nodes_test.proofs.Failing.{Passed, first-is, none_is}

module _ (p : Program) where
  record FirstAt (ns : List ℕ) (k : ℕ) : Type 0 where
    here : k < length ns
    fails : could_move p (get_or ns k 0) ≡ false
    before : Passed p ns k

  -- all pass, or there is a first that fails
  found : (ns : List ℕ) → Passed p ns (length ns) ⊎ ((k : ℕ) × FirstAt ns k)
  found [] = inl (λ k l. absurd (omega arith))
  found (n ∷ ns) = at (could_move p n) refl (found ns)
    where
      passes : {m : ℕ} → could_move p n ≡ true → Passed p ns m → Passed p (n ∷ ns) (suc m)
      passes h f zero l = h
      passes h f (suc k) l = f k (omega arith)

      at : (x : Bool) → could_move p n ≡ x → Passed p ns (length ns) ⊎ ((k : ℕ) × FirstAt ns k) → Passed p (n ∷ ns) (suc (length ns)) ⊎ ((k : ℕ) × FirstAt (n ∷ ns) k)
      at true h (inl f) = inl (passes h f)
      at true h (inr (k, f)) = inr (suc k, record { here = omega (arith, f.here); fails = f.fails; before = passes h f.before })
      at false h r = inr (0, record { here = omega arith; fails = h; before = λ k l. absurd (omega arith) })

  pub first : (ns : List ℕ) → First p ns
  first ns = at (found ns)
    where
      at : Passed p ns (length ns) ⊎ ((k : ℕ) × FirstAt ns k) → First p ns
      at (inl f) =
          let none' = none_is p ns f in
          record {
            here = λ k e. absurd (some-ne-none k (sym e ∙ none'));
            fails = λ k e. absurd (some-ne-none k (sym e ∙ none'));
            before = λ k e. absurd (some-ne-none k (sym e ∙ none'));
            all_pass = λ e. f;
            none_fails = λ g. none';
          }
      at (inr (j, f)) =
          let some' = first-is p ns j f.here f.before f.fails in
          let same : (k : ℕ) → first_failing p ns ≡ some k → j ≡ k = λ k e. some-injective j k (sym some' ∙ e) in
          record {
            here = λ k e. subst (λ i. i < length ns) (same k e) f.here;
            fails = λ k e. subst (λ i. could_move p (get_or ns i 0) ≡ false) (same k e) f.fails;
            before = λ k e. subst (Passed p ns) (same k e) f.before;
            all_pass = λ e. absurd (some-ne-none j (sym some' ∙ e));
            none_fails = λ g. none_is p ns g;
          }
