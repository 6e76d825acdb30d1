-- A method that changes its object is a step from state to state; a few words join steps as statements are joined.
use Rattle.std.specs.Prelude.{Bool, true, false, List, [], ◌∷◌}

abbrev pub Step : Type 0 → Type 0
Step S = S → S

unfoldable pub skip : {S : Type 0} → Step S
skip s = s

-- one step after the other
infixr 40 ◌⨟◌
unfoldable pub ◌⨟◌ : {S : Type 0} → Step S → Step S → Step S
◌⨟◌ f g s = g (f s)

unfoldable pub for : {S A : Type 0} → List A → (A → Step S) → Step S
for [] body s = s
for (x ∷ xs) body s = for xs body (body x s)

-- the step, unless the test holds already
unfoldable pub do_unless : {S : Type 0} → Bool → Step S → Step S
do_unless true step s = s
do_unless false step s = step s

unfoldable pub unless : {S : Type 0} → (S → Bool) → Step S → Step S
unless test step s = do_unless (test s) step s

-- one step where the test holds, else the other
unfoldable pub do_either : {S : Type 0} → Bool → Step S → Step S → Step S
do_either true f g s = f s
do_either false f g s = g s

unfoldable pub either : {S : Type 0} → (S → Bool) → Step S → Step S → Step S
either test f g s = do_either (test s) f g s
