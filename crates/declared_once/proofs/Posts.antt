-- What a declaring step leaves: the sets and the log hold, what was declared stays so, no more axioms are unsent, and these symbols are
-- declared. Steps in a row, under a test and in a loop.
use Prim.Native.Nat.{ℕ, ◌≤◌}
use native.Mathlib.Nat.{le_refl, le_trans}
use mathlib.Core.Path.{◌≡◌, refl}
use mathlib.Core.Bool.{Bool, true, false}
use mathlib.Core.List.{List, [], ◌∷◌, ◌++◌}
use lib.ListN.{length}
use Rattle.basics.proofs.All.{All, end, all_append, all_split, all_weaken}
use Rattle.book.specs.Book.{Book}
use Rattle.book.specs.Decode.{program}
use Rattle.rsolver.specs.Step.{Step, skip, ◌⨟◌, for, do_unless, unless}
use Rattle.rsolver.specs.SolverState.{SolverState, marked}
use Rattle.rsolver.proofs.Fuel.{unmarked, body_counts}
use Rattle.declared_once.specs.Symbols.{Symbol}
use Rattle.declared_once.proofs.Unique.{Of}
use Rattle.declared_once.proofs.Log.{Key, by_marker, by_name, has, markers_with, Inv}

abbrev pub has_in : Symbol → SolverState → Bool
has_in x t = has x t.declarations t.additional_declared_names

abbrev pub Have : SolverState → List Symbol → Type 0
Have t xs = All (λ x. has_in x t ≡ true) xs

module _ (b : Book) where
  abbrev pub Holds : SolverState → Type 0
  Holds t = Inv b t.declarations t.additional_declared_names t.sent

  abbrev pub unsent : SolverState → ℕ
  unsent t = unmarked (length (program b).axioms) t.declarations

  pub unsent_key : (j : Key) (t : SolverState) → unmarked (length (program b).axioms) (markers_with j t.declarations) ≤ unsent t
  unfolding markers_with marked
  unsent_key (by_marker m) t = ((body_counts (program b)).mark m).falls t tt
  unsent_key (by_name n) t = le_refl _

  -- from t to u, which has declared the xs
  pub record Post (t u : SolverState) (xs : List Symbol) : Type 0 where
    pub holds : Holds u
    pub keeps : (x : Symbol) → has_in x t ≡ true → has_in x u ≡ true
    pub less : unsent u ≤ unsent t
    pub there : Have u xs

  -- from every state with at most n axioms that are not sent
  abbrev pub Does : ℕ → Step SolverState → List Symbol → Type 0
  Does n f xs = (t : SolverState) → Holds t → unsent t ≤ n → Post t (f t) xs

module _ {b : Book} where
  pub stay : {t : SolverState} {xs : List Symbol} → Holds b t → Have t xs → Post b t t xs
  stay I hs = record { holds = I; keeps = λ x h. h; less = le_refl _; there = hs }

  pub post_then : {t u v : SolverState} {xs ys : List Symbol} → Post b t u xs → Post b u v ys → Post b t v (xs ++ ys)
  post_then {t} {u} {v} A B =
      record {
        holds = B.holds;
        keeps = λ x h. B.keeps x (A.keeps x h);
        less = le_trans B.less A.less;
        there = all_append (all_weaken B.keeps A.there) B.there;
      }

  -- the same, with other symbols that are declared at the end
  pub post_have : {t u : SolverState} {xs ys : List Symbol} → Post b t u xs → Have u ys → Post b t u ys
  post_have A hs = record { holds = A.holds; keeps = A.keeps; less = A.less; there = hs }

  module _ {n : ℕ} where
    pub skip_p : Does b n skip []
    unfolding skip
    skip_p t I l = stay I end

    pub then_p : {f g : Step SolverState} {xs ys : List Symbol} → Does b n f xs → Does b n g ys → Does b n (f ⨟ g) (xs ++ ys)
    unfolding ◌⨟◌
    then_p {f} F G t I l = let A = F t I l in post_then A (G (f t) A.holds (le_trans A.less l))

    pub unless_p : (test : SolverState → Bool) {f : Step SolverState} {xs : List Symbol} → ((t : SolverState) → Holds b t → test t ≡ true → Have t xs)
        → ((t : SolverState) → Holds b t → unsent b t ≤ n → test t ≡ false → Post b t (f t) xs) → Does b n (unless test f) xs
    unfolding unless do_unless
    unless_p test {f} {xs} yes' no' t I l = at (test t) refl
      where
        at : (c : Bool) → test t ≡ c → Post b t (do_unless c f t) xs
        at true e = stay I (yes' t I e)
        at false e = no' t I l e

    pub for_p : {A : Type 0} (sorts : A → List Symbol) (all-sorts : List A → List Symbol) → all-sorts [] ≡ []
        → ((x : A) (xs : List A) → all-sorts (x ∷ xs) ≡ sorts x ++ all-sorts xs)
        → {body : A → Step SolverState} → ((x : A) → All (Of b) (sorts x) → Does b n (body x) (sorts x))
        → (xs : List A) → All (Of b) (all-sorts xs) → Does b n (for xs body) (all-sorts xs)
    unfolding for skip ◌⨟◌
    for_p sorts all-sorts nil cons F [] h = rw nil skip_p
    for_p sorts all-sorts nil cons F (x ∷ xs) h =
        let s = all_split (sorts x) (all-sorts xs) (rw (cons x xs) at h) in
        rw (cons x xs) (then_p (F x s.0) (for_p sorts all-sorts nil cons F xs s.1))

    pub for_any : {A : Type 0} {body : A → Step SolverState} → ((x : A) → Does b n (body x) []) → (xs : List A) → Does b n (for xs body) []
    unfolding for skip ◌⨟◌
    for_any F [] = skip_p
    for_any F (x ∷ xs) = then_p (F x) (for_any F xs)
