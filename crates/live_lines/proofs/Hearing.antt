-- A command that is heard, by its kind.
use Prim.Native.Nat.{ℕ, ◌+◌, ◌≤◌, ◌<◌}
use native.Mathlib.Numerals.{add-one}
use mathlib.Core.Path.{◌≡◌, refl, sym, ap, ◌∙◌}
use mathlib.Core.Logic.{◌⊎◌, inl, inr}
use Rattle.std.specs.Prelude.{Option, unwrap_or}
use mathlib.Core.Bool.{true, true≢false}
use mathlib.Core.List.{List}
use lib.ListN.{length, take, set}
use Rattle.basics.specs.Text.{Text}
use Rattle.smt_engines.specs.Reader.{asks}
use Rattle.command_lines.specs.declared.kinds.LineKind.{LineKind}
use Rattle.command_lines.specs.declared.kinds.LineKind.TheVariants.{Push, Pop, CheckSat, GetModel, Joins, Foreign}
use Rattle.command_lines.specs.Lines.{line_at}
use Rattle.command_lines.specs.CommandLines.{is_command, line_kind, heard_as, is_ours}
use Rattle.command_lines.proofs.Reading.{heard-as, is-ours}
use Rattle.live_lines.specs.LiveLines.{stays, is_live, last_push, push_place, Heard}
use Rattle.live_lines.proofs.Living.{live_length, lives_more, lives_same}
use Rattle.live_lines.proofs.Popping.{lives_pop, last-place, place_front}

module _ (s : Text) (at : ℕ) (starts : List ℕ) (n : ℕ) {q : LineKind} {line : Text} (told : q ≡ line_kind line) (here : line ≡ line_at s at) where
  kind : q ≡ line_kind (line_at s at)
  kind = told ∙ ap line_kind here

  join : {later : List ℕ} {r : ℕ} (k : LineKind) → is_command (line_at s at) ≡ true → n < length starts → q ≡ k → stays (heard_as k) ≡ true → r ≡ n + 1 → later ≡ set starts n at
      → Heard s at starts later n r
  unfolding is_live
  join k o h p t a b =
      let l : is_live (line_at s at) ≡ true = ap stays (heard-as (line_at s at) ∙ ap heard_as (sym kind ∙ p)) ∙ t in
      record { lives = λ st su v f. rw (b, a, add-one n) (lives_more s starts n at h l (live_length (line_at s at) o l) st su v f) }

  pub heard_join : {later : List ℕ} {r : ℕ} → is_command (line_at s at) ≡ true → n < length starts → (q ≡ Push) ⊎ (q ≡ Joins) → r ≡ n + 1 → later ≡ set starts n at → Heard s at starts later n r
  unfolding stays heard_as
  heard_join o h (inl p) a b = join Push o h p refl a b
  heard_join o h (inr p) a b = join Joins o h p refl a b

  pub heard_pop : {xs : List ℕ} {place : Option ℕ} {r : ℕ} → n ≤ length starts → q ≡ Pop → xs ≡ take n starts → place ≡ push_place s xs (length xs) → r ≡ unwrap_or place 0 → Heard s at starts starts n r
  heard_pop {xs} {place} {r} h p x e a =
      let f : r ≡ last_push s starts n =
      a ∙ ap (λ (o : Option ℕ). unwrap_or o 0) (e ∙ ap (λ (l : List ℕ). push_place s l (length l)) x ∙ place_front s starts n h) ∙ sym (last-place s starts n) in
      record { lives = λ st su l g. rw f (lives_pop s starts n at (sym kind ∙ p) st su l g) }

  ask : (k : LineKind) → q ≡ k → heard_as k ≡ asks → Heard s at starts starts n n
  ask k p a = record { lives = λ st su l f. lives_same s starts n at k (sym kind ∙ p) a st su l f }

  pub heard_rest : is_command (line_at s at) ≡ true → (q ≡ CheckSat) ⊎ ((q ≡ GetModel) ⊎ (q ≡ Foreign)) → Heard s at starts starts n n
  unfolding is_ours heard_as
  heard_rest o (inl p) = ask CheckSat p refl
  heard_rest o (inr (inl p)) = ask GetModel p refl
  heard_rest o (inr (inr p)) = absurd (true≢false (sym o ∙ is-ours (line_at s at) ∙ ap is_ours (sym kind ∙ p)))
