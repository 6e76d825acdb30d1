-- A state that stores levels and one that stores sets and copies agree, and each method keeps that.
use Rattle.std.specs.Prelude.{if◌then◌else◌}
use Prim.Native.Nat.{ℕ, zero, suc, ◌+◌, ◌<◌, ◌≤◌}
use native.Mathlib.Omega.{arith}
use native.Mathlib.Nat.{le_refl, not-suc-le-zero}
use mathlib.Core.Path.{◌≡◌, refl, sym, ap, ◌∙◌, subst}
use mathlib.Core.Bool.{Bool, true, false}
use mathlib.Core.List.{List, [], ◌∷◌, ◌++◌, map, tail}
use lib.Dec.{eqb}
use lib.ListN.{length, drop, length-map, length-drop, length-replicate}
use lib.Seq.{get_or-drop}
use borrow.Author.Tests.{ne_eqb, eq-eqb, eqb-true, eqb-false}
use Rattle.basics.specs.Text.{Text, same}
use Rattle.basics.proofs.All.{All}
use Rattle.basics.proofs.Texts.{same_eq}
use Rattle.book.specs.RExpr.{Literal}
use Rattle.book.specs.Program.{Program}
use Rattle.solver_expr.specs.Lowering.{literal_name}
use Rattle.smt_engines.specs.Command.{Command, Push, Pop}
use Rattle.rsolver.specs.Methods.{Marker, type, constant, function, axiom'}
use Rattle.rsolver.specs.LevelState.{literal_places, level_count, place, literal_place, join_at, forget, count, name_in, LevelState, no_levels, fresh, is_top, is_declared_at, push, pop, send, declare_at, miss, levelled}
use Rattle.rsolver.specs.SolverState.{same_marker, is_in, with', StackItem, SolverState, new_solver, pushed, pop_to, popped, told, marked, named, missed, bodies}
use Rattle.rsolver.specs.SolverState
use Rattle.rsolver.proofs.Placed.{MarkerPlaced, LiteralPlaced, place_below}
use Rattle.rsolver.proofs.Sets.{marker_eq, length_with, in_with}
use Rattle.rsolver.proofs.Levels.{within_zeros}
use Rattle.rsolver.proofs.AgreeLists.{declared_in, length_join, join_declares, count_join, within_join, within_more, forget_join, drop_join_below, drop_join, length_forget, forget_within, within_forget, Blank, forget_blank, zeros_blank, drop_blank, count_blank, name_blank, name_join, name_free}

-- ---- markers are the same where their places are
eqb_shift : (c j k : ℕ) → eqb j k ≡ eqb (c + j) (c + k)
eqb_shift c j k = at (eqb j k) refl
  where
    at : (b : Bool) → eqb j k ≡ b → b ≡ eqb (c + j) (c + k)
    at true e = let f : j ≡ k = eqb-true j k e in sym (eq-eqb (c + j) (c + k) (omega arith))
    at false e = let f = eqb-false j k e in sym (ne_eqb (c + j) (c + k) (λ g. f (omega arith)))

apart : (m n : Marker) → (place m ≡ place n → ⊥) → false ≡ eqb (place m) (place n)
apart m n h = sym (ne_eqb (place m) (place n) h)

same_place : (m n : Marker) → MarkerPlaced m → MarkerPlaced n → same_marker m n ≡ eqb (place m) (place n)
unfolding same_marker place
same_place (type j) (type k) h i = refl
same_place (type j) (constant k) h i = apart (type j) (constant k) (λ e. omega arith)
same_place (type j) (function k) h i = apart (type j) (function k) (λ e. omega arith)
same_place (type j) (axiom' k) h i = apart (type j) (axiom' k) (λ e. omega arith)
same_place (constant j) (type k) h i = apart (constant j) (type k) (λ e. omega arith)
same_place (constant j) (constant k) h i = eqb_shift _ j k
same_place (constant j) (function k) h i = apart (constant j) (function k) (λ e. omega arith)
same_place (constant j) (axiom' k) h i = apart (constant j) (axiom' k) (λ e. omega arith)
same_place (function j) (type k) h i = apart (function j) (type k) (λ e. omega arith)
same_place (function j) (constant k) h i = apart (function j) (constant k) (λ e. omega arith)
same_place (function j) (function k) h i = eqb_shift _ j k
same_place (function j) (axiom' k) h i = apart (function j) (axiom' k) (λ e. omega arith)
same_place (axiom' j) (type k) h i = apart (axiom' j) (type k) (λ e. omega arith)
same_place (axiom' j) (constant k) h i = apart (axiom' j) (constant k) (λ e. omega arith)
same_place (axiom' j) (function k) h i = apart (axiom' j) (function k) (λ e. omega arith)
same_place (axiom' j) (axiom' k) h i = eqb_shift _ j k

-- ---- levels, and a set of markers with a set of names
pub record Matches (p : Program) (ls : List ℕ) (d : List Marker) (n : List Text) : Type 0 where
  pub declared : (m : Marker) → MarkerPlaced m → declared_in ls (place m) ≡ is_in same_marker m d
  pub names : (name : Text) → name_in name p.literals (drop literal_places ls) ≡ is_in same name n
  pub counted : count ls ≡ length d + length n

blank_matches : (p : Program) (ls : List ℕ) → Blank ls → Matches p ls [] []
unfolding is_in
blank_matches p ls h =
    record {
      declared = λ m k. rw (h (place m));
      names = λ name. name_blank name p.literals (drop literal_places ls) (drop_blank ls literal_places h);
      counted = count_blank ls h;
    }

module _ {p : Program} {ls : List ℕ} {d : List Marker} {n : List Text} (wide : length ls ≡ level_count) (M : Matches p ls d n) where
  mark_matches : (k : ℕ) → 0 < k → (m : Marker) → MarkerPlaced m → Matches p (join_at ls (place m) k) (with' same_marker m d) n
  mark_matches zero h m i = absurd (not-suc-le-zero h)
  mark_matches (suc k) h m i =
      let b = place_below m i in
      let j : place m < length ls = omega arith in
      record {
        declared = λ m' i'.
            join_declares ls (place m) (place m') k j ∙ rw (← same_place m' m i' i, M.declared m' i') (sym (in_with same_marker marker_eq m' m d));
        names = λ name. rw (drop_join_below literal_places ls (place m) (suc k) b) (M.names name);
        counted = count_join ls (place m) k j ∙ rw (M.declared m i, M.counted, length_with same_marker m d) (at (is_in same_marker m d));
      }
    where
      at : (b : Bool) → (if b then length d + length n else suc (length d + length n)) ≡ (if b then length d else suc (length d)) + length n
      at true = refl
      at false = omega arith

  name_matches : (k : ℕ) → 0 < k → (t : ℕ) (l : Literal) → LiteralPlaced p t l → is_in same (literal_name l) n ≡ false
      → Matches p (join_at ls (literal_place t) k) d (with' same (literal_name l) n)
  unfolding literal_place
  name_matches zero h t l i e = absurd (not-suc-le-zero h)
  name_matches (suc k) h t l i e =
      let own = i.own in
      let j : literal_places + t < length ls = omega arith in
      let j' : t < length (drop literal_places ls) = rw (length-drop literal_places ls) (omega arith) in
      let free : declared_in ls (literal_places + t) ≡ false =
      rw (get_or-drop literal_places ls t 0) at (name_free p.literals (drop literal_places ls) t l i.here (M.names (literal_name l) ∙ e)) in
      record {
        declared = λ m' i'.
            let b = place_below m' i' in
            join_declares ls (literal_places + t) (place m') k j ∙ rw (ne_eqb (place m') (literal_places + t) (λ f. omega arith)) (M.declared m' i');
        names = λ name.
            rw (drop_join literal_places ls t (suc k), name_join name p.literals (drop literal_places ls) t k l j' i.here, M.names name)
            (sym (in_with same same_eq name (literal_name l) n));
        counted = count_join ls (literal_places + t) k j ∙ rw (free, M.counted, length_with same (literal_name l) n, e) (omega arith);
      }

-- ---- down the stack: an item's copies match what is left of the levels on leaving its level
pub data Stacked (p : Program) : List ℕ → List StackItem → Type 0 where
  bottom : {ls : List ℕ} → Stacked p ls []
  above : {ls : List ℕ} {item : StackItem} {items : List StackItem} → Matches p (forget (suc (length items)) ls) item.decls item.names
      → Stacked p (forget (suc (length items)) ls) items → Stacked p ls (item ∷ items)

above_by : {p : Program} {ls r : List ℕ} (item : StackItem) (items : List StackItem) → forget (suc (length items)) ls ≡ r
    → Matches p r item.decls item.names → Stacked p r items → Stacked p ls (item ∷ items)
above_by {p} item items e M S =
    above (subst (λ (l : List ℕ). Matches p l item.decls item.names) (sym e) M) (subst (λ (l : List ℕ). Stacked p l items) (sym e) S)

-- what is joined at the top level stands in no copy
join_stacked : {p : Program} {ls : List ℕ} {items : List StackItem} → Stacked p ls items → (k n : ℕ) → length items ≡ n → Stacked p (join_at ls k n) items
join_stacked bottom k n e = bottom
join_stacked {ls = ls} (above {item = item} {items = items} M S) k n e = above_by item items (rw e (forget_join ls k n)) M S

pub record Agree (p : Program) (s : LevelState) (t : SolverState) : Type 0 where
  pub memos : map (λ item. item.memo) t.stack ≡ s.stack
  pub missing : s.missing ≡ t.missing
  pub sent : s.sent ≡ t.sent
  pub wide : length s.levels ≡ level_count
  pub within : All (λ l. l ≤ length s.stack) s.levels
  pub here : Matches p s.levels t.declarations t.additional_declared_names
  pub below : Stacked p s.levels t.stack

pub agree_sent : {p : Program} {s : LevelState} {t : SolverState} → Agree p s t → s.sent ≡ t.sent
agree_sent a = a.sent

pub agree_missing : {p : Program} {s : LevelState} {t : SolverState} → Agree p s t → s.missing ≡ t.missing
agree_missing a = a.missing

pub agree_stack : {p : Program} {s : LevelState} {t : SolverState} → Agree p s t → map (λ item. item.memo) t.stack ≡ s.stack
agree_stack a = a.memos

pub agree_fresh : (p : Program) → Agree p fresh new_solver
unfolding fresh new_solver no_levels
agree_fresh p =
    record {
      memos = refl;
      missing = refl;
      sent = refl;
      wide = length-replicate {A = ℕ} level_count 0;
      within = within_zeros level_count 0;
      here = blank_matches p _ (zeros_blank level_count);
      below = bottom;
    }

tail_length : (ms : List ℕ) → length ms ≤ suc (length (tail ms))
tail_length [] = omega arith
tail_length (m ∷ ms) = le_refl _

module _ {p : Program} {s : LevelState} {t : SolverState} (a : Agree p s t) where
  -- ---- the tests
  pub agree_length : length s.stack ≡ length t.stack
  agree_length = ap length (sym a.memos) ∙ length-map t.stack (λ item. item.memo)

  pub agree_top : (memo : ℕ) → is_top memo s.stack ≡ SolverState.is_top memo t.stack
  unfolding is_top SolverState.is_top
  agree_top memo = ap (is_top memo) (sym a.memos) ∙ at t.stack
    where
      at : (items : List StackItem) → is_top memo (map (λ item. item.memo) items) ≡ SolverState.is_top memo items
      at [] = refl
      at (item ∷ items) = refl

  pub agree_declared : (m : Marker) → MarkerPlaced m → is_declared_at (place m) s ≡ is_in same_marker m t.declarations
  unfolding is_declared_at
  agree_declared m h = a.here.declared m h

  pub agree_named : (name : Text) → (levelled p).is_named name s ≡ bodies.is_named name t
  agree_named name = a.here.names name

  pub agree_count : (levelled p).declared_count s ≡ bodies.declared_count t
  agree_count = a.here.counted

  -- ---- the methods
  pub agree_push : (memo : ℕ) → Agree p (push memo s) (pushed memo t)
  unfolding push pushed
  agree_push memo =
      record {
        memos = ap {B = List ℕ} (λ ms. memo ∷ ms) a.memos;
        missing = a.missing;
        sent = ap {B = List Command} (λ c. c ++ (Push ∷ [])) a.sent;
        wide = a.wide;
        within = within_more a.within;
        here = a.here;
        below = above_by _ t.stack (rw (← agree_length) (forget_within a.within)) a.here a.below;
      }

  pub agree_pop : Agree p (pop s) (popped t)
  unfolding pop popped pop_to
  agree_pop = at t.stack a.memos a.below
    where
      sent : s.sent ++ (Pop ∷ []) ≡ t.sent ++ (Pop ∷ [])
      sent = ap {B = List Command} (λ c. c ++ (Pop ∷ [])) a.sent

      at : (items : List StackItem) → map (λ item. item.memo) items ≡ s.stack → Stacked p s.levels items → Agree p (pop s) (pop_to items t)
      at [] e bottom =
          record {
            memos = ap tail e;
            missing = a.missing;
            sent = sent;
            wide = length_forget _ s.levels ∙ a.wide;
            within = within_forget _ _ (tail_length s.stack) s.levels;
            here = rw (← e) (blank_matches p _ (forget_blank s.levels));
            below = bottom;
          }
      at (item ∷ items) e (above M S) =
          let f : length s.stack ≡ suc (length items) = ap length (sym e) ∙ ap suc (length-map items (λ item. item.memo)) in
          record {
            memos = ap tail e;
            missing = a.missing;
            sent = sent;
            wide = length_forget _ s.levels ∙ a.wide;
            within = within_forget _ _ (tail_length s.stack) s.levels;
            here = rw f M;
            below = rw f S;
          }

  pub agree_send : (c : Command) → Agree p (send c s) (told c t)
  unfolding send told
  agree_send c =
      record {
        memos = a.memos;
        missing = a.missing;
        sent = ap {B = List Command} (λ cs. cs ++ (c ∷ [])) a.sent;
        wide = a.wide;
        within = a.within;
        here = a.here;
        below = a.below;
      }

  pub agree_miss : Agree p (miss s) (missed t)
  unfolding miss missed
  agree_miss =
      record { memos = a.memos; missing = refl; sent = a.sent; wide = a.wide; within = a.within; here = a.here; below = a.below }

  pub agree_mark : 0 < length s.stack → (m : Marker) → MarkerPlaced m → Agree p (declare_at (place m) s) (marked m t)
  unfolding declare_at marked
  agree_mark h m i =
      record {
        memos = a.memos;
        missing = a.missing;
        sent = a.sent;
        wide = length_join s.levels _ _ ∙ a.wide;
        within = within_join a.within (place m);
        here = mark_matches a.wide a.here (length s.stack) h m i;
        below = join_stacked a.below (place m) (length s.stack) (sym agree_length);
      }

  pub agree_name : 0 < length s.stack → (k : ℕ) (l : Literal) → LiteralPlaced p k l → is_in same (literal_name l) t.additional_declared_names ≡ false
      → Agree p (declare_at (literal_place k) s) (named (literal_name l) t)
  unfolding declare_at named
  agree_name h k l i e =
      record {
        memos = a.memos;
        missing = a.missing;
        sent = a.sent;
        wide = length_join s.levels _ _ ∙ a.wide;
        within = within_join a.within (literal_place k);
        here = name_matches a.wide a.here (length s.stack) h k l i e;
        below = join_stacked a.below (literal_place k) (length s.stack) (sym agree_length);
      }
