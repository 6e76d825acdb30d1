-- From the log to the live levels: what holds of the sets and the log holds at the end of every path and of every question.
use Rattle.std.specs.Prelude.{if◌then◌else◌}
use Prim.Native.Nat.{ℕ, ◌+◌, ◌≤◌}
use native.Mathlib.Omega.{arith}
use mathlib.Core.Path.{◌≡◌, refl, sym, ap, ◌∙◌, subst}
use mathlib.Core.Option.{Option, none, some}
use mathlib.Core.Bool.{Bool, true, false, false≢true}
use mathlib.Core.List.{List, [], ◌∷◌, ◌++◌, append_assoc, append-nil}
use Rattle.basics.specs.Text.{Text}
use Rattle.basics.proofs.All.{All}
use Rattle.book.specs.RExpr.{RExpr}
use Rattle.book.specs.Book.{Book}
use Rattle.book.specs.Program.{Program, path}
use Rattle.book.specs.Decode.{term, program}
use Rattle.book.proofs.Every.{EveryR}
use Rattle.book_test.specs.Promise.{Promise}
use Rattle.smt_engines.specs.Command.{Command}
use Rattle.smt_engines.specs.Reader.{Stack, first, over, lines}
use Rattle.rsolver.specs.Methods.{Marker}
use Rattle.solvers.specs.declared.Owed.{Owed}
use Rattle.solvers.specs.declared.Owed.TheVariants.{Nothing, Reply, Model}
use Rattle.solvers.specs.Rule.{node_commands, levels_of, goal_commands, denial_commands, goal_levels, levels_for, Present, must_live}
use Rattle.declared_once.specs.Symbols.{Symbol, symbols_of, declared_by, declaration_of, asserted, same_name, named_by, declares_name, named_as, named_type, built_in_types, declares_type, declares_operator, times, Among, here}
use Rattle.declared_once.specs.ToldApart.{prints_apart}
use Rattle.declared_once.specs.DeclaredOnce.{path_commands, goals_commands, commands_for, live_commands, stack_on, stacked, together, Place, DeclaredOnce}
use Rattle.declared_once.proofs.Lists.{among_right, all_among, times-append}
use Rattle.declared_once.proofs.Unique.{Of, OfOperator, unique, no_operator, no_type}
use Rattle.declared_once.proofs.OfBook.{asked, symbols-of, operators-of}
use Rattle.declared_once.proofs.Log.{has, Fine, SoundAfter, sound_at, Known, Inv}

-- ---- levels in a row
together_append : (a c : List (List Command)) → together (a ++ c) ≡ together a ++ together c
unfolding together
together_append [] c = refl
together_append (l ∷ a) c = ap (λ r. l ++ r) (together_append a c) ∙ sym (append_assoc l (together a) (together c))

pub together_snoc : (a : List (List Command)) (l : List Command) → together (a ++ (l ∷ [])) ≡ together a ++ l
unfolding together
together_snoc a l = together_append a (l ∷ []) ∙ ap (λ r. together a ++ r) (append-nil l)

pub placed_at : (lower : List (List Command)) (before : List Command) (c : Command) (behind : List Command) (higher : List (List Command))
    → together (lower ++ ((before ++ (c ∷ behind)) ∷ higher)) ≡ (together lower ++ before) ++ (c ∷ (behind ++ together higher))
unfolding together
placed_at lower before c behind higher =
    together_append lower ((before ++ (c ∷ behind)) ∷ higher) ∙ ap (λ r. together lower ++ r) (append_assoc before (c ∷ behind) (together higher))
    ∙ sym (append_assoc (together lower) before (c ∷ (behind ++ together higher)))

-- ---- the stack that the stack rule has
rest : Program → List ℕ → List (List Command)
rest p [] = []
rest p (n ∷ ns) = rest p ns ++ (node_commands p n ∷ [])

path_first : (p : Program) (ns : List ℕ) → path_commands p ns ≡ [] ∷ rest p ns
unfolding path_commands rest
path_first p [] = refl
path_first p (n ∷ ns) = ap (λ (r : List (List Command)). r ++ (node_commands p n ∷ [])) (path_first p ns)

on_snoc : (st : Stack) (ls : List (List Command)) (l : List Command) → stack_on st (ls ++ (l ∷ [])) ≡ over (lines l) (stack_on st ls)
unfolding stack_on
on_snoc st [] l = refl
on_snoc st (k ∷ ls) l = on_snoc (over (lines k) st) ls l

stack_snoc : (k : List Command) (ls : List (List Command)) (l : List Command) → stacked ((k ∷ ls) ++ (l ∷ [])) ≡ over (lines l) (stacked (k ∷ ls))
unfolding stacked
stack_snoc k ls l = on_snoc (first (lines k)) ls l

levels_stacked : (p : Program) (ns : List ℕ) → levels_of p ns ≡ stacked (path_commands p ns)
unfolding levels_of path_commands
levels_stacked p [] = unfold stacked stack_on lines in refl
levels_stacked p (n ∷ ns) =
    ap (over (lines (node_commands p n))) (levels_stacked p ns)
    ∙ rw (path_first p ns) (sym (stack_snoc [] (rest p ns) (node_commands p n)))

goal_stacked : (p : Program) (n : ℕ) (e : RExpr) → goal_levels p n e ≡ stacked (goals_commands p n e)
unfolding goal_levels goals_commands
goal_stacked p n e =
    ap (λ st. over (lines (denial_commands p n e)) (over (lines (goal_commands p n e)) st)) (levels_stacked p (path p n))
    ∙ rw (path_first p (path p n))
    (ap (over (lines (denial_commands p n e))) (sym (stack_snoc [] (rest p (path p n)) (goal_commands p n e)))
    ∙ sym (stack_snoc [] (rest p (path p n) ++ (goal_commands p n e ∷ [])) (denial_commands p n e)))

-- what the stack rule says is live are these commands
pub must_stacked : (b : Book) (w : Present) → must_live b w ≡ stacked (live_commands b w)
unfolding must_live live_commands levels_for commands_for
must_stacked b w = at w.owed
  where
    at : (o : Owed) → levels_for (program b) o w.node (term b w.goal) ≡ stacked (commands_for (program b) o w.node (term b w.goal))
    at Nothing = levels_stacked (program b) (path (program b) w.node)
    at Reply = goal_stacked (program b) w.node (term b w.goal)
    at Model = goal_stacked (program b) w.node (term b w.goal)

-- ---- from a log to its levels
module _ (b : Book) (P : Promise b) (T : prints_apart b ≡ true) where
  -- a symbol that a known command declares
  record Declares (test : Symbol → Bool) (d : Command) : Type 0 where
    symbol : Symbol
    own : Of b symbol
    tested : test symbol ≡ true
    declaration : d ≡ declaration_of symbol

  declares : (test : Symbol → Bool) (d : Command) → Known b d → named_by test (declared_by d) ≡ true → Declares test d
  unfolding named_by
  declares test d k = at (declared_by d) refl
    where
      at : (o : Option Symbol) → declared_by d ≡ o → named_by test o ≡ true → Declares test d
      at none e h = absurd (false≢true h)
      at (some y) e h = record { symbol = y; own = (k.declared y e).0; tested = h; declaration = (k.declared y e).1 }

  declares_none : (test : Symbol → Bool) (d : Command) → Known b d → ((y : Symbol) → Of b y → test y ≡ false) → named_by test (declared_by d) ≡ false
  declares_none test d k f = at (named_by test (declared_by d)) refl
    where
      at : (c : Bool) → named_by test (declared_by d) ≡ c → c ≡ false
      at true e = let D = declares test d k e in sym D.tested ∙ f D.symbol D.own
      at false e = refl

  known_own : (x : Symbol) → Of b x → (d : Command) → Known b d → declares_name x d ≡ true → d ≡ declaration_of x
  unfolding declares_name
  known_own x o d k h = let D = declares (same_name x) d k h in D.declaration ∙ sym (ap declaration_of (unique b T x D.symbol o D.own D.tested))

  known_operator : (n : Text) → OfOperator b n → (d : Command) → Known b d → declares_operator n d ≡ false
  unfolding declares_operator
  known_operator n o d k = declares_none (named_as n) d k (λ y q. no_operator b T n y o q)

  known_type : (n : Text) → Among n built_in_types → (d : Command) → Known b d → declares_type n d ≡ false
  unfolding declares_type
  known_type n i d k = declares_none (named_type n) d k (λ y q. no_type b T n y i q)

  module _ {ds : List Marker} {ns : List Text} (levels : List (List Command)) (I : Inv b ds ns (together levels)) where
    at_place : (q : Place levels) → together levels ≡ (together q.lower ++ q.before) ++ (q.command ∷ (q.behind ++ together q.higher))
    at_place q = ap together q.here ∙ placed_at q.lower q.before q.command q.behind q.higher

    every_place : (q : Place levels) (e : RExpr) → asserted q.command ≡ some e → EveryR (asked b) e
    every_place q e h =
        (all_among (subst (All (Known b)) (at_place q) I.known) (among_right (together q.lower ++ q.before) here)).asserts e h

    symbol_of : (q : Place levels) (e : RExpr) → asserted q.command ≡ some e → (x : Symbol) → Among x (symbols_of e []) → Of b x
    symbol_of q e h x i = all_among (symbols-of b P e [] (every_place q e h)) i

    before_once : (q : Place levels) (e : RExpr) → asserted q.command ≡ some e → (x : Symbol) → Among x (symbols_of e [])
        → times (declares_name x) (together q.lower ++ q.before) ≡ 1
    before_once q e h x i =
        all_among (subst (Fine (together q.lower ++ q.before)) h (sound_at [] (together q.lower ++ q.before) q.command _ (subst (SoundAfter []) (at_place q) I.sound))) i

    all_once : (q : Place levels) (e : RExpr) → asserted q.command ≡ some e → (x : Symbol) → Among x (symbols_of e []) → times (declares_name x) (together levels) ≡ 1
    all_once q e h x i =
        let c = I.counted x (symbol_of q e h x i) in
        let s : times (declares_name x) (together levels) ≡ times (declares_name x) (together q.lower ++ q.before) + times (declares_name x) (q.command ∷ (q.behind ++ together q.higher)) =
        ap (times (declares_name x)) (at_place q) ∙ times-append (declares_name x) (together q.lower ++ q.before) (q.command ∷ (q.behind ++ together q.higher)) in
        let f = before_once q e h x i in
        omega (arith, small (has x ds ns))
      where
        small : (a : Bool) → (if a then 1 else 0) ≤ 1
        small true = omega arith
        small false = omega arith

    pub declared-once : DeclaredOnce levels
    declared-once =
        record {
          one = all_once;
          earlier = before_once;
          own = λ q e h x i d j. known_own x (symbol_of q e h x i) d (all_among I.known j);
          operator = λ q e h n i d j. known_operator n (all_among (operators-of b P e (every_place q e h)) i) d (all_among I.known j);
          types = λ n i d j. known_type n i d (all_among I.known j);
        }
