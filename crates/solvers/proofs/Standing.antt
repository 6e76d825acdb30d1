-- States that stand at a path: entering a node and leaving it, any legal list of pops and pushes, and what the reader has then.
use Prim.Native.Nat.{ℕ, zero, suc, ◌+◌, ◌-◌, ◌≤◌, ◌<◌}
use native.Mathlib.Omega.{arith}
use mathlib.Core.Path.{◌≡◌, refl, sym, ap, ◌∙◌, subst}
use mathlib.Core.List.{List, [], ◌∷◌, ◌++◌, map, tail, reverse, append_assoc, append-nil}
use mathlib.Core.Bool.{Bool, true, false}
use lib.ListN.{length, replicate, take, drop}
use Rattle.basics.proofs.All.{All, end, more, all_append}
use Rattle.book.specs.Program.{Program, node_at, path, depth, shared}
use Rattle.book.proofs.Paths.{chain, shared_most}
use Rattle.smt_engines.specs.Command.{Command, Push, Pop}
use Rattle.smt_engines.specs.Reader.{live, hear_all, lines}
use Rattle.smt_engines.proofs.Commands.{Plain}
use Rattle.smt_engines.proofs.Hearing.{Whole, hears, hears_append, hears_push, hears_pop, all_whole, whole_push, whole_pop}
use Rattle.rsolver.specs.Step.{Step, ◌⨟◌}
use Rattle.rsolver.specs.LevelState.{LevelState, level_count, no_levels, levelled, fresh, push, pop, forget, sent_by}
use Rattle.rsolver.specs.REngine.{assume, declare_new_symbols, enter}
use Rattle.rsolver.proofs.Levels.{Grown, Within, within_zeros, grown_within, forget_grown}
use Rattle.rsolver.proofs.Declares.{put, Declares, sent-by, missing_is, missing_down, then_d, assume_d, symbols_d}
use Rattle.solvers.specs.Rule.{standing, settle, node_commands, levels_of, entering, move_commands}
use Rattle.solvers.proofs.Good.{Good}
use Rattle.solvers.proofs.Paths.{Op, up, down, ops, applied, applied_append, Legal, Leads, leads_set}
use Rattle.solvers.proofs.Route.{route, ops_route}

-- the state, with other commands sent
abbrev pub sending : List Command → LevelState → LevelState
sending l s = put l s.missing s

-- a declaring step, whatever was sent before
pub blind_sending : {f : Step LevelState} (F : Declares f) (l : List Command) (s : LevelState) → f (sending l s) ≡ sending (l ++ F.more s) (f s)
blind_sending {f} F l s = F.blind s l s.missing ∙ (λ i. put (l ++ F.more s) (sym (missing_is F s) i) (f s))

unfoldable pub exec : Program → List Op → Step LevelState
exec p [] s = s
exec p (up ∷ os) s = exec p os (pop s)
exec p (down n ∷ os) s = exec p os (enter (levelled p) p n s)

pub exec_append : (p : Program) (a b : List Op) (s : LevelState) → exec p (a ++ b) s ≡ exec p b (exec p a s)
unfolding exec
exec_append p [] b s = refl
exec_append p (up ∷ a) b s = exec_append p a b (pop s)
exec_append p (down n ∷ a) b s = exec_append p a b (enter (levelled p) p n s)

module _ (p : Program) (G : Good p) where
  -- what entering a node does after the push
  pub settled : (n : ℕ) → Declares (settle p n)
  unfolding settle
  settled n = then_d (symbols_d p G.axioms (node_at p n).expr (G.nodes n)) (assume_d p (node_at p n).expr (G.nodes n))

  pub standing_stack : (ns : List ℕ) → (standing p ns).stack ≡ ns
  unfolding standing fresh enter push ◌⨟◌ settle
  standing_stack [] = refl
  standing_stack (n ∷ ns) = (settled n).stack (push n (standing p ns)) ∙ ap (λ (l : List ℕ). n ∷ l) (standing_stack ns)

  pub grown_at : (n : ℕ) (ns : List ℕ) → Grown (suc (length ns)) (standing p ns).levels (standing p (n ∷ ns)).levels
  unfolding standing enter push ◌⨟◌ settle
  grown_at n ns =
      subst (λ (l : List ℕ). Grown (suc (length l)) (standing p ns).levels (standing p (n ∷ ns)).levels) (standing_stack ns)
      ((settled n).grows (push n (standing p ns)))

  pub standing_within : (ns : List ℕ) → Within (length ns) (standing p ns).levels
  unfolding standing fresh no_levels
  standing_within [] = within_zeros level_count 0
  standing_within (n ∷ ns) = grown_within (grown_at n ns) (standing_within ns)

  pub missing_above : (n : ℕ) (ns : List ℕ) → (standing p (n ∷ ns)).missing ≡ false → (standing p ns).missing ≡ false
  unfolding standing enter push ◌⨟◌ settle
  missing_above n ns e = missing_down (settled n) (push n (standing p ns)) e

  -- where no axiom was missed, none was missed further up
  pub clear_above : (k : ℕ) (ns : List ℕ) → (standing p ns).missing ≡ false → (standing p (drop k ns)).missing ≡ false
  clear_above zero ns e = e
  clear_above (suc k) [] e = e
  clear_above (suc k) (n ∷ ns) e = clear_above k ns (missing_above n ns e)

  -- a node's own commands, where the path is the node's
  own : (n : ℕ) (ns : List ℕ) → List Command
  own n ns = (settled n).more (push n (standing p ns))

  own_is : (n : ℕ) (ns : List ℕ) → ns ≡ path p (node_at p n).parent → own n ns ≡ node_commands p n
  unfolding own node_commands
  own_is n ns e = sym (sent-by (settled n) (push n (standing p ns))) ∙ ap (λ (l : List ℕ). sent_by (settle p n) (push n (standing p l))) e

  plain_own : (n : ℕ) (ns : List ℕ) → ns ≡ path p (node_at p n).parent → All Plain (node_commands p n)
  unfolding own
  plain_own n ns e = subst (All Plain) (own_is n ns e) ((settled n).plains (push n (standing p ns)))

  enter_at : (n : ℕ) (ns : List ℕ) → ns ≡ path p (node_at p n).parent → (l : List Command)
      → enter (levelled p) p n (sending l (standing p ns)) ≡ sending (l ++ (Push ∷ node_commands p n)) (standing p (n ∷ ns))
  unfolding standing enter push ◌⨟◌ settle own
  enter_at n ns e l =
      blind_sending (settled n) (l ++ (Push ∷ [])) (push n (standing p ns))
      ∙ ap {B = LevelState} (λ c. sending c (standing p (n ∷ ns))) (append_assoc l (Push ∷ []) (own n ns) ∙ ap {B = List Command} (λ c. l ++ (Push ∷ c)) (own_is n ns e))

  pop_at : (n : ℕ) (ns : List ℕ) → (standing p (n ∷ ns)).missing ≡ false → (l : List Command)
      → pop (sending l (standing p (n ∷ ns))) ≡ sending (l ++ (Pop ∷ [])) (standing p ns)
  unfolding pop
  pop_at n ns e l =
      let stack : tail (standing p (n ∷ ns)).stack ≡ (standing p ns).stack = ap tail (standing_stack (n ∷ ns)) ∙ sym (standing_stack ns) in
      let levels : forget (length (standing p (n ∷ ns)).stack) (standing p (n ∷ ns)).levels ≡ (standing p ns).levels =
      ap (λ (st : List ℕ). forget (length st) (standing p (n ∷ ns)).levels) (standing_stack (n ∷ ns)) ∙ forget_grown (grown_at n ns) (standing_within ns) in
      let missing : (standing p (n ∷ ns)).missing ≡ (standing p ns).missing = e ∙ sym (missing_above n ns e) in
      λ i. record { stack = stack i; levels = levels i; missing = missing i; sent = l ++ (Pop ∷ []) }

  -- operations that lead from one path to another, and what they send
  pub record Led (os : List Op) (a b : List ℕ) (said : List Command) : Type 0 where
    pub runs : (l : List Command) → exec p os (sending l (standing p a)) ≡ sending (l ++ said) (standing p b)
    pub heard : hears (live (levels_of p a)) said ≡ live (levels_of p b)
    pub wholes : All Whole said

  led_nil : (a : List ℕ) → Led [] a a []
  unfolding exec hears hear_all lines
  led_nil a = record { runs = λ l. ap {B = LevelState} (λ c. sending c (standing p a)) (sym (append-nil l)); heard = refl; wholes = end }

  led_then : {os os' : List Op} {a b c : List ℕ} {x y : List Command} → Led os a b x → Led os' b c y → Led (os ++ os') a c (x ++ y)
  led_then {os} {os'} {a} {b} {c} {x} {y} F G =
      record {
        runs = λ l.
            exec_append p os os' (sending l (standing p a)) ∙ ap (exec p os') (F.runs l) ∙ G.runs (l ++ x)
            ∙ ap {B = LevelState} (λ z. sending z (standing p c)) (append_assoc l x y);
        heard = hears_append (live (levels_of p a)) x y ∙ ap (λ r. hears r y) F.heard ∙ G.heard;
        wholes = all_append F.wholes G.wholes;
      }

  led_up : (n : ℕ) (ns : List ℕ) → (standing p (n ∷ ns)).missing ≡ false → Led (up ∷ []) (n ∷ ns) ns (Pop ∷ [])
  unfolding exec levels_of
  led_up n ns e = record { runs = λ l. pop_at n ns e l; heard = hears_pop (lines (node_commands p n)) (levels_of p ns); wholes = more whole_pop end }

  led_down : (n : ℕ) (ns : List ℕ) → ns ≡ path p (node_at p n).parent → Led (down n ∷ []) ns (n ∷ ns) (Push ∷ node_commands p n)
  unfolding exec levels_of
  led_down n ns e =
      record {
        runs = λ l. enter_at n ns e l;
        heard = hears_push (levels_of p ns) (plain_own n ns e);
        wholes = more whole_push (all_whole (plain_own n ns e));
      }

  led_ups : (k : ℕ) (ns : List ℕ) → k ≤ length ns → (standing p ns).missing ≡ false → Led (replicate k up) ns (drop k ns) (replicate k Pop)
  led_ups zero ns h e = led_nil ns
  led_ups (suc k) [] h e = absurd (omega arith)
  led_ups (suc k) (n ∷ ns) h e = led_then (led_up n ns e) (led_ups k ns (omega arith) (missing_above n ns e))

  led_downs : (ns a : List ℕ) → Legal p (map down ns) a → Led (map down ns) a (applied (map down ns) a) (entering p ns)
  unfolding applied entering
  led_downs [] a g = led_nil a
  led_downs (n ∷ ns) a g = led_then (led_down n a g.0.1) (led_downs ns (n ∷ a) g.1)

  legal_split : (a b : List Op) (ns : List ℕ) → Legal p (a ++ b) ns → Legal p b (applied a ns)
  unfolding applied
  legal_split [] b ns g = g
  legal_split (up ∷ a) b [] g = absurd g
  legal_split (up ∷ a) b (m ∷ ns) g = legal_split a b ns g
  legal_split (down n ∷ a) b ns g = legal_split a b (n ∷ ns) g.1

  ups_drop : (k : ℕ) (ns : List ℕ) → applied (replicate k up) ns ≡ drop k ns
  unfolding applied
  ups_drop zero ns = refl
  ups_drop (suc k) [] = ups_drop k [] ∙ drop-nil k
    where
      drop-nil : (k : ℕ) → drop {A = ℕ} k [] ≡ []
      drop-nil zero = refl
      drop-nil (suc k) = refl
  ups_drop (suc k) (n ∷ ns) = ups_drop k ns

  -- from one node's path to another's
  pub travel : (a n : ℕ) → (standing p (path p a)).missing ≡ false → Led (ops (path p n) (path p a)) (path p a) (path p n) (move_commands p a n)
  unfolding move_commands depth route
  travel a n e =
      let x = path p a in
      let y = path p n in
      let k = length x - shared x y in
      let ns = reverse (take (length y - shared x y) y) in
      let d = leads_set p y x (chain p G.parents n) (chain p G.parents a) in
      let t : ops y x ≡ replicate k up ++ map down ns = ops_route p y x (chain p G.parents n) (chain p G.parents a) in
      let g : Legal p (map down ns) (drop k x) =
      subst (Legal p (map down ns)) (ups_drop k x) (legal_split (replicate k up) (map down ns) x (subst (λ (o : List Op). Legal p o x) t d.legal)) in
      let f : applied (map down ns) (drop k x) ≡ y =
      ap (applied (map down ns)) (sym (ups_drop k x)) ∙ sym (applied_append (replicate k up) (map down ns) x) ∙ ap (λ (o : List Op). applied o x) (sym t) ∙ d.ends in
      rw t (led_then (led_ups k x (omega arith) e) (subst (λ (z : List ℕ). Led (map down ns) (drop k x) z (entering p ns)) f (led_downs ns (drop k x) g)))
