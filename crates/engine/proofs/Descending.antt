-- The nodes of a path are entered one by one, downward.
use Prim.Native.Nat.{ℕ, suc, ◌+◌, ◌-◌, ◌≤◌, ◌<◌}
use native.Mathlib.Omega.{arith}
use mathlib.Core.Path.{◌≡◌, refl, sym, ap, ◌∙◌, subst}
use mathlib.Core.List.{List, [], ◌∷◌, ◌++◌, reverse, reverse-cons, append_assoc, append-nil}
use lib.ListN.{length, get_or, take, drop, length-drop}
use lib.Seq.{drop-cons}
use Rattle.basics.specs.Write.{MOST, WroteAt}
use Rattle.basics.proofs.All.{all-at}
use Rattle.basics.proofs.Places.{at_none, at_as}
use Rattle.book.specs.Book.{Book, contexts, size}
use Rattle.book.specs.Program.{Program, node_at, path, depth}
use Rattle.book.specs.Decode.{program}
use Rattle.book.proofs.Paths.{Chain, chain, chain_drop, path_below}
use Rattle.book_test.specs.Promise.{Promise}
use Rattle.smt_engines.specs.Command.{Command, Push, script}
use Rattle.levels.specs.declared.Progress.{Progress}
use Rattle.solvers.specs.Rule.{standing, node_commands, entering}
use Rattle.solvers.proofs.Good.{good}
use Rattle.engine.specs.Engine.{IsState, Above, Entered, Descended}
use Rattle.engine.proofs.Entering.{said_then}

-- what is written when k of `count` nodes are still to be entered
abbrev pub down_to : Program → (q : List ℕ) → (count k : ℕ) → List Command
down_to p q count k = entering p (reverse (take (count - k) (drop k q)))

pub record Descending (b : Book) (node count k : ℕ) (ls : List ℕ) (so done : Progress) (o o1 : List ℕ) : Type 0 where
  pub few : k ≤ count
  pub state : IsState (standing (program b) (drop k (path (program b) node))) ls done
  pub text : WroteAt (script (down_to (program b) (path (program b) node) count k)) so.at o o1 done.at

pub descending_start : (b : Book) (node count : ℕ) {ls : List ℕ} {so : Progress} (o : List ℕ) → so.at < MOST + 1
    → IsState (standing (program b) (drop count (path (program b) node))) ls so → Descending b node count count ls so so o o
unfolding entering script
descending_start b node count {so = so} o small s =
    let e : count - count ≡ 0 = omega arith in
    record { few = omega arith; state = s; text = rw e (at_none so.at o small) }

entering_append : (p : Program) (x y : List ℕ) → entering p (x ++ y) ≡ entering p x ++ entering p y
unfolding entering
entering_append p [] y = refl
entering_append p (n ∷ x) y =
    ap {B = List Command} (λ (l : List Command). (Push ∷ node_commands p n) ++ l) (entering_append p x y)
    ∙ sym (append_assoc (Push ∷ node_commands p n) (entering p x) (entering p y))

-- one node more
down_more : (p : Program) (q : List ℕ) (count k n : ℕ) → 0 < k → k ≤ count → drop (k - 1) q ≡ n ∷ drop k q
    → down_to p q count (k - 1) ≡ down_to p q count k ++ (Push ∷ node_commands p n)
unfolding entering
down_more p q count k n h l e =
    let c : count - (k - 1) ≡ suc (count - k) = omega arith in
    ap {B = List Command} (λ (x : List ℕ). entering p (reverse (take (count - (k - 1)) x))) e
    ∙ ap {B = List Command} (λ (i : ℕ). entering p (reverse (take i (n ∷ drop k q)))) c
    ∙ ap (entering p) (reverse-cons n (take (count - k) (drop k q)))
    ∙ entering_append p (reverse (take (count - k) (drop k q))) (n ∷ [])
    ∙ ap {B = List Command} (λ (l : List Command). down_to p q count k ++ l) (append-nil (Push ∷ node_commands p n))

module _ (b : Book) (P : Promise b) (node : ℕ) (inside : node ≤ size b contexts) (count : ℕ) (nodes : List ℕ) (is : nodes ≡ path (program b) node)
    (few : count ≤ depth (program b) node) where
  q_length : length (path (program b) node) ≡ depth (program b) node
  unfolding depth
  q_length = refl

  head : (k : ℕ) → get_or (path (program b) node) (k - 1) 0 ≡ get_or nodes (k - 1) 0
  head k = ap (λ (ns : List ℕ). get_or ns (k - 1) 0) (sym is)

  -- the next node stands before what is left of the path
  next_node : (k : ℕ) → 0 < k → k ≤ count → drop (k - 1) (path (program b) node) ≡ get_or nodes (k - 1) 0 ∷ drop k (path (program b) node)
  next_node k h l =
      let q = path (program b) node in
      let e : suc (k - 1) ≡ k = omega arith in
      drop-cons q (k - 1) 0 (omega (arith, q_length, few)) ∙ (λ i. head k i ∷ drop (e i) q)

  chained : (k : ℕ) → 0 < k → k ≤ count → Chain (program b) (get_or nodes (k - 1) 0 ∷ drop k (path (program b) node))
  chained k h l = subst (Chain (program b)) (next_node k h l) (chain_drop (program b) (k - 1) (path (program b) node) (chain (program b) (good b P).parents node))

  module _ {k : ℕ} {ls : List ℕ} {so done : Progress} {o o1 : List ℕ} (h : 0 < k) (d : Descending b node count k ls so done o o1) where
    pub next_above : {level : ℕ} → level ≡ depth (program b) node - (k - 1) → Above b (get_or nodes (k - 1) 0) level ls done
    next_above {level} e =
        let q = path (program b) node in
        let c = chained k h d.few in
        let r = all-at (path_below (program b) (good b P).parents node) (k - 1) 0 (omega (arith, q_length, d.few, few)) in
        let u : length (path (program b) (node_at (program b) (get_or nodes (k - 1) 0)).parent) ≡ length q - k = sym (ap length c.1) ∙ length-drop k q in
        record {
          promise = P;
          inside = omega (arith, r.1, head k, inside);
          below = c.0;
          level = omega (arith, e, u, q_length, d.few, few);
          state = subst (λ (ns : List ℕ). IsState (standing (program b) ns) ls done) c.1 d.state;
        }

    pub descending_more : {ls' : List ℕ} {r : Progress} {o2 : List ℕ} → length o < MOST + 1 → Entered b (get_or nodes (k - 1) 0) ls' done o1 o2 r → Descending b node count (k - 1) ls' so r o o2
    descending_more {ls'} {r} {o2} short f =
        let q = path (program b) node in
        let n = get_or nodes (k - 1) 0 in
        let c = chained k h d.few in
        let there : path (program b) n ≡ drop (k - 1) q = sym c.2 ∙ sym (next_node k h d.few) in
        record {
          few = omega (arith, d.few);
          state = subst (λ (ns : List ℕ). IsState (standing (program b) ns) ls' r) there f.state;
          text = at_as (ap script (sym (down_more (program b) q count k n h d.few (next_node k h d.few)))) (said_then _ _ short d.text f.text);
        }

  pub descending_done : {k : ℕ} {ls : List ℕ} {so done : Progress} {o o1 : List ℕ} → k ≡ 0 → Descending b node count k ls so done o o1 → Descended b node count ls so o o1 done
  descending_done {k} {ls} {so} {done} {o} {o1} e d =
      let q = path (program b) node in
      let z : count - 0 ≡ count = omega arith in
      record {
        state = subst (λ (i : ℕ). IsState (standing (program b) (drop i q)) ls done) e d.state;
        text = at_as (ap {B = List ℕ} (λ (i : ℕ). script (down_to (program b) q count i)) e ∙ ap {B = List ℕ} (λ (i : ℕ). script (entering (program b) (reverse (take i q)))) z) d.text;
      }
