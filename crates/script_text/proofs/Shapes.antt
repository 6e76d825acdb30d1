-- The call that stands at a place of the input.
use Prim.Native.Nat.{ℕ, ◌+◌, ◌-◌, ◌<◌, ◌≤◌}
use native.Mathlib.Omega.{arith}
use mathlib.Core.Path.{◌≡◌, refl, ap, sym, ◌∙◌}
use mathlib.Core.List.{List, [], ◌++◌}
use lib.ListN.{length, take, drop, get_or, length-drop}
use lib.Seq.{get_or-drop}
use borrow.Author.Tests.{lt-ltb, le-ltb, ne_eqb}
use Rattle.book.specs.Book.{Book, word}
use Rattle.solvers.specs.declared.Session.{Session}
use Rattle.script_text.specs.declared.answers.Turn.{Turn}
use Rattle.script_text.specs.Script.{call_size, Shape, moving, asking, stopping, shape_of, shape, Printed, turn}
use Rattle.script_text.specs.Turned.{Turned}

byte_at : (calls : List ℕ) (at i n : ℕ) → n ≡ at + i → get_or (drop at calls) i 0 ≡ get_or calls n 0
byte_at calls at i n e = get_or-drop at calls i 0 ∙ ap (λ (k : ℕ). get_or calls k 0) (sym e)

word_at : (calls : List ℕ) (at k n : ℕ) → n ≡ at + k → word (drop at calls) k ≡ word calls n
word_at calls at k n e =
    rw (byte_at calls at k n e, byte_at calls at (k + 1) (n + 1) (omega (arith, e)), byte_at calls at (k + 2) (n + 2) (omega (arith, e)), byte_at calls at (k + 3) (n + 3) (omega (arith, e)))

module _ (calls : List ℕ) (at : ℕ) where
  pub cut_short : length calls - at < call_size → shape (drop at calls) ≡ stopping
  unfolding shape
  cut_short h = rw (lt-ltb (length (drop at calls)) call_size (omega (arith, length-drop at calls)))

  module _ (h : call_size ≤ length calls - at) {kind node term : ℕ} (ek : kind ≡ word calls at) (en : node ≡ word calls (at + 4)) (et : term ≡ word calls (at + 8)) where
    numbers : shape_of (word (drop at calls) 0) (word (drop at calls) 4) (word (drop at calls) 8) ≡ shape_of kind node term
    numbers =
        let k = word_at calls at 0 at (omega arith) ∙ sym ek in
        let n = word_at calls at 4 (at + 4) refl ∙ sym en in
        let t = word_at calls at 8 (at + 8) refl ∙ sym et in
        λ i. shape_of (k i) (n i) (t i)

    whole : shape (drop at calls) ≡ shape_of kind node term
    unfolding shape
    whole = rw (le-ltb (length (drop at calls)) call_size (omega (arith, length-drop at calls))) numbers

    pub is_ask : kind ≡ 2 → shape (drop at calls) ≡ asking node term
    unfolding shape_of
    is_ask e = whole ∙ rw e

    pub no_kind : (kind ≡ 2 → ⊥) → (kind ≡ 1 → ⊥) → shape (drop at calls) ≡ stopping
    unfolding shape_of
    no_kind h2 h1 = whole ∙ rw (ne_eqb kind 1 h1, ne_eqb kind 2 h2)

    pub move_with_term : kind ≡ 1 → (term ≡ 0 → ⊥) → shape (drop at calls) ≡ stopping
    unfolding shape_of
    move_with_term e h0 = whole ∙ rw (e, ne_eqb term 0 h0)

    pub is_move : kind ≡ 1 → term ≡ 0 → shape (drop at calls) ≡ moving node
    unfolding shape_of
    is_move e e0 = whole ∙ rw (e, e0)

-- a turn that leaves the closing buffer alone
pub widened : {p : Printed} {r : Turn} {s : Session} {t : List ℕ} (closing : List ℕ) → Turned p r s t [] → Turned p r s t closing
widened {r = r} {t = t} closing x =
    let none : r.closed ≡ 0 = omega (arith, x.closing_fits) in
    let same : take r.closed closing ≡ take r.closed [] = rw none in
    record {
      printed = ap {B = List ℕ} (λ (c : List ℕ). take r.written t ++ c) same ∙ x.printed;
      text_fits = x.text_fits;
      closing_fits = omega (arith, none);
      session = x.session;
      more = x.more;
    }

pub by_shape : (b : Book) (s : Session) {r : Turn} {s' : Session} {t closing : List ℕ} {f g : Shape} → g ≡ f → Turned (turn b s f) r s' t closing → Turned (turn b s g) r s' t closing
by_shape b s e x = rw e x
