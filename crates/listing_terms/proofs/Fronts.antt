-- Terms up to their last child, and the loop over last children.
use Prim.Native.Nat.{ℕ, zero, suc, ◌+◌, ◌-◌, ◌<◌, ◌≤◌}
use native.Mathlib.Omega.{arith}
use native.Mathlib.Numerals.{add-one}
use mathlib.Core.Path.{◌≡◌, refl, sym, ap, ◌∙◌, subst}
use mathlib.Core.List.{List, [], ◌++◌, append_assoc, append-nil}
use lib.ListN.{length}
use Rattle.basics.specs.Text.{Text, ascii}
use Rattle.basics.specs.Basics.{comma}
use Rattle.basics.specs.Write.{MOST, WroteAt}
use Rattle.basics.proofs.Places.{at_then, at_none, at_as}
use Rattle.book.specs.Book.{Book, terms, lists, field, entries}
use Rattle.book.specs.Decode.{constant_of, to_rexprs, args_of, term}
use Rattle.rsolver.specs.Listing.{bound_var_to_string, quantifier_opening, rexpr_to_string, rexpr_strings, rexpr_list_to_string}
use Rattle.listing_terms.specs.declared.Front.{Front}
use Rattle.listing_terms.specs.declared.Front.TheVariants as front
use Rattle.listing_terms.specs.Texts.{lead, closing, universal, variables_text, terms_text, patterns_text, arguments_text, if_text, let_text, quantifier_text}
use Rattle.listing_terms.specs.Fronted.{Fore, Fronted}
use Rattle.listing_terms.proofs.Lists.{terms_next}

between : (u v w : Text) {x y : Text} → x ≡ y → (u ++ (v ++ x)) ++ w ≡ (u ++ v) ++ (y ++ w)
between u v w e = rw e (simp append_assoc)

module _ (b : Book) (t : ℕ) where
  pub whole : {x : Text} {at n : ℕ} {o o1 : List ℕ} → WroteAt x at o o1 n → Fronted b x t at o o1 (front.Whole n)
  unfolding Fronted
  whole w = w

  pub before : {x text : Text} {at n last : ℕ} {o o1 : List ℕ} → x ≡ text ++ (rexpr_to_string (term b last) ++ ascii ")") → WroteAt text at o o1 n → last < t
      → Fronted b x t at o o1 (front.Before n last)
  unfolding Fronted
  before {text = text} e w l = record { text = text; is = e; wrote = w; smaller = l }

  -- told otherwise, and behind another text
  pub fronted_as : {x y : Text} (at : ℕ) (o o1 : List ℕ) (r : Front) → x ≡ y → Fronted b x t at o o1 r → Fronted b y t at o o1 r
  fronted_as at o o1 r e f = rw e at f

  pub fronted_then : {u : Text} (x : Text) {at n : ℕ} {o o1 : List ℕ} (o2 : List ℕ) (r : Front) → length o < MOST + 1 → WroteAt u at o o1 n → Fronted b x t n o1 o2 r
      → Fronted b (u ++ x) t at o o2 r
  unfolding Fronted
  fronted_then x o2 (front.Whole m) short w f = at_then short w f
  fronted_then {u} x o2 (front.Before m last) short w f =
      record {
        text = u ++ f.text;
        is = ap (λ (z : Text). u ++ z) f.is ∙ sym (append_assoc u f.text (rexpr_to_string (term b last) ++ ascii ")"));
        wrote = at_then short w f.wrote;
        smaller = f.smaller;
      }

  -- ---- the texts, by what the code read
  pub no_arguments : {count : ℕ} → count ≡ field b terms t 3 → count ≡ 0 → ascii "()" ≡ arguments_text b t
  unfolding arguments_text terms_text rexpr_list_to_string rexpr_strings args_of to_rexprs entries comma
  no_arguments e z = rw (← e, z)

  pub some_arguments : {start count q : ℕ} → start ≡ field b terms t 2 → count ≡ field b terms t 3 → (count ≡ 0 → ⊥) → q ≡ field b lists (start + (count - 1)) 0
      → arguments_text b t ≡ (ascii "(" ++ terms_text b start (count - 1) ++ lead (count - 1)) ++ (rexpr_to_string (term b q) ++ ascii ")")
  unfolding arguments_text
  some_arguments {count = zero} es ec z eq = absurd (z refl)
  some_arguments {start} {count = suc n} {q} es ec z eq =
      let j : suc n - 1 ≡ n = omega arith in
      rw (← es, ← ec, j, terms_next b start n)
      (ap (λ (x : Text). ascii "(" ++ x) (between (terms_text b start n) (lead n) (ascii ")") (ap (λ (c : ℕ). rexpr_to_string (term b c)) (sym (rw j at eq)))))

  pub if_is : {g h e : ℕ} → g ≡ field b terms t 1 → h ≡ field b terms t 2 → e ≡ field b terms t 3
      → if_text b t ≡ (ascii "(if " ++ rexpr_to_string (term b g) ++ ascii " " ++ rexpr_to_string (term b h) ++ ascii " else ") ++ (rexpr_to_string (term b e) ++ ascii ")")
  unfolding if_text
  if_is eg eh ee = rw (eg, eh, ee)

  pub let_is : {v h e : ℕ} → v ≡ field b terms t 1 → h ≡ field b terms t 2 → e ≡ field b terms t 3
      → let_text b t ≡ (ascii "(val " ++ bound_var_to_string (constant_of b v) ++ ascii " := " ++ rexpr_to_string (term b h) ++ ascii " ") ++ (rexpr_to_string (term b e) ++ ascii ")")
  unfolding let_text
  let_is ev eh ee = rw (ev, eh, ee)

  pub quantifier_is : {first many start count e : ℕ} → first ≡ field b terms t 2 → many ≡ field b terms t 3 → start ≡ field b terms t 4 → count ≡ field b terms t 5 → e ≡ field b terms t 6
      → quantifier_text b t ≡ (quantifier_opening (universal b t) ++ variables_text b first many ++ patterns_text b start count ++ ascii " ") ++ (rexpr_to_string (term b e) ++ ascii ")")
  unfolding quantifier_text
  quantifier_is ef em es ec ee = rw (ef, em, es, ec, ee)

-- ---- the loop: o1 has the text of term t up to the term p, behind which the parentheses stand
pub record Turning (b : Book) (t at : ℕ) (o o1 : List ℕ) (p pending done : ℕ) : Type 0 where
  pub text : Text
  pub is : text ++ (rexpr_to_string (term b p) ++ closing pending) ≡ rexpr_to_string (term b t)
  pub wrote : WroteAt text at o o1 done
  pub smaller : pending + p ≤ t

pub turning_start : {b : Book} {t at : ℕ} {o : List ℕ} → at < MOST + 1 → Turning b t at o o t 0 at
turning_start {b} {t} {at} {o} h = record { text = []; is = append-nil (rexpr_to_string (term b t)); wrote = at_none at o h; smaller = omega arith }

module _ {b : Book} {t at : ℕ} {o o1 : List ℕ} (o2 : List ℕ) {p pending done : ℕ} (r : Front) (short : length o < MOST + 1) (h : Turning b t at o o1 p pending done)
    (f : Fronted b (rexpr_to_string (term b p)) p done o1 o2 r) where
  fore : {n q : ℕ} → r ≡ front.Before n q → Fore b (rexpr_to_string (term b p)) p done o1 o2 n q
  unfolding Fronted
  fore e = subst (Fronted b (rexpr_to_string (term b p)) p done o1 o2) e f

  pub turning_falls : {n q : ℕ} → r ≡ front.Before n q → q < p
  turning_falls e = (fore e).smaller

  pub turning_more : {n q : ℕ} → r ≡ front.Before n q → Turning b t at o o2 q (pending + 1) n
  turning_more {n} {q} e =
      let g = fore e in
      record {
        text = h.text ++ g.text;
        is = rw (add-one pending) (past h.text g.text (rexpr_to_string (term b q)) (closing pending) (ap (λ (z : Text). h.text ++ (z ++ closing pending)) (sym g.is) ∙ h.is));
        wrote = at_then short h.wrote g.wrote;
        smaller = omega (arith, h.smaller, g.smaller);
      }
    where
      past : (u v w c : Text) → u ++ ((v ++ (w ++ ascii ")")) ++ c) ≡ rexpr_to_string (term b t) → (u ++ v) ++ (w ++ (ascii ")" ++ c)) ≡ rexpr_to_string (term b t)
      past u v w c e = simp append_assoc (simp append_assoc at e)

  pub turning_done : {n m : ℕ} {o3 : List ℕ} → r ≡ front.Whole n → WroteAt (closing pending) n o2 o3 m → WroteAt (rexpr_to_string (term b t)) at o o3 m
  unfolding Fronted
  turning_done {n} e w =
      let v : WroteAt (rexpr_to_string (term b p)) done o1 o2 n = subst (Fronted b (rexpr_to_string (term b p)) p done o1 o2) e f in
      at_as (append_assoc h.text (rexpr_to_string (term b p)) (closing pending) ∙ h.is) (at_then short (at_then short h.wrote v) w)
