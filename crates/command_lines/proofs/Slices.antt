-- Lines as slices: the library's words on lists, and ours.
use Rattle.std.proofs.Common.{◌≡◌, ℕ, suc, ◌+◌, ◌<◌, Bool, true, false, not, cond, List, [], ◌∷◌, ◌++◌, Option, Some, None, nat_eq, nat_lt, length, take, drop, get_or, take-append-drop, append-nil, length-append, refl, sym, ap, ◌∙◌, arith}
use Rattle.std.specs.List.{list_all, position, position_or_len}
use Rattle.std.specs.Cmp.Lexicographic.{pointwise, same_text, other_text}
use Rattle.std.proofs.lemmas.Option.{cond_some}
use borrow.Author.Tests.{ltb-false}
use Rattle.std.proofs.lemmas.List.{take_all}
use Rattle.basics.specs.Text.{Text, newline, same}
use Rattle.basics.specs.Lists.{all}
use Rattle.basics.proofs.Texts.{same_yes, same_no}
use Rattle.smt_engines.specs.SmtEngines.{CMD_PUSH, CMD_CHECK_SAT}
use Rattle.command_lines.specs.Lines.{line_by, line_of, line_at}

-- ---- the library's tests
pub all_list : (t : ℕ → Bool) (l : List ℕ) → list_all t l ≡ all l t
unfolding all
all_list t [] = refl
all_list t (x ∷ l) = rw (all_list t l)

pub pointwise_same : (a b : Text) → pointwise nat_eq a b ≡ same a b
pointwise_same a b = at (pointwise nat_eq a b) refl
  where
    at : (x : Bool) → pointwise nat_eq a b ≡ x → x ≡ same a b
    at true e = same_yes (same_text a b (sym e))
    at false e = same_no a b (other_text a b (sym e))

-- ---- the line that stands first
abbrev pub is_end : ℕ → Bool
is_end c = nat_eq c 10

pub front : (s : Text) → take (position_or_len is_end s) s ≡ line_of s
unfolding line_of line_by
front [] = refl
front (c ∷ s) = at (is_end c) (front s)
  where
    at : (x : Bool) → take (position_or_len is_end s) s ≡ line_of s → take (cond (not x) (1 + position_or_len is_end s) 0) (c ∷ s) ≡ line_by x c (line_of s)
    at true e = refl
    at false e =
        let q : 1 + position_or_len is_end s ≡ suc (position_or_len is_end s) = omega arith in
        ap (λ (i : ℕ). take i (c ∷ s)) q ∙ ap (λ (l : Text). c ∷ l) e

pub front_found : (s : Text) {r : Option ℕ} (n : ℕ) → r ≡ position is_end s → r ≡ Some n → take n s ≡ line_of s
front_found s n e q = ap (λ (i : ℕ). take i s) (sym (cond_some _ _ _ (sym e ∙ q)).1) ∙ front s

pub front_whole : (s : Text) {r : Option ℕ} → r ≡ position is_end s → r ≡ None → s ≡ line_of s
front_whole s e q = at (nat_lt (position_or_len is_end s) (length s)) refl (sym e ∙ q)
  where
    at : (x : Bool) → nat_lt (position_or_len is_end s) (length s) ≡ x → cond x (Some (position_or_len is_end s)) None ≡ None → s ≡ line_of s
    at true t z = cc
    at false t z = sym (take_all (position_or_len is_end s) s (ltb-false _ _ t)) ∙ front s

pub line_front : (s : Text) → take (length (line_of s)) s ≡ line_of s
unfolding line_of line_by
line_front [] = refl
line_front (c ∷ s) = at (nat_eq c newline) (line_front s)
  where
    at : (x : Bool) → take (length (line_of s)) s ≡ line_of s → take (length (line_by x c (line_of s))) (c ∷ s) ≡ line_by x c (line_of s)
    at true e = refl
    at false e = ap (λ (l : Text). c ∷ l) e

-- no line end stands in a line
pub line_line : (s : Text) → line_of (line_of s) ≡ line_of s
unfolding line_of line_by
line_line [] = refl
line_line (c ∷ s) = at (nat_eq c newline) refl (line_line s)
  where
    at : (x : Bool) → nat_eq c newline ≡ x → line_of (line_of s) ≡ line_of s → line_of (line_by x c (line_of s)) ≡ line_by x c (line_of s)
    at true q e = refl
    at false q e = rw (q, e)

pub line_at_line : (s : Text) (at : ℕ) {line : Text} → line ≡ line_at s at → line_of line ≡ line
unfolding line_at
line_at_line s at e = rw e (line_line (drop at s))

-- ---- a line that is looked for
pub push_line : line_of CMD_PUSH ≡ CMD_PUSH
unfolding line_of line_by CMD_PUSH
push_line = refl

pub check_line : line_of CMD_CHECK_SAT ≡ CMD_CHECK_SAT
unfolding line_of line_by CMD_CHECK_SAT
check_line = refl

behind : (l s : Text) → line_of l ≡ l → line_of (l ++ s) ≡ l ++ line_of s
unfolding line_of line_by
behind [] s h = refl
behind (c ∷ l) s h = at (nat_eq c newline) h (behind l s)
  where
    at : (x : Bool) → line_by x c (line_of l) ≡ c ∷ l → (line_of l ≡ l → line_of (l ++ s) ≡ l ++ line_of s) → line_by x c (line_of (l ++ s)) ≡ c ∷ (l ++ line_of s)
    at true q rec = cc
    at false q rec = let e : line_of l ≡ l = cc in ap (λ (t : Text). c ∷ t) (rec e)

pub other_line : (s l : Text) → pointwise nat_eq (take (length l) s) l ≡ false → false ≡ same (line_of s) l
other_line s l e = same_no (line_of s) l (λ q. other_text _ _ (sym e) (ap (λ (t : Text). take (length t) s) (sym q) ∙ line_front s ∙ q))

pub empty : (x : Text) → length x ≡ 0 → x ≡ []
empty [] h = refl
empty (c ∷ x) h = absurd (omega arith)

-- what is left behind the line: nothing, or a byte
pub line_ends : (s l x : Text) → line_of l ≡ l → pointwise nat_eq (take (length l) s) l ≡ true → x ≡ drop (length l) s → x ≡ [] → true ≡ same (line_of s) l
line_ends s l x h e q z =
    let apart : s ≡ l ++ x = sym (take-append-drop (length l) s) ∙ rw (same_text (take (length l) s) l (sym e), q) in
    same_yes (ap line_of (apart ∙ rw z (append-nil l)) ∙ h)

pub line_by_byte : (s l x : Text) (d : ℕ) → line_of l ≡ l → pointwise nat_eq (take (length l) s) l ≡ true → x ≡ drop (length l) s → 0 < length x → nat_eq (get_or x 0 d) newline ≡ same (line_of s) l
unfolding line_of line_by
line_by_byte s l [] d h e q z = absurd (omega arith)
line_by_byte s l (c ∷ x) d h e q z = at (nat_eq c newline) refl
  where
    apart : s ≡ l ++ (c ∷ x)
    apart = sym (take-append-drop (length l) s) ∙ rw (same_text (take (length l) s) l (sym e), q)

    line : line_of s ≡ l ++ line_by (nat_eq c newline) c (line_of x)
    line = ap line_of apart ∙ behind l (c ∷ x) h

    at : (b : Bool) → nat_eq c newline ≡ b → b ≡ same (line_of s) l
    at true t = same_yes (line ∙ rw t (append-nil l))
    at false t =
        let e : line_of s ≡ l ++ (c ∷ line_of x) = line ∙ rw t in
        same_no (line_of s) l (λ u. omega (arith, ap length (sym u ∙ e), length-append l (c ∷ line_of x)))
