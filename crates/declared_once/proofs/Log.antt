-- What holds of the bodies' sets and of the log of what was sent: each declared symbol of the book was declared once, with its types, and
-- every assertion came after the declarations of its symbols. Then one more declaration, assertion or axiom's mark.
use Rattle.std.specs.Prelude.{if◌then◌else◌}
use Prim.Native.Nat.{ℕ, ◌+◌}
use native.Mathlib.Omega.{arith}
use mathlib.Core.Path.{◌≡◌, refl, sym, ap, ◌∙◌, subst}
use mathlib.Core.Option.{Option, none, some}
use mathlib.Core.Bool.{Bool, true, false, ◌||◌, or-true, false≢true}
use mathlib.Core.List.{List, [], ◌∷◌, ◌++◌, append_assoc, append-nil}
use borrow.Author.Tests.{eqb-true}
use Rattle.basics.specs.Text.{Text, same}
use Rattle.basics.proofs.All.{All, end, more, all_append, all_weaken}
use Rattle.basics.proofs.Texts.{same_eq, same_refl}
use Rattle.book.specs.RExpr.{RExpr}
use Rattle.book.specs.Book.{Book}
use Rattle.book.specs.Decode.{constant_of, function_of}
use Rattle.book.proofs.Every.{EveryR}
use Rattle.solver_expr.specs.Lowering.{literal_name}
use Rattle.smt_engines.specs.Command.{Command}
use Rattle.rsolver.specs.Methods.{Marker, type, constant, function, axiom'}
use Rattle.rsolver.specs.SolverState.{same_marker, is_in, with'}
use Rattle.rsolver.proofs.Sets.{marker_eq, marker_refl, in_with}
use Rattle.declared_once.specs.Symbols.{Symbol, a_sort, a_constant, a_function, a_literal, sorts_of, symbols_of, declared_by, declaration_of, asserted, same_name, named_by, declares_name, times}
use Rattle.declared_once.specs.ToldApart.{sort_of, prints_apart}
use Rattle.declared_once.proofs.Lists.{bool_same, times-append}
use Rattle.declared_once.proofs.Unique.{Of, name_refl, literal-names, unique}
use Rattle.declared_once.proofs.OfBook.{asked}

-- ---- under what a symbol stands in the bodies' sets: a marker, or a literal's name
pub data Key : Type 0 where
  by_marker : Marker → Key
  by_name : Text → Key

unfoldable pub key : Symbol → Key
key (a_sort d) = by_marker (type d.number)
key (a_constant v) = by_marker (constant v.number)
key (a_function f) = by_marker (function f.number)
key (a_literal l) = by_name (literal_name l)

unfoldable same_key : Key → Key → Bool
same_key (by_marker m) (by_marker n) = same_marker m n
same_key (by_marker m) (by_name t) = false
same_key (by_name s) (by_marker n) = false
same_key (by_name s) (by_name t) = same s t

unfoldable pub has_key : Key → List Marker → List Text → Bool
has_key (by_marker m) ds ns = is_in same_marker m ds
has_key (by_name t) ds ns = is_in same t ns

unfoldable pub has : Symbol → List Marker → List Text → Bool
has x ds ns = has_key (key x) ds ns

-- the sets with one key more
unfoldable pub markers_with : Key → List Marker → List Marker
markers_with (by_marker m) ds = with' same_marker m ds
markers_with (by_name t) ds = ds

unfoldable pub names_with : Key → List Text → List Text
names_with (by_marker m) ns = ns
names_with (by_name t) ns = with' same t ns

has_more : (k j : Key) (ds : List Marker) (ns : List Text) → has_key k (markers_with j ds) (names_with j ns) ≡ (same_key k j || has_key k ds ns)
unfolding has_key markers_with names_with same_key
has_more (by_marker m) (by_marker n) ds ns = in_with same_marker marker_eq m n ds
has_more (by_marker m) (by_name t) ds ns = refl
has_more (by_name s) (by_marker n) ds ns = refl
has_more (by_name s) (by_name t) ds ns = in_with same same_eq s t ns

pub has_keeps : (x : Symbol) (j : Key) (ds : List Marker) (ns : List Text) → has x ds ns ≡ true → has x (markers_with j ds) (names_with j ns) ≡ true
unfolding has
has_keeps x j ds ns h = has_more (key x) j ds ns ∙ rw h (or-true (same_key (key x) j))

-- an axiom's mark is no symbol's
pub has_axiom : (x : Symbol) (k : ℕ) (ds : List Marker) (ns : List Text) → has x (with' same_marker (axiom' k) ds) ns ≡ has x ds ns
unfolding has has_key key same_marker
has_axiom (a_sort d) k ds ns = in_with same_marker marker_eq (type d.number) (axiom' k) ds
has_axiom (a_constant v) k ds ns = in_with same_marker marker_eq (constant v.number) (axiom' k) ds
has_axiom (a_function f) k ds ns = in_with same_marker marker_eq (function f.number) (axiom' k) ds
has_axiom (a_literal l) k ds ns = refl

key_refl : (k : Key) → same_key k k ≡ true
unfolding same_key
key_refl (by_marker m) = marker_refl m
key_refl (by_name t) = same_refl t

pub has_own : (x : Symbol) (ds : List Marker) (ns : List Text) → has x (markers_with (key x) ds) (names_with (key x) ns) ≡ true
unfolding has
has_own x ds ns = has_more (key x) (key x) ds ns ∙ rw (key_refl (key x))

-- ---- an assertion in a log, after what was sent before it
abbrev pub Fine : List Command → Option RExpr → Type 0
Fine before none = Unit {0}
Fine before (some e) = All (λ x. times (declares_name x) before ≡ 1) (symbols_of e [])

abbrev pub SoundAfter : List Command → List Command → Type 0
SoundAfter before [] = Unit {0}
SoundAfter before (c ∷ cs) = Fine before (asserted c) × SoundAfter (before ++ (c ∷ [])) cs

pub sound_more : (before cs : List Command) (d : Command) → SoundAfter before cs → Fine (before ++ cs) (asserted d) → SoundAfter before (cs ++ (d ∷ []))
sound_more before [] d s f = (rw append-nil at f, tt)
sound_more before (c ∷ cs) d s f = (s.0, sound_more (before ++ (c ∷ [])) cs d s.1 (rw (append_assoc before (c ∷ []) cs) f))

pub sound_at : (before cs : List Command) (c : Command) (behind : List Command) → SoundAfter before (cs ++ (c ∷ behind)) → Fine (before ++ cs) (asserted c)
sound_at before [] c behind s = rw append-nil s.0
sound_at before (d ∷ cs) c behind s = rw (append_assoc before (d ∷ []) cs) at (sound_at (before ++ (d ∷ [])) cs c behind s.1)

-- ---- a symbol's own declaration
none-some : {A B : Type 0} {x : A} → ◌≡◌ {A = Option A} none (some x) → B
none-some h = let z : ◌≡◌ {A = ℕ} 0 1 = cc in absurd (omega arith)

some_eq : {A : Type 0} {x y : A} → ◌≡◌ {A = Option A} (some x) (some y) → x ≡ y
some_eq h = cc

declared_is : (y : Symbol) → declared_by (declaration_of y) ≡ some y
unfolding declared_by declaration_of
declared_is (a_sort d) = refl
declared_is (a_constant v) = refl
declared_is (a_function f) = refl
declared_is (a_literal l) = refl

declaration_quiet : (y : Symbol) → asserted (declaration_of y) ≡ none
unfolding declaration_of asserted
declaration_quiet (a_sort d) = refl
declaration_quiet (a_constant v) = refl
declaration_quiet (a_function f) = refl
declaration_quiet (a_literal l) = refl

module _ (b : Book) where
  -- what a command declares is a record of the book, and what it asserts names such records alone
  pub record Known (c : Command) : Type 0 where
    pub declared : (y : Symbol) → declared_by c ≡ some y → Of b y × (c ≡ declaration_of y)
    pub asserts : (e : RExpr) → asserted c ≡ some e → EveryR (asked b) e

  -- of the sets and the log
  pub record Inv (ds : List Marker) (ns : List Text) (log : List Command) : Type 0 where
    pub counted : (x : Symbol) → Of b x → times (declares_name x) log ≡ (if has x ds ns then 1 else 0)
    pub closed : (x : Symbol) → Of b x → has x ds ns ≡ true → All (λ y. has y ds ns ≡ true) (sorts_of x)
    pub known : All Known log
    pub sound : SoundAfter [] log

  module _ (T : prints_apart b ≡ true) where
    -- two symbols of the book that stand under one key are one
    key_eq : (x y : Symbol) → Of b x → Of b y → same_key (key x) (key y) ≡ true → x ≡ y
    unfolding same_key key same_marker sort_of constant_of function_of
    key_eq (a_sort c) (a_sort d) o q e =
        let n : o.0 ≡ q.0 = sym (ap (λ z. z.number) o.2) ∙ eqb-true c.number d.number e ∙ ap (λ z. z.number) q.2 in
        ap a_sort (o.2 ∙ ap (sort_of b) n ∙ sym q.2)
    key_eq (a_sort c) (a_constant v) o q e = absurd (false≢true e)
    key_eq (a_sort c) (a_function f) o q e = absurd (false≢true e)
    key_eq (a_sort c) (a_literal l) o q e = absurd (false≢true e)
    key_eq (a_constant w) (a_sort d) o q e = absurd (false≢true e)
    key_eq (a_constant w) (a_constant v) o q e =
        let n : o.0 ≡ q.0 = sym (ap (λ z. z.number) o.2) ∙ eqb-true w.number v.number e ∙ ap (λ z. z.number) q.2 in
        ap a_constant (o.2 ∙ ap (constant_of b) n ∙ sym q.2)
    key_eq (a_constant w) (a_function f) o q e = absurd (false≢true e)
    key_eq (a_constant w) (a_literal l) o q e = absurd (false≢true e)
    key_eq (a_function g) (a_sort d) o q e = absurd (false≢true e)
    key_eq (a_function g) (a_constant v) o q e = absurd (false≢true e)
    key_eq (a_function g) (a_function f) o q e =
        let n : o.0 ≡ q.0 = sym (ap (λ z. z.number) o.2) ∙ eqb-true g.number f.number e ∙ ap (λ z. z.number) q.2 in
        ap a_function (o.2 ∙ ap (function_of b) n ∙ sym q.2)
    key_eq (a_function g) (a_literal l) o q e = absurd (false≢true e)
    key_eq (a_literal m) (a_sort d) o q e = absurd (false≢true e)
    key_eq (a_literal m) (a_constant v) o q e = absurd (false≢true e)
    key_eq (a_literal m) (a_function f) o q e = absurd (false≢true e)
    key_eq (a_literal m) (a_literal l) o q e = unique b T (a_literal m) (a_literal l) o q (literal-names m l (same_eq _ _ e))

    -- under one key they stand exactly if they have one name
    key_name : (x y : Symbol) → Of b x → Of b y → same_key (key x) (key y) ≡ same_name x y
    key_name x y o q =
        bool_same _ _ (λ e. rw (key_eq x y o q e) (name_refl y)) (λ e. rw (unique b T x y o q e) (key_refl (key y)))

    declared_more : (x y : Symbol) → Of b x → Of b y → (ds : List Marker) (ns : List Text)
        → has x (markers_with (key y) ds) (names_with (key y) ns) ≡ (same_name x y || has x ds ns)
    unfolding has
    declared_more x y o q ds ns = has_more (key x) (key y) ds ns ∙ rw (key_name x y o q)

    declares : (x y : Symbol) → declares_name x (declaration_of y) ≡ same_name x y
    unfolding declares_name named_by
    declares x y = rw (declared_is y)

    known_declared : (y : Symbol) → Of b y → Known (declaration_of y)
    known_declared y o =
        record {
          declared = λ z e. let i : y ≡ z = some_eq (sym (declared_is y) ∙ e) in subst (λ z. Of b z × (declaration_of y ≡ declaration_of z)) i (o, refl);
          asserts = λ e h. none-some (sym (declaration_quiet y) ∙ h);
        }

    -- one more command at a log's end
    times_more : (x : Symbol) (log : List Command) (c : Command) → times (declares_name x) (log ++ (c ∷ [])) ≡ times (declares_name x) log + (if declares_name x c then 1 else 0)
    unfolding times
    times_more x log c = times-append (declares_name x) log (c ∷ []) ∙ omega arith

    module _ {ds : List Marker} {ns : List Text} {log : List Command} (I : Inv ds ns log) where
      -- a symbol that is not declared yet, whose types are
      pub inv_declare : (y : Symbol) → Of b y → has y ds ns ≡ false → All (λ z. has z ds ns ≡ true) (sorts_of y)
          → Inv (markers_with (key y) ds) (names_with (key y) ns) (log ++ (declaration_of y ∷ []))
      inv_declare y q new sorts =
          record {
            counted = λ x o.
                times_more x log (declaration_of y) ∙ rw (I.counted x o, declares x y, declared_more x y o q ds ns) (count x o (same_name x y) refl);
            closed = λ x o h. all_weaken (λ z. has_keeps z (key y) ds ns) (close x o (same_name x y) refl (sym (declared_more x y o q ds ns) ∙ h));
            known = all_append I.known (more (known_declared y q) end);
            sound = sound_more [] log (declaration_of y) I.sound (rw (declaration_quiet y) tt);
          }
        where
          was : (x : Symbol) → Of b x → same_name x y ≡ true → has x ds ns ≡ false
          was x o e = rw (unique b T x y o q e) new

          count : (x : Symbol) → Of b x → (c : Bool) → same_name x y ≡ c → (if has x ds ns then 1 else 0) + (if c then 1 else 0) ≡ (if c || has x ds ns then 1 else 0)
          count x o true e = rw (was x o e) refl
          count x o false e = omega arith

          close : (x : Symbol) → Of b x → (c : Bool) → same_name x y ≡ c → (c || has x ds ns) ≡ true → All (λ z. has z ds ns ≡ true) (sorts_of x)
          close x o true e h = rw (unique b T x y o q e) sorts
          close x o false e h = I.closed x o h

      -- an assertion whose symbols are declared
      pub inv_assert : (c : Command) (e : RExpr) → asserted c ≡ some e → declared_by c ≡ none → EveryR (asked b) e → All (Of b) (symbols_of e [])
          → All (λ x. has x ds ns ≡ true) (symbols_of e []) → Inv ds ns (log ++ (c ∷ []))
      inv_assert c e a d every os hs =
          record {
            counted = λ x o. times_more x log c ∙ rw (quiet x) (omega (arith, I.counted x o));
            closed = I.closed;
            known = all_append I.known (more known end);
            sound = sound_more [] log c I.sound (rw a (fine os hs));
          }
        where
          known : Known c
          known =
              record {
                declared = λ y h. none-some (sym d ∙ h);
                asserts = λ f h. let i : e ≡ f = some_eq (sym a ∙ h) in subst (EveryR (asked b)) i every;
              }

          quiet : (x : Symbol) → declares_name x c ≡ false
          quiet x = unfold declares_name named_by in rw d

          fine : {xs : List Symbol} → All (Of b) xs → All (λ x. has x ds ns ≡ true) xs → All (λ x. times (declares_name x) log ≡ 1) xs
          fine end end = end
          fine (more {a = x} o os) (more h hs) = more (I.counted x o ∙ rw h refl) (fine os hs)

      pub inv_axiom : (k : ℕ) → Inv (with' same_marker (axiom' k) ds) ns log
      inv_axiom k =
          record {
            counted = λ x o. rw (has_axiom x k ds ns) (I.counted x o);
            closed = λ x o h. all_weaken (λ z g. has_axiom z k ds ns ∙ g) (I.closed x o (sym (has_axiom x k ds ns) ∙ h));
            known = I.known;
            sound = I.sound;
          }

  -- nothing was sent
  pub inv_start : Inv [] [] []
  unfolding times
  inv_start = record { counted = λ x o. rw (nothing x) refl; closed = λ x o h. absurd (false≢true (sym (nothing x) ∙ h)); known = end; sound = tt }
    where
      nothing : (x : Symbol) → has x [] [] ≡ false
      nothing x = unfold has in at (key x)
        where
          at : (k : Key) → has_key k [] [] ≡ false
          at (by_marker m) = unfold has_key is_in in refl
          at (by_name t) = unfold has_key is_in in refl
