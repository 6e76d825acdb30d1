-- The call listing, from book bytes: document 01's book, each kind of term, and its refusals.
use Prim.Native.Nat.{ℕ}
use mathlib.Core.Path.{◌≡◌, refl}
use mathlib.Core.List.{List, [], ◌∷◌, ◌++◌, map}
use Rattle.basics.specs.Text.{Text, ascii}
use Rattle.book.specs.Book.{Book}
use Rattle.rsolver.specs.Listing.{listing_call}
use Rattle.worked_examples.proofs.Everything.{everything}
use Rattle.worked_examples.proofs.Books.{books, sample, small, none, nameless, shapes, literals, declaring, quantified}
use Rattle.worked_examples.proofs.Hosts.{hosts, dirty, blank, shows, hides, Seen, print}

-- the call in a buffer with so much room
list : Book → (node goal room : ℕ) → Seen
list b node goal room = print (listing_call b dirty node goal (blank room))

title : Text
title = ascii "----- Proof obligation:\n"

-- node 0 has no premise: the goal alone
alone : Text → Text
alone goal = title ++ ascii "  |-\n  " ++ goal ++ ascii "\n"

shown : (room : ℕ) → Text → Seen
shown room text = print (shows room text)

refused : (room n : ℕ) → Seen
refused room n = print (hides room n)

pub obligations : List (Seen × Seen)
unfolding everything books hosts list title alone shown refused
obligations =
    (list sample 2 18 80, shown 80 (title ++ ascii "  <(0, x)\n  =(y, f(x))\n  |-\n  <(0, f(y))\n"))
    ∷ (list sample 3 18 80, shown 80 (title ++ ascii "  <(0, x)\n  <(x, 9)\n  |-\n  <(0, f(y))\n"))
    ∷ (list sample 0 18 80, shown 80 (alone (ascii "<(0, f(y))")))
    -- a goal is any term: a context's own, a child, an axiom's
    ∷ (list sample 1 7 80, shown 80 (title ++ ascii "  <(0, x)\n  |-\n  <(0, x)\n"))
    ∷ (list sample 0 17 80, shown 80 (alone (ascii "f(y)")))
    ∷ (list sample 0 4 80, shown 80 (alone (ascii "(forall z: int =(f(z), z))")))
    -- traces play no part
    ∷ (list small 3 4 90, shown 90 (title ++ ascii "  (exists  pattern a true)\n  and()\n  |-\n  a\n"))
    -- a text that fills its buffer, and one byte less
    ∷ (list sample 0 18 42, shown 42 (alone (ascii "<(0, f(y))")))
    ∷ (list sample 0 18 41, refused 41 10)
    ∷ (list sample 0 18 0, refused 0 10)
    -- 7 for the node and for the goal, before 10
    ∷ (list sample 4 18 0, refused 0 7)
    ∷ (list sample 3 19 0, refused 0 7)
    ∷ (list sample 0xFFFFFFFF 0xFFFFFFFF 80, refused 80 7)
    ∷ (list none 0 0 80, refused 80 7)
    ∷ (list [] 9 9 80, refused 80 2)
    -- 28 before 7, though the names are not printed here
    ∷ (list nameless 9 9 80, refused 80 28)
    ∷ []

pub obligations_hold : map (λ e. e.0) obligations ≡ map (λ e. e.1) obligations
unfolding obligations
obligations_hold = refl

-- a term as the goal at node 0
goal : Book → ℕ → Seen
goal b t = list b 0 t 100

says : Text → Seen
says text = shown 100 (alone text)

-- what has no child
pub leaves : List (Seen × Seen)
unfolding everything books hosts list title alone shown goal says
leaves =
    (goal shapes 0, says (ascii "true"))
    ∷ (goal shapes 16, says (ascii "false"))
    ∷ (goal small 0, says (ascii "0"))
    ∷ (goal shapes 1, says (ascii "12"))
    ∷ (goal small 1, says (ascii "-5"))
    ∷ (goal small 2, says (ascii "-9223372036854775808"))
    ∷ (goal shapes 2, says (ascii "a:T"))
    ∷ (goal literals 0, says (ascii "a:b:c"))
    ∷ (goal literals 9, says (ascii "a:bool"))
    ∷ (goal literals 10, says (ascii "a:int"))
    ∷ (goal small 15, says (ascii "%tag:int"))
    ∷ (goal shapes 21, says (ascii "%tag:T"))
    ∷ (goal shapes 3, says (ascii "v"))
    -- raw: a name that goes to the solver between bars; an empty text of a literal, and its type
    ∷ (goal shapes 4, says (ascii "red 40"))
    ∷ (goal declaring 13, says (ascii ":red 40"))
    ∷ []

pub leaves_hold : map (λ e. e.0) leaves ≡ map (λ e. e.1) leaves
unfolding leaves
leaves_hold = refl

-- what has children
pub kinds : List (Seen × Seen)
unfolding everything books hosts list title alone shown goal says
kinds =
    (goal small 3, says (ascii "and()"))
    ∷ (goal small 7, says (ascii "and(a, not(b))"))
    ∷ (goal shapes 6, says (ascii "f(a:T)"))
    -- an operator with an empty name, with and without an argument; names that are no simple symbols; an operator that is called %tag
    ∷ (goal shapes 19, says (ascii "(v)"))
    ∷ (goal shapes 20, says (ascii "()"))
    ∷ (goal declaring 14, says (ascii "(let, :red 40)"))
    ∷ (goal declaring 15, says (ascii "|a b|()"))
    ∷ (goal shapes 22, says (ascii "%tag()"))
    ∷ (goal shapes 9, says (ascii "(if true +(12, v) else v)"))
    ∷ (goal shapes 10, says (ascii "(val v: int := v (if true +(12, v) else v))"))
    ∷ (goal shapes 14, says (ascii "(forall v: int, w: T pattern w, v pattern  =(f(a:T), red 40))"))
    -- no variables but a pattern; an empty pattern; the same variable twice
    ∷ (goal small 13, says (ascii "(exists  pattern a true)"))
    ∷ (goal shapes 15, says (ascii "(exists  pattern  (val v: int := v (if true +(12, v) else v)))"))
    ∷ (goal shapes 17, says (ascii "(exists v: int, v: int pattern  false)"))
    ∷ []

pub kinds_hold : map (λ e. e.0) kinds ≡ map (λ e. e.1) kinds
unfolding kinds
kinds_hold = refl

-- quantifiers, without variables and patterns, with one of the two, and with both
pub quantifiers : List (Seen × Seen)
unfolding everything books hosts list title alone shown goal says
quantifiers =
    (goal quantified 1, says (ascii "(forall  p)"))
    ∷ (goal quantified 4, says (ascii "(exists  pattern x p)"))
    ∷ (goal quantified 6, says (ascii "(exists x: int pattern  p)"))
    ∷ (goal quantified 8, says (ascii "(forall x: int, p: bool false)"))
    ∷ []

pub quantifiers_hold : map (λ e. e.0) quantifiers ≡ map (λ e. e.1) quantifiers
unfolding quantifiers
quantifiers_hold = refl
