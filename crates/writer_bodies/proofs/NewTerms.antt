-- The constant, terms and node that a draft appends, as the new book reads them.
use Prim.Native.Nat.{ℕ, ◌+◌, ◌-◌, ◌*◌, ◌^◌, ◌≤◌, ◌<◌}
use native.Mathlib.Omega.{arith}
use mathlib.Core.Path.{◌≡◌, ap, ◌∙◌}
use mathlib.Core.Option.{Option}
use mathlib.Core.Bool.{true}
use mathlib.Core.List.{List, [], ◌∷◌, ◌++◌, map}
use lib.ListN.{length}
use Rattle.basics.specs.Bytes.{row}
use Rattle.basics.specs.Lists.{up_to}
use Rattle.basics.specs.Text.{Text}
use Rattle.basics.proofs.All.{end, more}
use Rattle.book.specs.Book.{Book, names, types, constants, terms, contexts, lists, size, field, entries, name_text, user_types}
use Rattle.book.specs.RExpr.{RExpr, Boolean, Id}
use Rattle.book.specs.Program.{Context}
use Rattle.book.specs.Decode.{kind_of, to_rexprs, type_of, constant_of, args_of, term_by, term_over, term, trace_of, context_of, program}
use Rattle.book.proofs.Words.{length_row}
use Rattle.book_test.specs.Promise.{GoodKind, GoodConstant}
use Rattle.book_test.proofs.TermLaw.{term-over}
use Rattle.book_layout.specs.Layout.{entries_in}
use Rattle.book_layout.proofs.Rows.{entries_row}
use Rattle.book_growth.proofs.Added.{lists_added, entries_added}
use Rattle.book_test.proofs.KeptRecords.{type_of_kept}
use Rattle.basics.proofs.Counting.{up_goes_on}
use Rattle.book_test.proofs.KeptProgram.{context_of_kept}
use Rattle.name_search.specs.Names.{texts}
use Rattle.new_records.specs.Drafts.{Draft, new_constant, true_term, identifier, equality, new_node, constant_row, term_row, node_row, addition_from}
use Rattle.new_records.specs.Naming.{equals}
use Rattle.writer_bodies.specs.Bodies.{Eq, context_node, new_sconstant}
use Rattle.writer_bodies.proofs.Drafted.{book_with, Grew, NewRow, old_laid, kept, new_promise, old_promise, types_new, contexts_new, constants_new, constant_field, term_field, term_below, node_field}
use Rattle.writer_bodies.proofs.NewTexts.{At, name_low, name_at}

module _ (b : Book) (d : Draft) (G : Grew b d) where
  -- ---- terms
  module _ (m : ℕ) where
    pub true_is : NewRow b terms (map term_row d.terms) m (term_row true_term) → term (book_with b d) m ≡ Boolean true
    unfolding term_row true_term term_over term_by kind_of
    true_is R =
        let f0 : field (book_with b d) terms m 0 ≡ 0 = term_field b d G R 0 (omega arith) (omega arith) in
        let f1 : field (book_with b d) terms m 1 ≡ 1 = term_field b d G R 1 (omega arith) (omega arith) in
        term-over (book_with b d) (new_promise b d G) m (term_below b d G R) ∙ rw (f0, f1)

    module _ (v : ℕ) (R : NewRow b terms (map term_row d.terms) m (term_row (identifier v))) (low : v < 2 ^ 32) where
      identifier_kind : field (book_with b d) terms m 0 ≡ 3
      unfolding term_row identifier
      identifier_kind = term_field b d G R 0 (omega arith) (omega arith)

      identifier_constant : field (book_with b d) terms m 1 ≡ v
      unfolding term_row identifier
      identifier_constant = term_field b d G R 1 (omega arith) low

      pub identifier_is : term (book_with b d) m ≡ Id (constant_of (book_with b d) v)
      unfolding term_over term_by kind_of
      identifier_is = term-over (book_with b d) (new_promise b d G) m (term_below b d G R) ∙ rw (identifier_kind, identifier_constant)

      pub identifier_good : v < size (book_with b d) constants
      unfolding GoodKind kind_of
      identifier_good =
          let g : GoodKind (kind_of (field (book_with b d) terms m 0)) (book_with b d) m = ((new_promise b d G).term m (term_below b d G R)).fields in
          rw identifier_constant at (rw identifier_kind at g)

  -- the two arguments of an equality
  two_entries : (x y : ℕ) → d.lists ≡ row (x ∷ y ∷ []) → x < 2 ^ 32 → y < 2 ^ 32 → entries (book_with b d) (size b lists) 2 ≡ x ∷ y ∷ []
  unfolding addition_from
  two_entries x y e hx hy =
      let z : size b lists + 0 ≡ size b lists = omega arith in
      let two : length d.lists ≡ 4 * 2 = ap length e ∙ length_row (x ∷ y ∷ []) in
      let all = entries_added b (addition_from b d) (old_laid b d G) G.whole G.within 0 2 (omega (arith, lists_added (addition_from b d) 2 two)) in
      (rw z at all) ∙ ap (λ (l : List ℕ). entries_in l 0 2) e ∙ entries_row (more hx (more hy end)) 0 2 (omega arith)

  pub equality_is : (m operator x y : ℕ) → NewRow b terms (map term_row d.terms) m (term_row (equality operator (size b lists))) → d.lists ≡ row (x ∷ y ∷ [])
      → At equals (texts b ++ d.texts) operator → x < 2 ^ 32 → y < 2 ^ 32 → term (book_with b d) m ≡ Eq (term (book_with b d) x) (term (book_with b d) y)
  unfolding term_row equality term_over term_by kind_of args_of to_rexprs Eq equals
  equality_is m operator x y R e o hx hy =
      let f0 : field (book_with b d) terms m 0 ≡ 4 = term_field b d G R 0 (omega arith) (omega arith) in
      let f1 : field (book_with b d) terms m 1 ≡ operator = term_field b d G R 1 (omega arith) (omega (arith, name_low b d G o)) in
      let f2 : field (book_with b d) terms m 2 ≡ size b lists = term_field b d G R 2 (omega arith) (omega (arith, (old_promise b d G).lists_laid.few)) in
      let f3 : field (book_with b d) terms m 3 ≡ 2 = term_field b d G R 3 (omega arith) (omega arith) in
      term-over (book_with b d) (new_promise b d G) m (term_below b d G R) ∙ rw (f0, f1, f2, f3, name_at b d G o, two_entries x y e hx hy)

  -- ---- the constant
  module _ (n typ : ℕ) (e : d.constants ≡ new_constant n typ ∷ []) (low : n < 2 ^ 32) (low-type : typ < 2 ^ 32) where
    constant-row : NewRow b constants (map constant_row d.constants) (size b constants) (n ∷ typ ∷ [])
    unfolding constant_row
    constant-row = record { k = 0; here = rw e (omega arith); place = omega arith; is = rw e }

    type_field : field (book_with b d) constants (size b constants) 1 ≡ typ
    type_field = constant_field b d G constant-row 1 (omega arith) low-type

    name_field : field (book_with b d) constants (size b constants) 0 ≡ n
    name_field = constant_field b d G constant-row 0 (omega arith) low

    good : GoodConstant (book_with b d) (size b constants)
    good = (new_promise b d G).constant (size b constants) (omega (arith, constants_new b d G, ap length e))

    pub constant_name : n < size (book_with b d) names
    constant_name = rw name_field at good.name

    pub constant_is : constant_of (book_with b d) (size b constants) ≡ new_sconstant b (name_text (book_with b d) n) (type_of b typ)
    unfolding constant_of
    constant_is =
        let inside : typ < user_types + size b types = omega (arith, types_new b d G, rw type_field at good.typ) in
        rw (name_field, type_field, type_of_kept b (book_with b d) (old_promise b d G) (kept b d G) typ inside)

  -- ---- the contexts: the old ones, and the new ones behind
  goes_on : {n : ℕ} → length d.nodes ≡ n → (program (book_with b d)).contexts ≡ (program b).contexts ++ map (context_of (book_with b d)) (up_to (size b contexts) n)
  unfolding program
  goes_on {n} e =
      let c = book_with b d in
      let more = contexts_new b d G in
      let f : size c contexts - size b contexts ≡ n = omega arith in
      rw f at (up_goes_on (context_of c) (context_of b) (size b contexts) (size c contexts) (omega arith) (context_of_kept b c (old_promise b d G) (kept b d G)))

  pub none_made : d.nodes ≡ [] → (program (book_with b d)).contexts ≡ (program b).contexts ++ []
  unfolding up_to
  none_made e = goes_on (ap length e)

  module _ (p t n : ℕ) (e : d.nodes ≡ new_node p t n ∷ []) where
    node-row : NewRow b contexts (map node_row d.nodes) (size b contexts) (p ∷ t ∷ n ∷ [])
    unfolding node_row
    node-row = record { k = 0; here = rw e (omega arith); place = omega arith; is = rw e }

    pub trace_inside : n < 2 ^ 32 → n ≤ size (book_with b d) names
    trace_inside low =
        rw (node_field b d G node-row 2 (omega arith) low) at ((new_promise b d G).context (size b contexts) (omega (arith, contexts_new b d G, ap length e))).trace

    pub one_made : (expr : RExpr) (trace : Option Text) → p < 2 ^ 32 → t < 2 ^ 32 → n < 2 ^ 32 → term (book_with b d) t ≡ expr → trace_of (book_with b d) n ≡ trace
        → (program (book_with b d)).contexts ≡ (program b).contexts ++ (context_node p expr trace ∷ [])
    unfolding up_to context_of
    one_made expr trace hp ht hn et en =
        let f0 = node_field b d G node-row 0 (omega arith) hp in
        let f1 = node_field b d G node-row 1 (omega arith) ht in
        let f2 = node_field b d G node-row 2 (omega arith) hn in
        let is : context_of (book_with b d) (size b contexts) ≡ context_node p expr trace = rw (f0, f1, f2, et, en) in
        goes_on (ap length e) ∙ ap {B = List Context} (λ (k : Context). (program b).contexts ++ (k ∷ [])) is
