-- Books of Integers and of one chain of contexts that refer to them, as many as a book can have: they pass 2 to 4 and 28, and whether they pass 5 and 6
-- is up to the contexts. The checker can't compute a book of some hundred records.
use Prim.Native.Nat.{ℕ, zero, suc, ◌*◌, ◌^◌, ◌<◌, ◌≤◌}
use native.Mathlib.Nat.{mul-div_cancel_left}
use native.Mathlib.Omega.{arith}
use mathlib.Core.Path.{◌≡◌, refl, sym, ap, ◌∙◌}
use mathlib.Core.Bool.{Bool, true, false, not}
use mathlib.Core.List.{List, [], ◌∷◌}
use lib.Dec.{leb}
use lib.ListN.{length, get_or}
use borrow.Author.Tests.{lt-ltb, le-leb}
use Rattle.basics.specs.Lists.{all_below, join_below}
use Rattle.basics.specs.Bytes.{row}
use Rattle.basics.specs.Outcome.{Outcome, refused, accepted, refuse, ◌>>◌}
use Rattle.basics.proofs.Counting.{below_all}
use Rattle.basics.proofs.All.{end, more}
use Rattle.book.specs.Book.{Book, names, types, constants, functions, axioms, terms, contexts, size, field, depth_most}
use Rattle.book.specs.Laid.{section_at, section_count}
use Rattle.book.specs.Decode.{kind_of, literal_by, literal_at}
use Rattle.book.proofs.EachSection.{each_section}
use Rattle.book_fields.specs.Fields.{within, letter_in_range, name_in_range, type_in_range, constant_in_range, function_in_range, axiom_in_range, pattern_in_range, context_in_range, fields_in_range}
use Rattle.book_terms.specs.Terms.{is_zero, uses, kind_in_range, term_in_range, terms_in_range}
use Rattle.book_forest.specs.Forest.{Reference, reference, kind_references, term_references, context_references, references, is_forest}
use Rattle.book_depth.specs.Depth.{shallow}
use Rattle.book_depth.proofs.Chain.{chain_shallow}
use Rattle.book_names.specs.Names.{says_named, record_named, section_named, term_named, names_good}
use Rattle.book_test.specs.BookTest.{in_range, book_test}
use Rattle.book_layout.specs.Layout.{Bodies, body_at, count_of, assembled, Fits}
use Rattle.book_layout.proofs.Agree.{join_agree}
use Rattle.book_layout.proofs.Assembled.{size_assembled, field_assembled}
use Rattle.book_layout.proofs.Contents.{laid-out, counts-fit}
use Rattle.book_layout.proofs.Few.{few_fit}
use Rattle.book_layout.proofs.Rows.{Words, length_records, field_records}

-- term k: the Integer k
abbrev integer_row : ℕ → List ℕ
integer_row k = 1 ∷ k ∷ 0 ∷ 0 ∷ 0 ∷ 0 ∷ 0 ∷ []

-- context record k: its parent is node k, the one before; its term; it has no trace
abbrev context_row : (term : ℕ → ℕ) → ℕ → List ℕ
context_row term k = k ∷ term k ∷ 0 ∷ []

abbrev bodies : (n m : ℕ) (term : ℕ → ℕ) → Bodies
bodies n m term s =
    get_or ([] ∷ [] ∷ [] ∷ [] ∷ [] ∷ [] ∷ [] ∷ join_below n (λ k. row (integer_row k)) ∷ join_below m (λ k. row (context_row term k)) ∷ []) s.number []

-- n Integers, and m contexts, of which number k has the term that is handed over for it
abbrev pub integer_book : (n m : ℕ) (term : ℕ → ℕ) → Book
integer_book n m term = assembled (bodies n m term)

-- what a context refers to
unfoldable pub node_reference : (n : ℕ) (term : ℕ → ℕ) → ℕ → List Reference
node_reference n term k = reference n (term k) ∷ []

-- the answer, by whether 5 and 6 pass
abbrev pub answer_of : (forest depth : Bool) → Outcome (Unit {0})
answer_of false depth = refused 5
answer_of true false = refused 6
answer_of true true = accepted tt

join_none : {A : Type 0} (n : ℕ) (g : ℕ → List A) → ((i : ℕ) → i < n → g i ≡ []) → join_below n g ≡ []
unfolding join_below
join_none zero g h = refl
join_none (suc n) g h = rw (join_none n g (λ i l. h i (omega arith)), h n (omega arith))

word : (x : ℕ) {xs : List ℕ} → x < 2 ^ 32 → Words xs → Words (x ∷ xs)
word x l ls = more l ls

module _ (n m : ℕ) (term : ℕ → ℕ) (few : n ≤ terms.most) (short : m ≤ contexts.most) (known : (k : ℕ) → k < m → term k < n) where
  abbrev own : Bodies
  own = bodies n m term

  abbrev book : Book
  book = integer_book n m term

  terms_count : count_of own terms ≡ n
  unfolding count_of
  terms_count = rw (length_records 7 integer_row (λ k. refl) n) (mul-div_cancel_left n {n = terms.size} (omega arith))

  contexts_count : count_of own contexts ≡ m
  unfolding count_of
  contexts_count = rw (length_records 3 (context_row term) (λ k. refl) m) (mul-div_cancel_left m {n = contexts.size} (omega arith))

  whole : (i : ℕ) → i < section_count → length (body_at own i) ≡ (section_at i).size * count_of own (section_at i)
  unfolding count_of
  whole =
      each_section (λ i. length (body_at own i) ≡ (section_at i).size * count_of own (section_at i)) refl refl refl refl refl refl refl
      (length_records 7 integer_row (λ k. refl) n ∙ ap (λ (c : ℕ). terms.size * c) (sym terms_count))
      (length_records 3 (context_row term) (λ k. refl) m ∙ ap (λ (c : ℕ). contexts.size * c) (sym contexts_count))
      refl

  most : (i : ℕ) → i < section_count → count_of own (section_at i) ≤ (section_at i).most
  unfolding count_of
  most =
      each_section (λ i. count_of own (section_at i) ≤ (section_at i).most) (omega arith) (omega arith) (omega arith) (omega arith) (omega arith) (omega arith) (omega arith)
      (omega (arith, terms_count)) (omega (arith, contexts_count)) (omega arith)

  fits : Fits own
  fits = few_fit own whole most

  terms_size : size book terms ≡ n
  terms_size = size_assembled own fits 7 (omega arith) ∙ terms_count

  contexts_size : size book contexts ≡ m
  contexts_size = size_assembled own fits 8 (omega arith) ∙ contexts_count

  -- a test of every record of a section that has none
  none : (i : ℕ) → i < section_count → count_of own (section_at i) ≡ 0 → (test : ℕ → Bool) → all_below (size book (section_at i)) test ≡ true
  unfolding all_below
  none i here e test = rw (size_assembled own fits i here ∙ e)

  module _ (k : ℕ) (here : k < n) where
    term_field : (i : ℕ) → i < 7 → field book terms k i ≡ get_or (integer_row k) i 0
    term_field i h =
        field_assembled own fits 7 (omega arith) k i (omega (arith, terms_count)) (omega arith)
        ∙ field_records 7 integer_row (λ k. refl) terms refl n k i here h (word 1 (omega arith) (word k (omega arith) (word 0 (omega arith) (word 0 (omega arith) (word 0 (omega arith) (word 0 (omega arith) (word 0 (omega arith) end)))))))

    term-right : term_in_range book k ≡ true
    unfolding term_in_range kind_of kind_in_range uses is_zero all_below
    term-right =
        rw (term_field 0 (omega arith), term_field 3 (omega arith), term_field 4 (omega arith), term_field 5 (omega arith), term_field 6 (omega arith))

    term-named : term_named book k ≡ true
    unfolding term_named says_named literal_at literal_by kind_of
    term-named = rw (term_field 0 (omega arith))

    term_alone : term_references book k ≡ []
    unfolding term_references kind_of kind_references
    term_alone = rw (term_field 0 (omega arith))

  module _ (k : ℕ) (here : k < m) where
    context_field : (i : ℕ) → i < 3 → field book contexts k i ≡ get_or (context_row term k) i 0
    context_field i h =
        field_assembled own fits 8 (omega arith) k i (omega (arith, contexts_count)) (omega arith)
        ∙ field_records 3 (context_row term) (λ k. refl) contexts refl m k i here h (word k (omega arith) (word (term k) (omega (arith, known k here)) (word 0 (omega arith) end)))

    context_right : context_in_range book k ≡ true
    unfolding context_in_range within
    context_right =
        rw (
          context_field 0 (omega arith),
          context_field 1 (omega arith),
          context_field 2 (omega arith),
          terms_size,
          le-leb k k (omega arith),
          lt-ltb (term k) n (known k here),
          le-leb 0 (size book names) (omega arith),
        )

    node_refers : context_references book k ≡ node_reference n term k
    unfolding context_references node_reference
    node_refers = rw (context_field 1 (omega arith), terms_size)

  in-range : in_range book ≡ true
  unfolding in_range fields_in_range terms_in_range count_of
  in-range =
      let nodes : all_below (size book contexts) (context_in_range book) ≡ true = below_all _ _ (λ k h. context_right k (omega (arith, contexts_size))) in
      let integers : all_below (size book terms) (term_in_range book) ≡ true = below_all _ _ (λ k h. term-right k (omega (arith, terms_size))) in
      rw (
        none 0 (omega arith) refl (letter_in_range book),
        none 1 (omega arith) refl (name_in_range book),
        none 2 (omega arith) refl (type_in_range book),
        none 3 (omega arith) refl (constant_in_range book),
        none 4 (omega arith) refl (function_in_range book),
        none 5 (omega arith) refl (axiom_in_range book),
        none 6 (omega arith) refl (pattern_in_range book),
        nodes,
        integers,
      )

  names-good : names_good book ≡ true
  unfolding names_good section_named count_of
  names-good =
      let integers : all_below (size book terms) (term_named book) ≡ true = below_all _ _ (λ k h. term-named k (omega (arith, terms_size))) in
      rw (none 2 (omega arith) refl (record_named book types), none 3 (omega arith) refl (record_named book constants), none 4 (omega arith) refl (record_named book functions), integers)

  pub refers : references book ≡ join_below m (node_reference n term)
  unfolding references count_of join_below
  refers =
      let no_axioms : size book axioms ≡ 0 = size_assembled own fits 5 (omega arith) in
      rw (terms_size, no_axioms, contexts_size, join_none n (term_references book) term_alone) (join_agree m (context_references book) (node_reference n term) node_refers)

  -- 5 if a term is referred to twice, and else 6 if the chain is longer than the limit
  pub integer_test : {forest : Bool} → is_forest book ≡ forest → book_test book ≡ answer_of forest (leb m depth_most)
  unfolding book_test refuse ◌>>◌
  integer_test {forest} e =
      rw (laid-out own fits, counts-fit own fits most, in-range, e, chain_shallow book (λ k h. context_field k (omega (arith, contexts_size)) 0 (omega arith)), contexts_size, names-good)
      (by forest (leb m depth_most))
    where
      by : (x y : Bool) → ◌≡◌ {A = Outcome (Unit {0})} (refuse 5 (not x) >> (refuse 6 (not y) >> (refuse 28 false >> accepted tt))) (answer_of x y)
      by false y = refl
      by true false = refl
      by true true = refl
