-- Nothing behind the last byte of a book that passes the test is read: with anything there it holds the same program and terms.
use Prim.Native.Nat.{ℕ, suc, ◌+◌, ◌*◌, ◌≤◌, ◌<◌}
use native.Mathlib.Nat.{mul-le-mul_left, mul-suc}
use native.Mathlib.Omega.{arith}
use mathlib.Core.Path.{◌≡◌, ap, ◌∙◌}
use mathlib.Core.List.{List, ◌++◌}
use lib.ListN.{length, length-append, get_or-append}
use Rattle.book.specs.Book.{Book, Section, letters, axioms, terms, contexts, word, offset, size, field, letter}
use Rattle.book.specs.Laid.{section_at, section_count, Laid}
use Rattle.book.specs.Decode.{term, program}
use Rattle.book.proofs.EachSection.{each_section}
use Rattle.book_test.specs.Promise.{Promise}
use Rattle.book_test.specs.Kept.{Kept}
use Rattle.book_test.proofs.KeptTerms.{term_kept}
use Rattle.book_test.proofs.KeptProgram.{program_kept}

module _ (b : Book) (rest : List ℕ) where
  word_same : (at : ℕ) → at + 4 ≤ length b → word (b ++ rest) at ≡ word b at
  word_same at h =
      rw (get_or-append b rest 0 at (omega arith), get_or-append b rest 0 (at + 1) (omega arith), get_or-append b rest 0 (at + 2) (omega arith), get_or-append b rest 0 (at + 3) (omega arith))

  module _ (s : Section) (L : Laid b s) where
    offset_same : offset (b ++ rest) s ≡ offset b s
    unfolding offset
    offset_same = word_same (8 * s.number) (omega (arith, L.contents))

    size_same : size (b ++ rest) s ≡ size b s
    unfolding size
    size_same = word_same (8 * s.number + 4) (omega (arith, L.contents))

    -- field i of record k
    field_same : (k i : ℕ) → k < size b s → 4 * i + 4 ≤ s.size → field (b ++ rest) s k i ≡ field b s k i
    unfolding field
    field_same k i h w =
        let m : s.size * suc k ≤ s.size * size b s = mul-le-mul_left s.size h in
        ap (λ (o : ℕ). word (b ++ rest) (o + s.size * k + 4 * i)) offset_same
        ∙ word_same (offset b s + s.size * k + 4 * i) (omega (arith, m, mul-suc s.size k, L.whole))

module _ (b : Book) (P : Promise b) (rest : List ℕ) where
  laid : (n : ℕ) → n < section_count → Laid b (section_at n)
  laid =
      each_section (λ n. Laid b (section_at n)) P.letters_laid P.names_laid P.types_laid P.constants_laid P.functions_laid P.axioms_laid
      P.patterns_laid P.terms_laid P.contexts_laid P.lists_laid

  pub kept_behind : Kept b (b ++ rest)
  unfolding letter
  kept_behind =
      record {
        counts = λ n known. omega (arith, size_same b rest (section_at n) (laid n known));
        fields = λ n known. field_same b rest (section_at n) (laid n known);
        letter = λ i h. rw (offset_same b rest letters P.letters_laid) (get_or-append b rest 0 (offset b letters + i) (omega (arith, P.letters_laid.whole)));
        letters_laid =
            rw (offset_same b rest letters P.letters_laid, size_same b rest letters P.letters_laid, length-append b rest)
            (omega (arith, P.letters_laid.whole));
      }

  pub term_same : (t : ℕ) → t < size b terms → term (b ++ rest) t ≡ term b t
  term_same = term_kept b (b ++ rest) P kept_behind

  pub program_same : program (b ++ rest) ≡ program b
  program_same =
      program_kept b (b ++ rest) P kept_behind (size_same b rest axioms P.axioms_laid) (size_same b rest terms P.terms_laid)
      (size_same b rest contexts P.contexts_laid)
