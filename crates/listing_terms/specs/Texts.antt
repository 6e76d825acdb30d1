-- The texts of a book's terms, by their numbers.
use Rattle.std.specs.Prelude.{ℕ, zero, suc, ◌+◌, ◌*◌, ◌^◌, [], ◌++◌, map, Bool, not, eqb, replicate, if◌then◌else◌}
use Rattle.basics.specs.Text.{Text, ascii}
use Rattle.basics.specs.Basics.{int2_string, int64}
use Rattle.book.specs.Book.{Book, functions, terms, field, entries, name_text}
use Rattle.book.specs.Decode.{constant_of, args_of, pattern_of, to_rpatterns, term}
use Rattle.rsolver.specs.Listing.{COMMA, bound_var_to_string, bound_vars_to_string, quantifier_opening, rexpr_to_string, rexpr_list_to_string, patterns_to_string}

-- what stands before part i of a list
unfoldable pub lead : ℕ → Text
lead zero = []
lead (suc i) = COMMA

-- as many parentheses as are open
abbrev pub closing : ℕ → Text
closing n = replicate n 0x29

module _ (b : Book) where
  unfoldable pub boolean_text : ℕ → Text
  boolean_text t = if not (eqb (field b terms t 1) 0) then ascii "true" else ascii "false"

  unfoldable pub integer_text : ℕ → Text
  integer_text t = int2_string (int64 (field b terms t 1 + 2 ^ 32 * field b terms t 2))

  -- of an application, built-in or not
  unfoldable pub operator_text : ℕ → Text
  operator_text t = if eqb (field b terms t 0) 4 then name_text b (field b terms t 1) else name_text b (field b functions (field b terms t 1) 0)

  unfoldable pub universal : ℕ → Bool
  universal t = not (eqb (field b terms t 1) 0)

  -- of the constants, terms and patterns in a range of lists
  unfoldable pub variables_text : (start count : ℕ) → Text
  variables_text start count = bound_vars_to_string (map (constant_of b) (entries b start count))

  unfoldable pub terms_text : (start count : ℕ) → Text
  terms_text start count = rexpr_list_to_string (args_of b (term b) start count)

  unfoldable pub patterns_text : (start count : ℕ) → Text
  patterns_text start count = patterns_to_string (to_rpatterns (pattern_of b (term b)) (entries b start count))

  -- of term t, where it is of the kind: behind an operator's name, and whole
  unfoldable pub arguments_text : ℕ → Text
  arguments_text t = ascii "(" ++ (terms_text (field b terms t 2) (field b terms t 3) ++ ascii ")")

  unfoldable pub if_text : ℕ → Text
  if_text t =
      ascii "(if " ++ rexpr_to_string (term b (field b terms t 1)) ++ ascii " " ++ rexpr_to_string (term b (field b terms t 2)) ++ ascii " else "
      ++ (rexpr_to_string (term b (field b terms t 3)) ++ ascii ")")

  unfoldable pub let_text : ℕ → Text
  let_text t =
      ascii "(val " ++ bound_var_to_string (constant_of b (field b terms t 1)) ++ ascii " := " ++ rexpr_to_string (term b (field b terms t 2)) ++ ascii " "
      ++ (rexpr_to_string (term b (field b terms t 3)) ++ ascii ")")

  unfoldable pub quantifier_text : ℕ → Text
  quantifier_text t =
      quantifier_opening (universal t) ++ variables_text (field b terms t 2) (field b terms t 3) ++ patterns_text (field b terms t 4) (field b terms t 5) ++ ascii " "
      ++ (rexpr_to_string (term b (field b terms t 6)) ++ ascii ")")
