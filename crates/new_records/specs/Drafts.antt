-- What a call of the writer appends, as texts and records (its draft); and the bytes of it.
use Rattle.std.specs.Prelude.{ℕ, zero, suc, ◌+◌, List, [], ◌∷◌, ◌++◌, map, length}
use Rattle.basics.specs.Bytes.{rows}
use Rattle.basics.specs.Text.{Text}
use Rattle.book.specs.Book.{Book, letters, size}
use Rattle.book_growth.specs.Growth.{Addition}

-- the fields of new records
pub record NewConstant : Type 0 where
  pub name : ℕ
  pub typ : ℕ

pub record NewTerm : Type 0 where
  pub kind : ℕ
  pub field1 : ℕ
  pub field2 : ℕ
  pub field3 : ℕ
  pub field4 : ℕ
  pub field5 : ℕ
  pub field6 : ℕ

pub record NewNode : Type 0 where
  pub parent : ℕ
  pub term : ℕ
  pub trace : ℕ  -- a name's number + 1, or 0

-- new names by their texts; list entries as bytes
pub record Draft : Type 0 where
  pub texts : List Text
  pub constants : List NewConstant
  pub terms : List NewTerm
  pub nodes : List NewNode
  pub lists : List ℕ

abbrev pub new_constant : (name typ : ℕ) → NewConstant
new_constant n t = record { name = n; typ = t }

abbrev pub new_term : (kind f1 f2 f3 f4 f5 f6 : ℕ) → NewTerm
new_term k f1 f2 f3 f4 f5 f6 = record { kind = k; field1 = f1; field2 = f2; field3 = f3; field4 = f4; field5 = f5; field6 = f6 }

-- the terms that are made here: `true`; a constant; and an operator's application to two list entries
unfoldable pub true_term : NewTerm
true_term = new_term 0 1 0 0 0 0 0

unfoldable pub identifier : (constant : ℕ) → NewTerm
identifier v = new_term 3 v 0 0 0 0 0

unfoldable pub equality : (operator start : ℕ) → NewTerm
equality operator start = new_term 4 operator start 2 0 0 0

abbrev pub new_node : (parent term trace : ℕ) → NewNode
new_node p t n = record { parent = p; term = t; trace = n }

abbrev pub draft : List Text → List NewConstant → List NewTerm → List NewNode → List ℕ → Draft
draft n c t x l = record { texts = n; constants = c; terms = t; nodes = x; lists = l }

-- a new empty range starts at 0
unfoldable pub range_start : (behind count : ℕ) → ℕ
range_start behind zero = 0
range_start behind (suc count) = behind

-- ---- the rows: a name's letters stand behind all that are there
unfoldable pub name_row : (behind count : ℕ) → List ℕ
name_row behind count = range_start behind count ∷ count ∷ []

unfoldable pub name_rows : (behind : ℕ) → List Text → List (List ℕ)
name_rows behind [] = []
name_rows behind (t ∷ ts) = name_row behind (length t) ∷ name_rows (behind + length t) ts

unfoldable pub all_letters : List Text → Text
all_letters [] = []
all_letters (t ∷ ts) = t ++ all_letters ts

unfoldable pub constant_row : NewConstant → List ℕ
constant_row v = v.name ∷ v.typ ∷ []

unfoldable pub term_row : NewTerm → List ℕ
term_row t = t.kind ∷ t.field1 ∷ t.field2 ∷ t.field3 ∷ t.field4 ∷ t.field5 ∷ t.field6 ∷ []

unfoldable pub node_row : NewNode → List ℕ
node_row n = n.parent ∷ n.term ∷ n.trace ∷ []

unfoldable pub addition_from : Book → Draft → Addition
addition_from b d =
    record {
      letters = all_letters d.texts;
      names = rows (name_rows (size b letters) d.texts);
      constants = rows (map constant_row d.constants);
      terms = rows (map term_row d.terms);
      contexts = rows (map node_row d.nodes);
      lists = d.lists;
    }
