-- What the calls that make no context append: the name, constant or term that was handed over. Proved in proofs/Made.antt: makes_record.
use Rattle.std.specs.Prelude.{ℕ, ◌+◌, ◌*◌, ◌^◌, ◌<◌, ◌≡◌, not, List, map, eqb}
use Rattle.basics.specs.Basics.{int64}
use Rattle.book.specs.RExpr.{RExpr, BuiltInOperator, UserDefinedFunction, Boolean, Integer, CustomLiteral, Id, FuncAppl, IfThenElse, LetExpr, QuantifierExpr}
use Rattle.book.specs.Book.{Book, terms, size, name_text}
use Rattle.book.specs.Decode.{Kind, boolean, integer, custom_literal, id, built_in, application, if_then_else, let_expr, quantifier_expr, kind_of, to_rexprs, to_rpatterns, type_of, constant_of, function_of, pattern_of, term}
use Rattle.book_layout.specs.Layout.{entries_in}
use Rattle.new_records.specs.Drafts.{NewTerm}
use Rattle.book_writer.specs.Growths.{Growth, append_name, append_constant, append_term, append_node, extend, extend_with_equality, record_term, record_trace_point, entry_count}
use Rattle.book_writer.specs.Writing.{Grown}
use Rattle.writer_bodies.specs.Bodies.{new_sconstant}

-- the numbers that are handed over as bytes, four for each
unfoldable pub numbers : (bytes : List ℕ) → List ℕ
numbers bytes = entries_in bytes 0 (entry_count bytes)

-- a term by its kind, of what its fields and lists stand for in the book received
module _ (b : Book) where
  unfoldable pub new_expr_by : Kind → NewTerm → (first second : List ℕ) → RExpr
  new_expr_by boolean t first second = Boolean (not (eqb t.field1 0))
  new_expr_by integer t first second = Integer (int64 (t.field1 + 2 ^ 32 * t.field2))
  new_expr_by custom_literal t first second = CustomLiteral (size b terms) (record { s = name_text b t.field1; typ = type_of b t.field2 })
  new_expr_by id t first second = Id (constant_of b t.field1)
  new_expr_by built_in t first second = FuncAppl (BuiltInOperator (name_text b t.field1)) (to_rexprs (term b) (numbers first))
  new_expr_by application t first second = FuncAppl (UserDefinedFunction (function_of b t.field1)) (to_rexprs (term b) (numbers first))
  new_expr_by if_then_else t first second = IfThenElse (term b t.field1) (term b t.field2) (term b t.field3)
  new_expr_by let_expr t first second = LetExpr (constant_of b t.field1) (term b t.field2) (term b t.field3)
  new_expr_by quantifier_expr t first second =
      QuantifierExpr (not (eqb t.field1 0)) (map (constant_of b) (numbers first)) (to_rpatterns (pattern_of b (term b)) (numbers second)) (term b t.field6)

  unfoldable pub new_expr : NewTerm → (first second : List ℕ) → RExpr
  new_expr t first second = new_expr_by (kind_of t.kind) t first second

-- the numbers handed over are u32s, as in Bodies
abbrev pub HandedTerm : NewTerm → Type 0
HandedTerm t =
    (t.kind < 2 ^ 32)
    × (t.field1 < 2 ^ 32)
    × (t.field2 < 2 ^ 32)
    × (t.field3 < 2 ^ 32)
    × (t.field4 < 2 ^ 32)
    × (t.field5 < 2 ^ 32)
    × (t.field6 < 2 ^ 32)

abbrev pub HandedRecord : Growth → Type 0
HandedRecord (append_name t) = Unit {0}
HandedRecord (append_constant n typ) = (n < 2 ^ 32) × (typ < 2 ^ 32)
HandedRecord (append_term t first second) = HandedTerm t
HandedRecord (append_node p t n) = Unit {0}
HandedRecord (extend p t trace) = Unit {0}
HandedRecord (extend_with_equality p v t) = Unit {0}
HandedRecord (record_term p t typ trace) = Unit {0}
HandedRecord (record_trace_point p trace) = Unit {0}

-- of an accepted call: what the number answered stands for in the new book
abbrev pub MakesRecord : Book → Growth → Grown → Type 0
MakesRecord b (append_name t) x = name_text x.book x.number ≡ t
MakesRecord b (append_constant n typ) x = constant_of x.book x.number ≡ new_sconstant b (name_text b n) (type_of b typ)
MakesRecord b (append_term t first second) x = term x.book x.number ≡ new_expr b t first second
MakesRecord b (append_node p t n) x = Unit {0}
MakesRecord b (extend p t trace) x = Unit {0}
MakesRecord b (extend_with_equality p v t) x = Unit {0}
MakesRecord b (record_term p t typ trace) x = Unit {0}
MakesRecord b (record_trace_point p trace) x = Unit {0}
