-- What the writers of commands write, piece by piece.
use Prim.Native.Nat.{ℕ, ◌+◌, ◌-◌, min}
use mathlib.Core.Path.{◌≡◌, refl, sym, ap, ◌∙◌}
use mathlib.Core.Bool.{false}
use mathlib.Core.List.{List, [], ◌∷◌, ◌++◌, append-nil, append_assoc}
use lib.ListN.{length, take, drop}
use Rattle.basics.specs.Text.{Text, ascii, newline}
use Rattle.basics.specs.Write.{MOST, WroteAt}
use Rattle.symbols.specs.Symbols.{symbol_text}
use Rattle.basics.proofs.Laws.{joined}
use Rattle.basics.proofs.Places.{at_part}
use Rattle.book.specs.Book.{Book, names, types, constants, functions, terms, field, name_text}
use Rattle.book.specs.Laid.{section_at}
use Rattle.book.specs.Decode.{constant_of, function_of, literal_of, term}
use Rattle.records.specs.Named.{Named}
use Rattle.solver_expr.specs.SolverExpr.{SExpr, to_string, list_to_string, flat, types_to_sexpr, type_list, negation}
use Rattle.solver_expr.specs.Lowering.{to_sexpr, literal_name}
use Rattle.solver_expr.specs.Values.{term_of, row_of, meaning, Ready, IsType, IsNegation, Lowered}
use Rattle.solver_expr.specs.declared.SRow.TheVariants as row
use Rattle.solver_expr.specs.declared.SExpr as code
use Rattle.solver_expr.specs.declared.SExpr.TheVariants as value
use Rattle.printer.specs.Printing.{WroteIn, expr_text}
use Rattle.smt_engines.specs.SmtEngines.{CMD_PUSH, CMD_POP, CMD_CHECK_SAT, CMD_GET_MODEL, context_to_string}
use Rattle.smt_engines.specs.Command.{Push, Pop, CheckSat, GetModel, Assume, AssumeNot, DeclareSort, DeclareConstant, DeclareFunction, DeclareLiteral, assumption, declaration, command_to_string, script}
use Rattle.smt_engines.specs.Written.{type_decl_of, type_text, types_text, signature_text}

end_line : (x e : Text) → x ++ (e ++ (newline ∷ [])) ≡ x ++ e ++ (newline ∷ []) ++ []
end_line x e = sym (append-nil _ ∙ append_assoc x e (newline ∷ []))

no_inputs : (x : Text) → x ++ ascii " () " ≡ x ++ ascii " " ++ ascii "()" ++ ascii " "
no_inputs x = sym (append_assoc (x ++ ascii " ") (ascii "()") (ascii " ") ∙ append_assoc x (ascii " ") (ascii "()" ++ ascii " "))

module _ (b : Book) where
  -- ---- parts
  pub symbol_part : {n m : ℕ} → n ≡ m → symbol_text (name_text b n) ≡ symbol_text (name_text b m)
  symbol_part e = rw e

  pub name_here : {section k i n : ℕ} → Named b section k i → n ≡ field b (section_at section) k i → Ready b names n
  name_here r e = record { promise = r.promise; here = rw e r.inside }

  pub type_part : {typ : ℕ} {e : code.SExpr} (tag : ℕ) → IsType b typ e → expr_text b tag e flat ≡ type_text b typ
  unfolding expr_text type_text
  type_part tag h = ap {B = Text} (λ (s : SExpr). to_string s flat) (h.is tag)

  pub types-part : (k tag : ℕ) → expr_text b tag (value.PP (row.Types k)) flat ≡ types_text b k
  unfolding expr_text meaning row_of types_text types_to_sexpr
  types-part k tag = refl

  pub term_part : {t : ℕ} {e : code.SExpr} (tag : ℕ) → Lowered b t e → expr_text b tag e flat ≡ to_string (to_sexpr (term b t) tag) flat
  unfolding expr_text term_of
  term_part tag h = ap {B = Text} (λ (s : SExpr). to_string s flat) (h.is tag)

  pub negated_part : {t : ℕ} {e : code.SExpr} (tag : ℕ) → IsNegation t e → expr_text b tag e flat ≡ to_string (negation (to_sexpr (term b t) tag)) flat
  unfolding expr_text term_of
  negated_part tag h = ap {B = Text} (λ (s : SExpr). to_string s flat) (h.is b tag)

  -- one that is written in part of the buffer
  pub flat_part : (e : code.SExpr) (tag : ℕ) {at k n r : ℕ} {o p : List ℕ} → k ≡ min at (length o)
      → WroteIn false 0 (expr_text b tag e) (take (length o - k) (drop k o)) p n → r ≡ min (at + n) MOST → WroteAt (expr_text b tag e flat) at o (joined k o p) r
  unfolding flat
  flat_part e tag ek w er = at_part ek (w.wrote flat (record { lines = refl; spaces = refl })) er

  -- ---- lines
  pub sort_line : (k : ℕ) → ascii "(declare-sort " ++ symbol_text (name_text b (field b types k 0)) ++ (0x20 ∷ 0x30 ∷ 0x29 ∷ newline ∷ []) ≡ script (DeclareSort (type_decl_of b k) ∷ [])
  unfolding script command_to_string context_to_string
  sort_line k = end_line (ascii "(declare-sort " ++ symbol_text (name_text b (field b types k 0))) (ascii " 0)")

  pub constant_line : (k : ℕ) → ascii "(declare-fun " ++ symbol_text (name_text b (field b constants k 0)) ++ ascii " () " ++ type_text b (field b constants k 1) ++ (0x29 ∷ newline ∷ []) ≡ script (DeclareConstant (constant_of b k) ∷ [])
  unfolding script command_to_string context_to_string declaration types_to_sexpr type_list constant_of type_text to_string list_to_string
  constant_line k =
      ap {B = Text} (λ (x : Text). x ++ type_text b (field b constants k 1) ++ (0x29 ∷ newline ∷ [])) (no_inputs (ascii "(declare-fun " ++ symbol_text (name_text b (field b constants k 0))))
      ∙ end_line (ascii "(declare-fun " ++ symbol_text (name_text b (field b constants k 0)) ++ ascii " " ++ ascii "()" ++ ascii " " ++ type_text b (field b constants k 1)) (ascii ")")

  pub signature : (k : ℕ) → ascii "(declare-fun " ++ symbol_text (name_text b (field b functions k 0)) ++ ascii " " ++ types_text b k ≡ signature_text b k
  unfolding signature_text function_of
  signature k = refl

  pub function_line : (k : ℕ) → signature_text b k ++ ascii " " ++ type_text b (field b functions k 1) ++ (0x29 ∷ newline ∷ []) ≡ script (DeclareFunction (function_of b k) ∷ [])
  unfolding script command_to_string context_to_string declaration signature_text types_text function_of type_text
  function_line k = end_line (signature_text b k ++ ascii " " ++ type_text b (field b functions k 1)) (ascii ")")

  pub literal_line : (t : ℕ) → ascii "(declare-fun " ++ literal_name (literal_of b t) ++ ascii " () " ++ type_text b (field b terms t 2) ++ (0x29 ∷ newline ∷ []) ≡ script (DeclareLiteral (literal_of b t) ∷ [])
  unfolding script command_to_string context_to_string declaration types_to_sexpr type_list literal_of type_text to_string list_to_string
  literal_line t =
      ap {B = Text} (λ (x : Text). x ++ type_text b (field b terms t 2) ++ (0x29 ∷ newline ∷ [])) (no_inputs (ascii "(declare-fun " ++ literal_name (literal_of b t)))
      ∙ end_line (ascii "(declare-fun " ++ literal_name (literal_of b t) ++ ascii " " ++ ascii "()" ++ ascii " " ++ type_text b (field b terms t 2)) (ascii ")")

  pub assume_line : (t tag : ℕ) {x : Text} → x ≡ to_string (to_sexpr (term b t) tag) flat → ascii "(assert " ++ x ++ (0x29 ∷ newline ∷ []) ≡ script (Assume (term b t) tag ∷ [])
  unfolding script command_to_string context_to_string assumption
  assume_line t tag e = rw e (end_line (ascii "(assert " ++ to_string (to_sexpr (term b t) tag) flat) (ascii ")"))

  pub assume_not_line : (t tag : ℕ) {x : Text} → x ≡ to_string (negation (to_sexpr (term b t) tag)) flat → ascii "(assert " ++ x ++ (0x29 ∷ newline ∷ []) ≡ script (AssumeNot (term b t) tag ∷ [])
  unfolding script command_to_string context_to_string assumption
  assume_not_line t tag e = rw e (end_line (ascii "(assert " ++ to_string (negation (to_sexpr (term b t) tag)) flat) (ascii ")"))

pub push_line : ascii "(push 1)" ++ (newline ∷ []) ≡ script (Push ∷ [])
unfolding script command_to_string CMD_PUSH
push_line = refl

pub pop_line : ascii "(pop 1)" ++ (newline ∷ []) ≡ script (Pop ∷ [])
unfolding script command_to_string CMD_POP
pop_line = refl

pub check_line : ascii "(check-sat)" ++ (newline ∷ []) ≡ script (CheckSat ∷ [])
unfolding script command_to_string CMD_CHECK_SAT
check_line = refl

pub model_line : ascii "(get-model)" ++ (newline ∷ []) ≡ script (GetModel ∷ [])
unfolding script command_to_string CMD_GET_MODEL
model_line = refl
