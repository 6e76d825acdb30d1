-- Every symbol is declared and used under its printed name.
use mathlib.Core.Path.{◌≡◌, refl, sym}
use mathlib.Core.List.{List, [], ◌++◌, append_assoc}
use Rattle.basics.specs.Text.{Text, ascii}
use Rattle.symbols.specs.Symbols.{symbol_text}
use Rattle.book.specs.SType.{SType}
use Rattle.solver_expr.specs.SolverExpr.{name_to_string, to_string, flat, id, type_to_sexpr, types_to_sexpr}
use Rattle.solver_expr.specs.Lowering.{operator_name, literal_name, literal_to_string, to_sexpr}
use Rattle.smt_engines.specs.SmtEngines.{SortDeclaration, context_to_string}
use Rattle.smt_engines.specs.Command.{declaration, command_to_string}
use Rattle.declared_once.specs.Symbols.{Symbol, a_sort, a_constant, a_function, a_literal, declaration_of, printed_name, is_sort, built_in_types}
use Rattle.declared_once.specs.Spelled.{opening, Line, Spelled}

regroup : (a b c d e : Text) → (((a ++ b) ++ c) ++ d) ++ e ≡ a ++ (b ++ (c ++ (d ++ e)))
regroup a b c d e = simp append_assoc

types_line : List SType → SType → Text
types_line ts t = to_string (types_to_sexpr ts) flat ++ (ascii " " ++ (to_string (type_to_sexpr t) flat ++ ascii ")"))

function_line : (name : Text) (ts : List SType) (t : SType) → context_to_string (declaration name ts t) ≡ ascii "(declare-fun " ++ name ++ ascii " " ++ types_line ts t
unfolding declaration context_to_string types_line
function_line name ts t = regroup (ascii "(declare-fun " ++ name ++ ascii " ") (to_string (types_to_sexpr ts) flat) (ascii " ") (to_string (type_to_sexpr t) flat) (ascii ")")

sort_line : (name : Text) → context_to_string (SortDeclaration name) ≡ ascii "(declare-sort " ++ name ++ ascii " " ++ ascii "0)"
unfolding context_to_string
sort_line name = sym (append_assoc (ascii "(declare-sort " ++ name) (ascii " ") (ascii "0)"))

declared_line : (x : Symbol) → Line x
unfolding command_to_string declaration_of printed_name is_sort opening
declared_line (a_sort d) = record { behind = ascii "0)"; line = sort_line (symbol_text d.name) }
declared_line (a_constant v) = record { behind = types_line [] v.typ; line = function_line (symbol_text v.name) [] v.typ }
declared_line (a_function f) = record { behind = types_line f.input_types f.typ; line = function_line (symbol_text f.name) f.input_types f.typ }
declared_line (a_literal l) = record { behind = types_line [] l.typ; line = function_line (literal_name l) [] l.typ }

pub spelled : Spelled
unfolding to_sexpr id operator_name literal_to_string printed_name type_to_sexpr to_string name_to_string built_in_types
spelled =
    record {
      declared = declared_line;
      constant = λ v tag. refl;
      function = λ f args tag. refl;
      literal = λ t l tag h. rw h;
      sort = λ d. refl;
      operator = λ name args tag. refl;
      types = refl;
    }
