-- SmtEngines.dfy: the constants, and Context.ToString. CMD_EXIT is left out. A push and a pop have the numeral that SMT-LIB 2.6 asks for; the Dafny constants have none.
use Rattle.std.specs.Prelude.{◌++◌}
use Rattle.basics.specs.Text.{Text, ascii}

unfoldable pub CMD_PUSH : Text
CMD_PUSH = ascii "(push 1)"

unfoldable pub CMD_POP : Text
CMD_POP = ascii "(pop 1)"

unfoldable pub CMD_CHECK_SAT : Text
CMD_CHECK_SAT = ascii "(check-sat)"

unfoldable pub CMD_GET_MODEL : Text
CMD_GET_MODEL = ascii "(get-model)"

pub data Context : Type 0 where
  Assumption : Text → Context
  Declaration : Text → Text → Text → Context  -- name, input_type, output_type
  SortDeclaration : Text → Context

unfoldable pub context_to_string : Context → Text
context_to_string (Assumption assumed) = ascii "(assert " ++ assumed ++ ascii ")"
context_to_string (Declaration name input_type output_type) =
    ascii "(declare-fun " ++ name ++ ascii " " ++ input_type ++ ascii " " ++ output_type ++ ascii ")"
context_to_string (SortDeclaration name) = ascii "(declare-sort " ++ name ++ ascii " 0)"
