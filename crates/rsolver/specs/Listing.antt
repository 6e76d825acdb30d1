-- RSolver.dfy: RExpr.ToString, RContextNode.Print and PrintProofObligation, and the call that prints what is to be proved. A name is raw.
use Rattle.std.specs.Prelude.{ℕ, List, [], ◌∷◌, ◌++◌, Bool, ◌||◌, leb, ltb, length, if◌then◌else◌}
use Rattle.basics.specs.Text.{Text, ascii, newline}
use Rattle.basics.specs.Basics.{int2_string, comma, seq_to_string}
use Rattle.basics.specs.Outcome.{Outcome, refuse, ◌>>◌}
use Rattle.book.specs.Book.{Book, terms, contexts, size}
use Rattle.book.specs.SType.{SConstant}
use Rattle.book.specs.RExpr.{RExpr, RExprs, RPatterns, Literal, ROperator, BuiltInOperator, UserDefinedFunction, Boolean, Integer, CustomLiteral, Id, FuncAppl, IfThenElse, LetExpr, QuantifierExpr, []ʳ, ◌∷ʳ◌, []ᵖ, ◌∷ᵖ◌}
use Rattle.book.specs.Program.{Program, node_at, path}
use Rattle.book.specs.Decode.{term, program}
use Rattle.book_test.specs.BookTest.{ready}
use Rattle.solver_expr.specs.SolverExpr.{type_to_string}
use Rattle.solver_expr.specs.Print.{Printed, printed, fitting}

-- what stands between the parts of a list
unfoldable pub COMMA : Text
COMMA = ascii ", "

-- ROperator.ToString; what the solver gets is operator_name
unfoldable pub roperator_to_string : ROperator → Text
roperator_to_string (BuiltInOperator name) = name
roperator_to_string (UserDefinedFunction func) = func.name

unfoldable pub bound_var_to_string : SConstant → Text
bound_var_to_string v = v.name ++ ascii ": " ++ type_to_string v.typ

unfoldable pub bound_vars_to_string : List SConstant → Text
bound_vars_to_string vv = seq_to_string vv bound_var_to_string COMMA

-- PrintUtil.CustomLiteralToString, in document 02's form
unfoldable pub custom_literal_to_string : Literal → Text
custom_literal_to_string l = l.s ++ ascii ":" ++ type_to_string l.typ

unfoldable pub quantifier_opening : (univ : Bool) → Text
quantifier_opening univ = if univ then ascii "(forall " else ascii "(exists "

unfoldable mutual
  pub rexpr_to_string : RExpr → Text
  rexpr_to_string (Boolean b) = if b then ascii "true" else ascii "false"
  rexpr_to_string (Integer x) = int2_string x
  rexpr_to_string (CustomLiteral n l) = custom_literal_to_string l
  rexpr_to_string (Id v) = v.name
  rexpr_to_string (FuncAppl op args) = roperator_to_string op ++ ascii "(" ++ comma (rexpr_strings args) COMMA ++ ascii ")"
  rexpr_to_string (IfThenElse guard thn els) =
      ascii "(if " ++ rexpr_to_string guard ++ ascii " " ++ rexpr_to_string thn ++ ascii " else " ++ rexpr_to_string els ++ ascii ")"
  rexpr_to_string (LetExpr v rhs body) =
      ascii "(val " ++ v.name ++ ascii ": " ++ type_to_string v.typ ++ ascii " := " ++ rexpr_to_string rhs ++ ascii " " ++ rexpr_to_string body ++ ascii ")"
  rexpr_to_string (QuantifierExpr univ vv patterns body) =
      quantifier_opening univ ++ bound_vars_to_string vv ++ patterns_to_string patterns ++ ascii " " ++ rexpr_to_string body ++ ascii ")"

  pub rexpr_strings : RExprs → List Text
  rexpr_strings []ʳ = []
  rexpr_strings (e ∷ʳ es) = rexpr_to_string e ∷ rexpr_strings es

  pub patterns_to_string : RPatterns → Text
  patterns_to_string []ᵖ = []
  patterns_to_string (p ∷ᵖ ps) = ascii " pattern " ++ comma (rexpr_strings p) COMMA ++ patterns_to_string ps

-- inside the block it is written out: a function of a block has to match on a constructor
unfoldable pub rexpr_list_to_string : RExprs → Text
rexpr_list_to_string es = comma (rexpr_strings es) COMMA

-- a premise or a goal, two spaces in
unfoldable pub listing_line : RExpr → Text
listing_line e = ascii "  " ++ rexpr_to_string e ++ (newline ∷ [])

-- Print of a path, the node first and the root's child last: the parent is printed first, and the root prints nothing
unfoldable pub print_context : Program → List ℕ → Text
print_context p [] = []
print_context p (n ∷ ns) = print_context p ns ++ listing_line (node_at p n).expr

unfoldable pub print_proof_obligation : Program → (node : ℕ) → RExpr → Text
print_proof_obligation p node expr =
    (ascii "----- Proof obligation:" ++ (newline ∷ [])) ++ print_context p (path p node) ++ (ascii "  |-" ++ (newline ∷ [])) ++ listing_line expr

-- THE CALL listing
unfoldable pub listing_text : (scratch : ℕ) → Book → (node goal room : ℕ) → Outcome Text
listing_text scratch b node goal room = do
  ready scratch b
  refuse 7 (ltb (size b contexts) node || leb (size b terms) goal)
  fitting room (print_proof_obligation (program b) node (term b goal))

unfoldable pub listing_call : Book → (scratch : List ℕ) → (node goal : ℕ) → (text : List ℕ) → Printed
listing_call b scratch node goal text = printed (listing_text (length scratch) b node goal (length text)) text scratch
