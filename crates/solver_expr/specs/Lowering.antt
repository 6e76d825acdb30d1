-- RSolver.dfy, the first part: RExpr.ToSExpr. literalMapper is one number, the one that `%tag` prints.
use Rattle.std.specs.Prelude.{ℕ, List, [], ◌∷◌, ◌++◌, Bool, true, false, if◌then◌else◌}
use Rattle.basics.specs.Text.{Text, ascii, same}
use Rattle.basics.specs.Basics.{nat2_string}
use Rattle.symbols.specs.Symbols.{symbol_text}
use Rattle.book.specs.SType.{SConstant}
use Rattle.book.specs.RExpr.{RExpr, RExprs, RPatterns, Literal, is_tag, ROperator, BuiltInOperator, UserDefinedFunction, Boolean, Integer, CustomLiteral, Id, FuncAppl, IfThenElse, LetExpr, QuantifierExpr, []ʳ, ◌∷ʳ◌, []ᵖ, ◌∷ᵖ◌}
use Rattle.solver_expr.specs.SolverExpr.{SExpr, SExprs, S, PP, []ˢ, ◌∷ˢ◌, boolean, integer, id, func_appl, type_to_sexpr, type_to_string}

-- ROperator.ToString. A built-in operator's name is never changed.
unfoldable pub operator_name : ROperator → Text
operator_name (BuiltInOperator name) = name
operator_name (UserDefinedFunction func) = symbol_text func.name

-- CustomLiteralToSExprName
unfoldable pub literal_name : Literal → Text
literal_name l = ascii "|" ++ l.s ++ ascii ":" ++ type_to_string l.typ ++ ascii "|"

unfoldable pub literal_to_string : Literal → ℕ → Text
literal_to_string l tag = if is_tag l then nat2_string tag else literal_name l

unfoldable pub bound_var_to_sexpr : SConstant → SExpr
bound_var_to_sexpr v = PP (id v ∷ˢ type_to_sexpr v.typ ∷ˢ []ˢ)

unfoldable pub bound_vars_to_sexpr : List SConstant → SExprs
bound_vars_to_sexpr [] = []ˢ
bound_vars_to_sexpr (v ∷ vv) = bound_var_to_sexpr v ∷ˢ bound_vars_to_sexpr vv

-- Annotate, on the annotations' S-expressions in a row
unfoldable pub annotate : SExpr → SExprs → SExpr
annotate body []ˢ = body
annotate body (a ∷ˢ annotations) = func_appl (ascii "!") (body ∷ˢ a ∷ˢ annotations)

-- a quantifier without variables is its body
unfoldable pub quantifier : Bool → List SConstant → SExprs → SExpr → SExpr
quantifier univ [] annotations body = body
quantifier univ (v ∷ vv) annotations body =
    func_appl (if univ then ascii "forall" else ascii "exists") (PP (bound_vars_to_sexpr (v ∷ vv)) ∷ˢ annotate body annotations ∷ˢ []ˢ)

unfoldable mutual
  pub to_sexpr : RExpr → ℕ → SExpr
  to_sexpr (Boolean b) tag = boolean b
  to_sexpr (Integer x) tag = integer x
  to_sexpr (CustomLiteral n l) tag = S (literal_to_string l tag)
  to_sexpr (Id v) tag = id v
  to_sexpr (FuncAppl op args) tag = func_appl (operator_name op) (to_sexprs args tag)
  to_sexpr (IfThenElse guard thn els) tag =
      func_appl (ascii "ite") (to_sexpr guard tag ∷ˢ to_sexpr thn tag ∷ˢ to_sexpr els tag ∷ˢ []ˢ)
  to_sexpr (LetExpr v rhs body) tag =
      let binding = PP (id v ∷ˢ to_sexpr rhs tag ∷ˢ []ˢ) in
      func_appl (ascii "let") (PP (binding ∷ˢ []ˢ) ∷ˢ to_sexpr body tag ∷ˢ []ˢ)
  to_sexpr (QuantifierExpr univ vv patterns body) tag =
      quantifier univ vv (patterns_to_sexprs patterns tag) (to_sexpr body tag)

  -- RExprListToSExprs
  pub to_sexprs : RExprs → ℕ → SExprs
  to_sexprs []ʳ tag = []ˢ
  to_sexprs (e ∷ʳ es) tag = to_sexpr e tag ∷ˢ to_sexprs es tag

  -- PatternListToSAnnotationList with SAnnotation.ToSExprs: `:pattern (t0 t1 ...)` for each pattern
  pub patterns_to_sexprs : RPatterns → ℕ → SExprs
  patterns_to_sexprs []ᵖ tag = []ˢ
  patterns_to_sexprs (p ∷ᵖ ps) tag = S (ascii ":pattern") ∷ˢ PP (to_sexprs p tag) ∷ˢ patterns_to_sexprs ps tag
