-- SExpr.ToString prints its arguments by SeqToString with no separator: args_to_string is that.
use mathlib.Core.Path.{◌≡◌, refl, sym, ap, ◌∙◌}
use mathlib.Core.List.{List, [], ◌∷◌, ◌++◌, map, append-nil, append_assoc}
use Rattle.basics.specs.Text.{Text}
use Rattle.basics.specs.Basics.{comma, seq_to_string}
use Rattle.solver_expr.specs.SolverExpr.{SExpr, SExprs, []ˢ, ◌∷ˢ◌, SExprPrintConfig, space, to_string, args_to_string}

-- s as a list
unfoldable pub elements : SExprs → List SExpr
elements []ˢ = []
elements (e ∷ˢ s) = e ∷ elements s

unfoldable pub argument : SExprPrintConfig → SExpr → Text
argument c e = space c ++ to_string e c

comma_cons : (t : Text) (ts : List Text) → comma (t ∷ ts) [] ≡ t ++ comma ts []
unfolding comma
comma_cons t [] = sym (append-nil t)
comma_cons t (u ∷ ts) = ap {B = Text} (λ (x : Text). x ++ comma (u ∷ ts) []) (append-nil t)

pub args_joined : (s : SExprs) (c : SExprPrintConfig) → args_to_string s c ≡ seq_to_string (elements s) (argument c) []
unfolding args_to_string seq_to_string elements comma
args_joined []ˢ c = refl
args_joined (e ∷ˢ s) c =
    ap {B = Text} (λ (x : Text). space c ++ to_string e c ++ x) (args_joined s c)
    ∙ unfold argument seq_to_string in sym (comma_cons (argument c e) (map (argument c) (elements s)))
