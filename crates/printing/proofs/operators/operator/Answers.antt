use borrow.Author.Rules.{rules}
use Rattle.printing.proofs.OperatorCalls.{no_name, named}
use Rattle.printing.proofs.operators.operator.Goals as goal

pub returns-in_default : goal.returns-in_default
returns-in_default c = let e = no_name _ _ c.in_default.ensures.of_code in record { answer = e.0; text = e.1 }

pub returns : goal.returns
returns c =
    let e = named _ _ c.in-Some.ensures.in_table.0 c.in-Some.ensures.in_table.1 c.in-Some.ensures.in_table.2 (c.fitted.ensures _ (λ p r q l h. search rules)) in record { answer = e.0; text = e.1 }
