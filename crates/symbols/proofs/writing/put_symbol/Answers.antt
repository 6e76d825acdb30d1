use Rattle.basics.proofs.Laws.{wrote_as}
use Rattle.symbols.proofs.Tests.{text_simple, text_quoted, text_other}
use Rattle.symbols.proofs.writing.put_symbol.Goals as goal

pub returns-then-is_simple : goal.returns-then-is_simple
returns-then-is_simple c = wrote_as (text_simple _ c.is_simple.ensures c.if-is_simple.true) c.put_all.ensures

pub returns-then-is_quoted : goal.returns-then-is_quoted
returns-then-is_quoted c = wrote_as (text_quoted _ c.is_simple.ensures c.if-is_simple.false c.is_quoted.ensures c.if-is_quoted.true) c.put_all-then-is_quoted.ensures

pub returns : goal.returns
returns c = wrote_as (text_other _ c.is_simple.ensures c.if-is_simple.false c.is_quoted.ensures c.if-is_quoted.false) c.put_quoted.ensures
