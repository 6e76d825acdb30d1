-- RSolver.dfy's Extend, ExtendWithEquality, Record and RecordTracePoint, in its order and by its names, with capitals, since the writer's
-- calls have the others; and that an accepted call appends just what they return. Proved in proofs/Made.antt: makes_context.
use Rattle.std.specs.Prelude.{ℕ, ◌^◌, ◌<◌, ◌≡◌, true}
use Rattle.std.proofs.Math.Option.{Option, none, some}
use mathlib.Core.List.{◌++◌, Option-to_list}
use Rattle.basics.specs.Text.{Text, ascii}
use Rattle.book.specs.SType.{SType, SBool, SConstant}
use Rattle.book.specs.RExpr.{RExpr, BuiltInOperator, Boolean, Id, FuncAppl, []ʳ, ◌∷ʳ◌}
use Rattle.book.specs.Program.{Context, node_at, depth}
use Rattle.book.specs.Book.{Book, constants, size}
use Rattle.book.specs.Decode.{type_of, constant_of, term, trace_of, program}
use Rattle.name_search.specs.Probe.{probe_name}
use Rattle.book_writer.specs.Growths.{Growth, append_name, append_constant, append_term, append_node, extend, extend_with_equality, record_term, record_trace_point}
use Rattle.book_writer.specs.Writing.{Grown}

-- RExpr.Eq
unfoldable pub Eq : (r0 r1 : RExpr) → RExpr
Eq r0 r1 = FuncAppl (BuiltInOperator (ascii "=")) (r0 ∷ʳ r1 ∷ʳ []ʳ)

-- new RContextNode
abbrev pub context_node : (parent : ℕ) (expr : RExpr) (trace_string : Option Text) → Context
context_node parent expr trace_string = record { parent = parent; expr = expr; trace_string = trace_string }

unfoldable pub Extend : (context : ℕ) (expr : RExpr) (trace_string : Option Text) → Context
Extend context expr trace_string = context_node context expr trace_string

unfoldable pub ExtendWithEquality : (context : ℕ) (sv : SConstant) (expr : RExpr) → Context
ExtendWithEquality context sv expr = Extend context (Eq (Id sv) expr) none

-- if trace_string.Some? then trace_string else Some(name)
unfoldable pub trace_or_name : (trace_string : Option Text) (name : Text) → Option Text
trace_or_name none name = some name
trace_or_name (some trace) name = some trace

module _ (b : Book) where
  -- new SolverExpr.SConstant: an object is told by its record's number
  abbrev pub new_sconstant : (name : Text) (typ : SType) → SConstant
  new_sconstant name typ = record { number = size b constants; name = name; typ = typ }

  unfoldable pub Record : (context : ℕ) (expr : RExpr) (typ : SType) (trace_string : Option Text) → Context
  Record context expr typ trace_string =
      let name = probe_name (depth (program b) context) in
      let p = new_sconstant name typ in
      let eq = Eq (Id p) expr in
      Extend context eq (trace_or_name trace_string name)

  unfoldable pub RecordTracePoint : (context : ℕ) (trace_string : Text) → Context
  RecordTracePoint context trace_string = Record context (Boolean true) SBool (some trace_string)

  -- ---- what a call makes, of what the numbers handed over stand for in the book received: a context, or none
  unfoldable pub new_context : Growth → Option Context
  new_context (append_name t) = none
  new_context (append_constant n typ) = none
  new_context (append_term t first second) = none
  new_context (append_node p t n) = some (context_node p (term b t) (trace_of b n))
  new_context (extend p t trace) = some (Extend p (term b t) trace)
  new_context (extend_with_equality p v t) = some (ExtendWithEquality p (constant_of b v) (term b t))
  new_context (record_term p t typ trace) = some (Record p (term b t) (type_of b typ) trace)
  new_context (record_trace_point p trace) = some (RecordTracePoint p trace)

-- the code's numbers are u32s, and a larger one would be read back as another. Said of those that nothing else bounds: a parent and a term
-- are inside the book
abbrev pub Handed : Growth → Type 0
Handed (append_name t) = Unit {0}
Handed (append_constant n typ) = Unit {0}
Handed (append_term t first second) = Unit {0}
Handed (append_node p t n) = n < 2 ^ 32
Handed (extend p t trace) = Unit {0}
Handed (extend_with_equality p v t) = v < 2 ^ 32
Handed (record_term p t typ trace) = typ < 2 ^ 32
Handed (record_trace_point p trace) = Unit {0}

-- of an accepted call
pub record MakesContext (b : Book) (g : Growth) (x : Grown) : Type 0 where
  -- the new book's contexts are the old ones and, behind them, the one made
  pub contexts : (program x.book).contexts ≡ (program b).contexts ++ Option-to_list (new_context b g)
  -- it is the node that is answered
  pub node : (k : Context) → new_context b g ≡ some k → node_at (program x.book) x.number ≡ k
