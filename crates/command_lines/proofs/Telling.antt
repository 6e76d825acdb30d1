-- The kind of a line, test after test.
use Rattle.std.specs.Prelude.{if◌then◌else◌}
use mathlib.Core.Path.{◌≡◌, refl, sym, ◌∙◌}
use mathlib.Core.Bool.{Bool, true, false}
use Rattle.basics.specs.Text.{Text, ascii, same}
use Rattle.basics.specs.Lists.{all}
use Rattle.smt_engines.specs.SmtEngines.{CMD_PUSH, CMD_POP, CMD_CHECK_SAT, CMD_GET_MODEL}
use Rattle.command_lines.specs.declared.kinds.LineKind.{LineKind}
use Rattle.command_lines.specs.declared.kinds.LineKind.TheVariants.{Push, Pop, CheckSat, GetModel, Joins, Foreign}
use Rattle.command_lines.specs.declared.parentheses.Scan.TheVariants.{Outside}
use Rattle.command_lines.specs.CommandLines.{is_printing, scan, is_shut, starts_with, opens_context, is_context, line_kind}

module _ (l : Text) where
  pub opens_assert : {r : Bool} → r ≡ starts_with (ascii "(assert ") l → r ≡ true → true ≡ opens_context l
  unfolding opens_context
  opens_assert e t = rw (sym e ∙ t)

  pub opens_function : {r q : Bool} → r ≡ starts_with (ascii "(assert ") l → r ≡ false → q ≡ starts_with (ascii "(declare-fun ") l → q ≡ true → true ≡ opens_context l
  unfolding opens_context
  opens_function e t f u = rw (sym e ∙ t, sym f ∙ u)

  pub opens_sort : {r q s : Bool} → r ≡ starts_with (ascii "(assert ") l → r ≡ false → q ≡ starts_with (ascii "(declare-fun ") l → q ≡ false
      → s ≡ starts_with (ascii "(declare-sort ") l → s ≡ opens_context l
  unfolding opens_context
  opens_sort e t f u g = rw (sym e ∙ t, sym f ∙ u) g

  pub context_no : {r : Bool} → r ≡ opens_context l → r ≡ false → false ≡ is_context l
  unfolding is_context
  context_no e t = rw (sym e ∙ t)

  pub context_raw : {r q : Bool} → r ≡ opens_context l → r ≡ true → q ≡ all l is_printing → q ≡ false → false ≡ is_context l
  unfolding is_context
  context_raw e t f u = rw (sym e ∙ t, sym f ∙ u)

  pub context_by : {r q s : Bool} → r ≡ opens_context l → r ≡ true → q ≡ all l is_printing → q ≡ true → s ≡ is_shut (scan (Outside 0) l) → s ≡ is_context l
  unfolding is_context
  context_by e t f u g = rw (sym e ∙ t, sym f ∙ u) g

  module _ {p o k m j : Bool} (push : p ≡ same l CMD_PUSH) (pop : o ≡ same l CMD_POP) (check : k ≡ same l CMD_CHECK_SAT) (model : m ≡ same l CMD_GET_MODEL) (context : j ≡ is_context l) where
    by_tests : line_kind l ≡ (if p then Push else if o then Pop else if k then CheckSat else if m then GetModel else if j then Joins else Foreign)
    unfolding line_kind
    by_tests = rw (push, pop, check, model, context)

  pub kind_push : {p : Bool} → p ≡ same l CMD_PUSH → p ≡ true → Push ≡ line_kind l
  kind_push e t = sym (by_tests e refl refl refl refl ∙ rw t)

  pub kind_pop : {p o : Bool} → p ≡ same l CMD_PUSH → p ≡ false → o ≡ same l CMD_POP → o ≡ true → Pop ≡ line_kind l
  kind_pop e t f u = sym (by_tests e f refl refl refl ∙ rw (t, u))

  pub kind_check : {p o k : Bool} → p ≡ same l CMD_PUSH → p ≡ false → o ≡ same l CMD_POP → o ≡ false → k ≡ same l CMD_CHECK_SAT → k ≡ true → CheckSat ≡ line_kind l
  kind_check e t f u g v = sym (by_tests e f g refl refl ∙ rw (t, u, v))

  pub kind_model : {p o k m : Bool} → p ≡ same l CMD_PUSH → p ≡ false → o ≡ same l CMD_POP → o ≡ false → k ≡ same l CMD_CHECK_SAT → k ≡ false
      → m ≡ same l CMD_GET_MODEL → m ≡ true → GetModel ≡ line_kind l
  kind_model e t f u g v h w = sym (by_tests e f g h refl ∙ rw (t, u, v, w))

  pub kind_context : {p o k m j : Bool} (r : LineKind) → p ≡ same l CMD_PUSH → p ≡ false → o ≡ same l CMD_POP → o ≡ false → k ≡ same l CMD_CHECK_SAT → k ≡ false
      → m ≡ same l CMD_GET_MODEL → m ≡ false → j ≡ is_context l → r ≡ (if j then Joins else Foreign) → r ≡ line_kind l
  kind_context r e t f u g v h w i q = sym (by_tests e f g h i ∙ rw (t, u, v, w) (sym q))
