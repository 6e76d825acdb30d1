-- Refusal 28: a name that cannot go to a solver. Used or not, every type, constant, function and literal is looked at; no other name is.
use Rattle.std.specs.Prelude.{ℕ, Bool, true, not, ◌&&◌, ◌||◌}
use Rattle.std.proofs.Math.Option.{Option, none, some}
use Rattle.basics.specs.Lists.{all_below}
use Rattle.symbols.specs.Symbols.{has_bar, is_name}
use Rattle.book.specs.Book.{Book, Section, types, constants, functions, terms, size, field, name_text}
use Rattle.book.specs.SType.{SType, SBool, SInt, SUserType}
use Rattle.book.specs.RExpr.{Literal, is_tag}
use Rattle.book.specs.Decode.{literal_at}

-- a type's name inside a literal's; those of Bool and Int are words
unfoldable pub plain_type : SType → Bool
plain_type SBool = true
plain_type SInt = true
plain_type (SUserType d) = not (has_bar d.name)

-- what a literal's name needs to be a symbol between bars; %tag is printed as a number
unfoldable pub literal_named : Literal → Bool
literal_named l = is_tag l || (not (has_bar l.s) && plain_type l.typ)

-- what a term says, if it is a literal
unfoldable pub says_named : Option Literal → Bool
says_named none = true
says_named (some l) = literal_named l

module _ (b : Book) where
  -- the name of a type, constant or function, each of which has it as its first field
  unfoldable pub record_named : Section → ℕ → Bool
  record_named s k = is_name (name_text b (field b s k 0))

  unfoldable pub section_named : Section → Bool
  section_named s = all_below (size b s) (record_named s)

  unfoldable pub term_named : ℕ → Bool
  term_named t = says_named (literal_at b t)

  unfoldable pub names_good : Bool
  names_good = section_named types && section_named constants && section_named functions && all_below (size b terms) term_named
