-- One name under which all the definitions of this crate open, for facts that are computed.
use Rattle.basics.specs.Text.{same}
use Rattle.basics.specs.Lists.{all, member}
use Rattle.symbols.specs.Symbols.{symbol_letters, symbol_letter, is_digit, general_words, command_words, reserved_words, among, reserved, is_empty, is_simple, plain, has_bar, inside, is_quoted, is_symbol, symbol_text, is_name, bare}

unfoldable pub opened : Unit {0}
unfolding same all member symbol_letters symbol_letter is_digit general_words command_words reserved_words among reserved is_empty is_simple plain has_bar inside is_quoted is_symbol symbol_text is_name bare
opened = tt
