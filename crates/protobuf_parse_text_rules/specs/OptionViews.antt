-- No public clause rests on this file.
-- What the code has of options.
use Rattle.std.specs.Prelude.{List, map}
use Rattle.std.specs.Borrow.{Bor}
use Rattle.protobuf_parse_syntax.specs.Trees.{OptionSyntax, option_syntax}
use Rattle.protobuf_parse_syntax.specs.declared.tree.option.ProtobufOption.{ProtobufOption}
use Rattle.protobuf_parse_text_rules.specs.Options as spec
use Rattle.protobuf_parse_text_rules.specs.declared.options.NamedOption.{NamedOption}

abbrev pub option_view : Bor ProtobufOption → OptionSyntax
option_view o = option_syntax o.now

abbrev pub options_view : List (Bor ProtobufOption) → List OptionSyntax
options_view os = map option_view os

abbrev pub named_view : NamedOption → spec.NamedOption
named_view o = record { place = o.place; name = o.name.now }
