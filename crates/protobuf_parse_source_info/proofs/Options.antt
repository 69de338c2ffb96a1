-- Options in brackets, where some stand.
use Rattle.std.proofs.Common.{◌≡◌, ◌==◌, Bool, true, false, List, [], ◌∷◌, length, map, refl}
use Rattle.std.proofs.Common.{arith}
use Rattle.std.proofs.lemmas.Bool.Decides.{nat_tests}
use Rattle.protobuf_parse_syntax.specs.Trees.{option_syntax}
use Rattle.protobuf_parse_syntax.specs.declared.tree.option.ProtobufOption.{ProtobufOption}
use Rattle.protobuf_parse_source_info.specs.Walks.{Path, nothing}
use Rattle.protobuf_parse_source_info.specs.Parts.{options, brackets}

pub some_options : (p : Path) (f : Bool) (os : List ProtobufOption) → false ≡ (length os == 0)
    → options p f (map option_syntax os) ≡ brackets p f (map option_syntax os)
unfolding options
some_options p f [] h = absurd cc
some_options p f (o ∷ os) h = refl

pub no_options : (p : Path) (f : Bool) (os : List ProtobufOption) → true ≡ (length os == 0)
    → options p f (map option_syntax os) ≡ nothing
unfolding options
no_options p f [] h = refl
no_options p f (o ∷ os) h = absurd (grind (arith, nat_tests, h))
