-- What the two ways in which declarations are said have in common: by lists of names a kind, and in
-- the order of the text with places.
use Rattle.std.specs.Prelude.{◌≡◌, Bool, Some, is_some}
use Rattle.protobuf_parse_syntax.specs.Trees.{FileSyntax}
use Rattle.protobuf_parse_model.specs.Descriptors.{Text}
use Rattle.protobuf_parse_model.specs.LastDeclared.{last_declared}
use Rattle.protobuf_parse_model.specs.Linking.{declares_name}

-- A name has a last declaration with a place in a file just where the file declares it, as an
-- extension or else as a message or an enum.
abbrev pub NamesHavePlaces : Type 0
NamesHavePlaces =
    (extension : Bool) (name : Text) (t : FileSyntax)
    → is_some (last_declared extension name t) ≡ declares_name extension name (Some t)
