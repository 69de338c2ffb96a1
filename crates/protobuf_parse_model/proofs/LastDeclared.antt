-- The place of a name's last declaration, one declaration after another.
use Rattle.std.proofs.Common.{◌≡◌, ◌&&◌, Bool, List, [], ◌∷◌, ◌++◌, refl}
use Rattle.std.specs.Prelude.{Option, bytes_eq, if◌then◌else◌, Some}
use Rattle.protobuf_parse_lexer.specs.declared.lexer.token.Place.{Place}
use Rattle.protobuf_parse_model.specs.Descriptors.{Text}
use Rattle.protobuf_parse_model.specs.DeclaredAt.{DeclaredAt}
use Rattle.protobuf_parse_model.specs.LastDeclared.{last_place}
use Rattle.protobuf_parse_model.specs.Tables.{is_of}

-- of these and then of those
pub last_append : (extension : Bool) (name : Text) (before : Option Place) (xs ys : List DeclaredAt)
    → last_place extension name before (xs ++ ys)
    ≡ last_place extension name (last_place extension name before xs) ys
last_append extension name before [] ys = refl
last_append extension name before (x ∷ xs) ys =
    last_append extension name
    (if is_of extension x.what.kind && bytes_eq x.name name then Some x.what.place else before)
    xs ys
