-- Names: a full name has a dot before each identifier, from the package down to the declaration's
-- own name (google/protobuf/descriptor.proto, "type_name"); an identifier is a letter or an
-- underscore, and then letters, digits and underscores (Protocol Buffers Language Specification,
-- "Letters and digits" and "Identifiers", https://protobuf.dev). descriptor.cc of protoc 3.21 takes
-- underscores in first place too.
use Rattle.std.specs.Prelude.{ℕ, Bool, false, not, ◌&&◌, ◌||◌, ◌==◌, [], ◌∷◌, ◌++◌}
use Rattle.std.specs.Prelude.{Option, unwrap_or}
use Rattle.std.specs.Char.{is_ascii_alphanumeric, is_ascii_digit}
use Rattle.std.specs.List.{list_all}
use Rattle.protobuf_parse_base.specs.Characters as char
use Rattle.protobuf_parse_base.specs.Names.{dotted_parts}
use Rattle.protobuf_parse_model.specs.Descriptors.{Text}

-- a name in a scope
abbrev pub within : Text → Text → Text
within scope name = scope ++ char.dot ∷ name

-- the scope of a file, by its package
abbrev pub scope_of : Text → Text
scope_of [] = []
scope_of (c ∷ cs) = char.dot ∷ c ∷ cs

-- the package of a file, or nothing
abbrev pub package_scope : Option Text → Text
package_scope said = scope_of (unwrap_or said [])

-- a letter, a digit or an underscore
abbrev pub is_word_byte : ℕ → Bool
is_word_byte b = is_ascii_alphanumeric b || b == char.underscore

-- whether the name is an identifier
abbrev pub is_identifier : Text → Bool
is_identifier [] = false
is_identifier (b ∷ bs) = not (is_ascii_digit b) && list_all is_word_byte (b ∷ bs)

-- whether each part of the package is one, between its dots
abbrev pub is_package : Text → Bool
is_package name = list_all is_identifier (dotted_parts name)
