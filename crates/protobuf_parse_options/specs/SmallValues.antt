-- The numbers of the values of enums have 32 bits.
use Rattle.std.specs.Prelude.{List, [], ◌∷◌}
use Rattle.std.specs.Int.{w32}
use Rattle.std.specs.Int.RustNames.{FitsSigned}
use Rattle.protobuf_parse_model.specs.Declarations.{Declared}
use Rattle.protobuf_parse_model.specs.Descriptors.{EnumDescriptor, EnumValueDescriptor}

-- The numbers of these values have 32 bits.
abbrev pub AreSmall : List EnumValueDescriptor → Type 0
AreSmall [] = Unit {0}
AreSmall (v ∷ vs) = FitsSigned w32 v.number × AreSmall vs

-- Those of the values of these enums have.
abbrev pub HaveSmall : List (Declared EnumDescriptor) → Type 0
HaveSmall [] = Unit {0}
HaveSmall (e ∷ es) = AreSmall e.what.value × HaveSmall es
