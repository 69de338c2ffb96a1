-- From where a construct is seen: what its names may mean, and what its custom options are.
use Rattle.std.specs.Prelude.{List, [], ◌∷◌, ◌++◌, flat_map, codes, Option, Some, None, option_map}
use Rattle.std.specs.Prelude.{if◌then◌else◌}
use Rattle.protobuf_parse_syntax.specs.Trees.{OptionPartSyntax, direct, extension, OptionSyntax}
use Rattle.protobuf_parse_syntax.specs.declared.tree.Syntax.{Syntax}
use Rattle.protobuf_parse_model.specs.declared.error.ElabErrorKind.TheVariants.{NotFoundByAbsPath}
use Rattle.protobuf_parse_model.specs.declared.error.ElabErrorKind.TheVariants.{NotFoundByRelPath}
use Rattle.protobuf_parse_model.specs.declared.customs.Construct.{Construct}
use Rattle.protobuf_parse_model.specs.Descriptors.{Text}
use Rattle.protobuf_parse_model.specs.Faults.{Wrong, Fault}
use Rattle.protobuf_parse_model.specs.Duplicates.{fault}
use Rattle.protobuf_parse_model.specs.Declarations as names
use Rattle.protobuf_parse_model.specs.Declarations.{Scope, DeclaredType, MessageOrEnum}
use Rattle.protobuf_parse_model.specs.Lookup.{Meanings, begins_with_dot, meant}

-- what is wrong in the custom options among the statements of a construct, seen from a scope
abbrev pub CustomFaults : Type 0
CustomFaults = Construct → Scope → List OptionSyntax → List Fault

-- the bytes that they become
abbrev pub CustomBytes : Type 0
CustomBytes = Construct → Scope → List OptionSyntax → Text

-- what is known of the custom options that a file sets
pub record Customs : Type 0 where
  pub faults : CustomFaults
  pub bytes : CustomBytes

-- nothing is wrong in any, and they become these bytes
abbrev pub spelled_so : CustomBytes → Customs
spelled_so bytes = record { faults = λ construct scope options. []; bytes = bytes }

-- no custom option is spelled
abbrev pub no_customs : Customs
no_customs = spelled_so (λ construct scope options. [])

-- what is known where a construct stands
pub record Environment : Type 0 where
  pub syntax : Syntax
  -- the messages and the enums that the file sees, by full name
  pub types : Meanings MessageOrEnum
  -- the package and the messages around the construct
  pub scope : Scope
  pub customs : Customs

-- the environment of what stands inside the message of that name
abbrev pub env_inside : Environment → Text → Environment
env_inside env name = record env { scope = names.inside env.scope name }

-- what the name of a type means there
abbrev pub type_named : Environment → Text → Option DeclaredType
type_named env name = meant env.types env.scope name

-- the full name of a type
abbrev pub type_full_name : Environment → Text → Option Text
type_full_name env name = option_map (λ (d : DeclaredType). d.name) (type_named env name)

-- E2 or E3
abbrev pub missing_name : Text → List Wrong
missing_name name =
    fault (if begins_with_dot name then NotFoundByAbsPath else NotFoundByRelPath) name

-- for a name that means nothing
abbrev pub missing : {A : Type 0} → Text → Option A → List Wrong
missing name (Some x) = []
missing name None = missing_name name

-- E2 or E3 where the name of a type means nothing
abbrev pub type_missing : Environment → Text → List Wrong
type_missing env name = missing name (type_named env name)

-- ---- custom options

-- what is wrong in the custom options of a construct
abbrev pub customs_faults : Environment → Construct → List OptionSyntax → List Fault
customs_faults env construct options = env.customs.faults construct env.scope options

-- what they become
abbrev pub customs_bytes : Environment → Construct → List OptionSyntax → Text
customs_bytes env construct options = env.customs.bytes construct env.scope options

-- the name of an option as it is written, with extensions in parentheses
abbrev pub part_text : OptionPartSyntax → Text
part_text (direct name) = name
part_text (extension name) = codes "(" ++ name ++ codes ")"

-- a whole name, with dots between its parts
abbrev pub option_path_text : List OptionPartSyntax → Text
option_path_text [] = []
option_path_text (p ∷ ps) =
    part_text p ++ flat_map (λ (q : OptionPartSyntax). codes "." ++ part_text q) ps
