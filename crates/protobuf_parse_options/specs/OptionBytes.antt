-- The bytes of custom options, as a function of the statements: what stands in a descriptor.
use Rattle.std.specs.Prelude.{◌≡◌, ℕ, List, [], ◌∷◌}
use Rattle.protobuf_parse_syntax.specs.Trees.{OptionSyntax, FileSyntax}
use Rattle.protobuf_parse_model.specs.declared.customs.Construct.{Construct}
use Rattle.protobuf_parse_model.specs.Faults.{Fault}
use Rattle.protobuf_parse_model.specs.Descriptors.{FileDescriptor}
use Rattle.protobuf_parse_model.specs.Environment.{CustomBytes, Customs}
use Rattle.protobuf_parse_wire.specs.Encoded.{encoded}
use Rattle.protobuf_parse_options.specs.OptionFields.{OptionScope}
use Rattle.protobuf_parse_options.specs.OptionLaw.{HasSmallValues}
use Rattle.protobuf_parse_options.specs.CustomOptions.{denotes, SpellsOptions}
use Rattle.protobuf_parse_options.specs.CustomFaults.{custom_option_faults, custom_statement_faults}

-- where something is wrong there are none
abbrev pub bytes_unless : List Fault → List ℕ → List ℕ
bytes_unless [] bytes = bytes
bytes_unless (f ∷ fs) bytes = []

-- what the statements of a construct become
abbrev pub spelled_at : OptionScope → Construct → List OptionSyntax → List ℕ
spelled_at at construct os =
    bytes_unless (custom_statement_faults at construct os) (encoded (denotes at construct os))

-- the same, by construct and scope, in a file that reaches the first files and sees the second
abbrev pub option_bytes : (files visible : List FileDescriptor) → CustomBytes
option_bytes files visible = λ construct scope os.
    spelled_at (record { files = files; visible = visible; scope = scope }) construct os

-- what custom options become in a file that reaches the first files and sees the second
abbrev pub customs_by_files : (files visible : List FileDescriptor) → Customs
customs_by_files files visible = record {
  faults = λ construct scope os. custom_statement_faults
      (record { files = files; visible = visible; scope = scope })
      construct os;
  bytes = option_bytes files visible;
}

-- Where no fault stands in the custom options of a file, these bytes spell what they denote.
abbrev pub OptionBytesSpell : Type 0
OptionBytesSpell =
    (files visible : List FileDescriptor) (t : FileSyntax)
    → HasSmallValues files → custom_option_faults files visible t ≡ []
    → SpellsOptions files visible t (option_bytes files visible)
