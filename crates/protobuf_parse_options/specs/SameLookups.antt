-- No public clause rests on this file.
-- What the custom options of a construct denote and what is wrong in them is decided by what names
-- mean there: which field of a message has a name, which number a value of an enum, what is a
-- message, and which extension a name means. Nothing else of the files counts.
use Rattle.std.specs.Prelude.{◌≡◌, List}
use Rattle.protobuf_parse_syntax.specs.Trees.{OptionSyntax}
use Rattle.protobuf_parse_model.specs.Descriptors.{Text}
use Rattle.protobuf_parse_model.specs.declared.customs.Construct.{Construct}
use Rattle.protobuf_parse_options.specs.OptionFields.{OptionScope, field_named, number_of_value}
use Rattle.protobuf_parse_options.specs.OptionFields.{names_message, extension_meant}
use Rattle.protobuf_parse_options.specs.CustomOptions.{denotes}
use Rattle.protobuf_parse_options.specs.CustomFaults.{custom_statement_faults}

-- names mean the same from both
pub record SameLookups (at at' : OptionScope) : Type 0 where
  pub fields :
      (message name : Text)
      → field_named at.files message name ≡ field_named at'.files message name
  pub values :
      (enum_name name : Text)
      → number_of_value at.files enum_name name ≡ number_of_value at'.files enum_name name
  pub messages : (name : Text) → names_message at.files name ≡ names_message at'.files name
  pub extensions : (name : Text) → extension_meant at name ≡ extension_meant at' name

-- Where names mean the same, the same is wrong.
abbrev pub LookupsDecideFaults : Type 0
LookupsDecideFaults =
    (at at' : OptionScope) → SameLookups at at'
    → (construct : Construct) (os : List OptionSyntax)
    → custom_statement_faults at construct os ≡ custom_statement_faults at' construct os

-- Where names mean the same, options denote the same.
abbrev pub LookupsDecideMeaning : Type 0
LookupsDecideMeaning =
    (at at' : OptionScope) → SameLookups at at'
    → (construct : Construct) (os : List OptionSyntax)
    → denotes at construct os ≡ denotes at' construct os
