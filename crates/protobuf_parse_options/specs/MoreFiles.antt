-- What custom options mean where more files are at hand than those that their file reaches.
--
-- In options in which nothing is wrong each name keeps its meaning, where no full name is declared
-- twice in all of these files. Of others nothing is said: by more files they may be right.
use Rattle.std.specs.Prelude.{◌≡◌, ℤ, true, List, [], Some}
use Rattle.protobuf_parse_syntax.specs.Trees.{OptionSyntax}
use Rattle.protobuf_parse_model.specs.Descriptors.{Text, FieldDescriptor, FileDescriptor}
use Rattle.protobuf_parse_model.specs.Declarations.{Scope, Declared}
use Rattle.protobuf_parse_model.specs.Linking.{link_faults}
use Rattle.protobuf_parse_model.specs.declared.customs.Construct.{Construct}
use Rattle.protobuf_parse_elaboration.specs.FilesByPath.{Trees, trees_at}
use Rattle.protobuf_parse_options.specs.OptionFields.{OptionScope, field_named, number_of_value}
use Rattle.protobuf_parse_options.specs.OptionFields.{names_message, extension_meant}
use Rattle.protobuf_parse_options.specs.CustomOptions.{denotes}
use Rattle.protobuf_parse_options.specs.CustomFaults.{custom_statement_faults}
use Rattle.protobuf_parse_options.specs.DescriptorsByPath.{Environments, descriptors_at}
use Rattle.protobuf_parse_options.specs.DescriptorsByPath.{HasFileScopes, AreWithin}

-- What a name means from the first it means from the second; from there other names may mean
-- something too.
pub record KeepsLookups (at at' : OptionScope) : Type 0 where
  pub fields :
      (message name : Text) (f : FieldDescriptor)
      → field_named at.files message name ≡ Some f → field_named at'.files message name ≡ Some f
  pub values :
      (enum_name name : Text) (z : ℤ)
      → number_of_value at.files enum_name name ≡ Some z
      → number_of_value at'.files enum_name name ≡ Some z
  pub messages :
      (name : Text) → names_message at.files name ≡ true → names_message at'.files name ≡ true
  pub extensions :
      (name : Text) (d : Declared FieldDescriptor)
      → extension_meant at name ≡ Some d → extension_meant at' name ≡ Some d

-- Of the statements of a construct: nothing is wrong in them from the second, and from there they
-- denote what they denote from the first.
pub record KeepsMeaning (at at' : OptionScope) (construct : Construct)
    (os : List OptionSyntax) : Type 0 where
  pub faultless : custom_statement_faults at' construct os ≡ []
  pub same : denotes at' construct os ≡ denotes at construct os

-- Where names keep their meaning, statements in which nothing is wrong keep theirs.
abbrev pub LookupsKeepMeaning : Type 0
LookupsKeepMeaning =
    (at at' : OptionScope) → KeepsLookups at at'
    → (construct : Construct) (os : List OptionSyntax)
    → custom_statement_faults at construct os ≡ [] → KeepsMeaning at at' construct os

-- what is seen from a scope in a file that sees the files `visible`, by the descriptors of the
-- paths
abbrev pub option_scope_at : Trees → Environments
    → (paths : List Text) (visible : List FileDescriptor)
    → Scope → OptionScope
option_scope_at trees env paths visible scope = record {
  files = descriptors_at trees env paths;
  visible = visible;
  scope = scope;
}

-- Statements in which nothing is wrong by some files keep their meaning by these and others, where
-- no full name is declared twice in all of them.
abbrev pub MoreFilesKeepMeaning : Type 0
MoreFilesKeepMeaning =
    (trees : Trees) (env : Environments) (reached more : List Text)
    → HasFileScopes trees env → AreWithin reached more → link_faults (trees_at trees more) ≡ []
    → (visible : List FileDescriptor) (scope : Scope) (construct : Construct)
    (os : List OptionSyntax)
    → (let at : OptionScope = option_scope_at trees env reached visible scope in
    custom_statement_faults at construct os ≡ []
    → KeepsMeaning at (option_scope_at trees env more visible scope) construct os)
