-- What a tree shows of the rules of texts, in the order of the text: a file names its package once
-- (Protocol Buffers Language Specification (proto3), "Proto file", https://protobuf.dev), and no
-- message sets `map_entry` (the comment of that option in google/protobuf/descriptor.proto). How a
-- statement ends and begins a tree doesn't tell: T10, T11 and T12 stand here at each statement that
-- they may be of.
use Rattle.std.specs.Prelude.{Bool, true, false, List, [], ◌∷◌, ◌++◌, flat_map, map}
use Rattle.protobuf_parse_syntax.specs.Trees.{EnumStatementSyntax, EnumSyntax, FileSyntax}
use Rattle.protobuf_parse_syntax.specs.Trees.{MessageStatementList, MessageStatementSyntax}
use Rattle.protobuf_parse_syntax.specs.Trees.{MethodSyntax, OneofStatementSyntax, OneofSyntax}
use Rattle.protobuf_parse_syntax.specs.Trees.{OptionStatementSyntax, OptionSyntax, ServiceSyntax}
use Rattle.protobuf_parse_syntax.specs.Trees.{ServiceStatementSyntax, StatementSyntax}
use Rattle.protobuf_parse_syntax.specs.Trees.{enum_option, enum_value, file_enum, file_extend}
use Rattle.protobuf_parse_syntax.specs.Trees.{file_message, file_option, file_package, file_service}
use Rattle.protobuf_parse_syntax.specs.Trees.{message_enum, message_extend, message_extensions}
use Rattle.protobuf_parse_syntax.specs.Trees.{message_field, message_message, message_oneof}
use Rattle.protobuf_parse_syntax.specs.Trees.{message_option, more_statements, nested_message}
use Rattle.protobuf_parse_syntax.specs.Trees.{no_statements, oneof_field, oneof_option}
use Rattle.protobuf_parse_syntax.specs.Trees.{service_method, service_option}
use Rattle.protobuf_parse_text_rules.specs.Breaches.{TextBreach, breach, breach_if}
use Rattle.protobuf_parse_text_rules.specs.Fields.{extend_breaches, statement_breaches}
use Rattle.protobuf_parse_text_rules.specs.Options.{entry_breaches, option_breaches}
use Rattle.protobuf_parse_text_rules.specs.declared.rule.TextRule.TheVariants as rule

-- ---- oneofs

-- the option that a statement of a oneof sets
abbrev pub option_in_oneof : OneofStatementSyntax → List OptionSyntax
option_in_oneof (oneof_option o) = o.option ∷ []
option_in_oneof (oneof_field f) = []

-- what is wrong with its field
abbrev pub inside_oneof : OneofStatementSyntax → List TextBreach
inside_oneof (oneof_option o) = []
inside_oneof (oneof_field f) = statement_breaches f

-- T12 of a oneof, and what is wrong in it
abbrev pub oneof_breaches : OneofSyntax → List TextBreach
oneof_breaches o = breach rule.SemicolonAlone o.place o.name
    ∷ (option_breaches (flat_map option_in_oneof o.body) ++ flat_map inside_oneof o.body)

-- ---- enums

-- the option that a statement of an enum sets
abbrev pub option_in_enum : EnumStatementSyntax → List OptionSyntax
option_in_enum (enum_option o) = o.option ∷ []
option_in_enum _ = []

-- T10 at its value, and what is wrong with the options of that
abbrev pub inside_enum : EnumStatementSyntax → List TextBreach
inside_enum (enum_value v) =
    breach rule.StatementWithoutSemicolon v.place v.name ∷ option_breaches v.options
inside_enum _ = []

-- of an enum
abbrev pub enum_breaches : EnumSyntax → List TextBreach
enum_breaches e =
    option_breaches (flat_map option_in_enum e.body) ++ flat_map inside_enum e.body

-- ---- messages

-- the option that a statement of a message sets
abbrev pub option_in_message : MessageStatementSyntax → List OptionSyntax
option_in_message (message_option o) = o.option ∷ []
option_in_message _ = []

-- those that statements of a message set
abbrev pub options_among : MessageStatementList → List OptionSyntax
options_among no_statements = []
options_among (more_statements s ss) = option_in_message s ++ options_among ss

-- what is wrong with a message's own options
abbrev pub own_breaches : List OptionSyntax → List TextBreach
own_breaches options = option_breaches options ++ entry_breaches options

abbrev mutual
  -- what is wrong with a statement of a message
  pub inside_message : MessageStatementSyntax → List TextBreach
  inside_message (message_field f) = statement_breaches f
  inside_message (message_oneof o) = oneof_breaches o
  inside_message (message_extend e) = extend_breaches e
  inside_message (message_enum e) = enum_breaches e
  inside_message (message_extensions e) =
      breach rule.StatementWithoutSemicolon e.place [] ∷ []
  inside_message (message_message place name body) =
      own_breaches (options_among body) ++ all_inside body
  inside_message _ = []

  -- with all statements of a body
  pub all_inside : MessageStatementList → List TextBreach
  all_inside no_statements = []
  all_inside (more_statements s ss) = inside_message s ++ all_inside ss

-- ---- services

-- the option that a statement of a service sets
abbrev pub option_in_service : ServiceStatementSyntax → List OptionSyntax
option_in_service (service_option o) = o.option ∷ []
option_in_service (service_method m) = []

-- an option's statement as the option that it sets
abbrev pub option_of : OptionStatementSyntax → OptionSyntax
option_of s = s.option

-- T11 at a method, and what is wrong with its options
abbrev pub method_breaches : MethodSyntax → List TextBreach
method_breaches m =
    breach rule.MethodWithoutRpc m.place m.name ∷ option_breaches (map option_of m.options)

-- of a statement of a service
abbrev pub inside_service : ServiceStatementSyntax → List TextBreach
inside_service (service_method m) = method_breaches m
inside_service (service_option o) = []

-- of a service
abbrev pub service_breaches : ServiceSyntax → List TextBreach
service_breaches s =
    option_breaches (flat_map option_in_service s.body) ++ flat_map inside_service s.body

-- ---- files

-- the option that a statement of a file sets
abbrev pub option_in_file : StatementSyntax → List OptionSyntax
option_in_file (file_option o) = o.option ∷ []
option_in_file _ = []

-- T5 at each `package` statement behind another one
abbrev pub packages_behind : (before : Bool) → List StatementSyntax → List TextBreach
packages_behind before [] = []
packages_behind before (file_package p ∷ ss) =
    breach_if before rule.PackageTwice p.place p.name ++ packages_behind true ss
packages_behind before (s ∷ ss) = packages_behind before ss

-- what is wrong with a statement of a file
abbrev pub inside_file : StatementSyntax → List TextBreach
inside_file (file_message m) = inside_message (nested_message m)
inside_file (file_enum e) = enum_breaches e
inside_file (file_extend e) = extend_breaches e
inside_file (file_service s) = service_breaches s
inside_file _ = []

-- with a file
abbrev pub tree_breaches : FileSyntax → List TextBreach
tree_breaches t =
    packages_behind false t.statements
    ++ (option_breaches (flat_map option_in_file t.statements)
    ++ flat_map inside_file t.statements)
