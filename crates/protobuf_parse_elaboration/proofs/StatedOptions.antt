-- The options that statements set are those of what is seen of them.
use Rattle.std.proofs.Common.{◌≡◌, List, [], ◌∷◌, ◌++◌, flat_map, map, refl, ap}
use Rattle.protobuf_parse_syntax.specs.Trees.{enum_statement_syntax}
use Rattle.protobuf_parse_syntax.specs.InnerViews.{message_statement_syntax}
use Rattle.protobuf_parse_syntax.specs.Trees.{option_statement_syntax, statement_syntax}
use Rattle.protobuf_parse_syntax.specs.Trees.{oneof_statement_syntax, service_statement_syntax}
use Rattle.protobuf_parse_syntax.specs.declared.tree.option.OptionStatement.{OptionStatement}
use Rattle.protobuf_parse_syntax.specs.declared.tree.declaration.EnumStatement.{EnumStatement}
use Rattle.protobuf_parse_syntax.specs.declared.tree.FileStatement.{FileStatement}
use Rattle.protobuf_parse_syntax.specs.declared.tree.declaration.MessageStatement.{MessageStatement}
use Rattle.protobuf_parse_syntax.specs.declared.tree.declaration.OneOfStatement.{OneOfStatement}
use Rattle.protobuf_parse_syntax.specs.declared.tree.declaration.ServiceStatement.{ServiceStatement}
use Rattle.protobuf_parse_model.specs.Statements.{oneof_statement_options}
use Rattle.protobuf_parse_elaboration.specs.Enums.{options_in_enum}
use Rattle.protobuf_parse_elaboration.specs.FileDescriptor.{options_in_file}
use Rattle.protobuf_parse_elaboration.specs.Messages.{options_in_message}
use Rattle.protobuf_parse_elaboration.specs.Services.{options_in_service, statement_option}

pub set_seen : {A B C : Type 0} (set : B → List C) (view : A → B) (xs : List A)
    → flat_map (λ x. set (view x)) xs ≡ flat_map set (map view xs)
set_seen set view [] = refl
set_seen set view (x ∷ xs) = ap (λ l. set (view x) ++ l) (set_seen set view xs)

pub file_options_set : (ss : List FileStatement)
    → flat_map (λ (s : FileStatement). options_in_file (statement_syntax s)) ss
    ≡ flat_map options_in_file (map statement_syntax ss)
file_options_set ss = set_seen options_in_file statement_syntax ss

pub message_options_set : (ss : List MessageStatement)
    → flat_map (λ (s : MessageStatement). options_in_message (message_statement_syntax s)) ss
    ≡ flat_map options_in_message (map message_statement_syntax ss)
message_options_set ss = set_seen options_in_message message_statement_syntax ss

pub oneof_options_set : (ss : List OneOfStatement)
    → flat_map (λ (s : OneOfStatement). oneof_statement_options (oneof_statement_syntax s)) ss
    ≡ flat_map oneof_statement_options (map oneof_statement_syntax ss)
oneof_options_set ss = set_seen oneof_statement_options oneof_statement_syntax ss

pub enum_options_set : (ss : List EnumStatement)
    → flat_map (λ (s : EnumStatement). options_in_enum (enum_statement_syntax s)) ss
    ≡ flat_map options_in_enum (map enum_statement_syntax ss)
enum_options_set ss = set_seen options_in_enum enum_statement_syntax ss

pub service_options_set : (ss : List ServiceStatement)
    → flat_map (λ (s : ServiceStatement). options_in_service (service_statement_syntax s)) ss
    ≡ flat_map options_in_service (map service_statement_syntax ss)
service_options_set ss = set_seen options_in_service service_statement_syntax ss

pub method_options_set : (ss : List OptionStatement)
    → flat_map (λ (s : OptionStatement). statement_option (option_statement_syntax s) ∷ []) ss
    ≡ map statement_option (map option_statement_syntax ss)
method_options_set [] = refl
method_options_set (s ∷ ss) =
    ap (λ l. statement_option (option_statement_syntax s) ∷ l) (method_options_set ss)
