-- A file, and the locations that are told of what it declares.
use Rattle.std.proofs.Common.{suc, List, [], ◌∷◌, map, flat_map, length}
use Rattle.std.proofs.Common.{refl, arith}
use Rattle.std.specs.List.{AllByRecursion}
use Rattle.protobuf_parse_lexer.specs.Text.{Bytes}
use Rattle.protobuf_parse_syntax.specs.Trees.{FileSyntax, StatementSyntax, file_enum, file_extend}
use Rattle.protobuf_parse_syntax.specs.Trees.{file_message}
use Rattle.protobuf_parse_syntax.specs.Trees.{file_service, message_statements, package_of}
use Rattle.protobuf_parse_source_info.specs.Declarations.{message_walk}
use Rattle.protobuf_parse_source_info.specs.Files.{counted, extensions_in_file, extensions_of}
use Rattle.protobuf_parse_source_info.specs.Files.{file_body, file_walk, no_statements, statement}
use Rattle.protobuf_parse_source_info.specs.Files.{version_walk, whole}
use Rattle.protobuf_parse_source_info.specs.Info.{info, location}
use Rattle.protobuf_parse_source_info.specs.Parts.{at}
use Rattle.protobuf_parse_source_info.specs.Spots.{Spot, point}
use Rattle.protobuf_parse_source_info.specs.Walks.{Located, Path}
use Rattle.protobuf_parse_source_info.specs.declared.counts.FileCounts.{FileCounts}
use Rattle.protobuf_parse_model.specs.Descriptors.{Text}
use Rattle.protobuf_parse_model.specs.Environment.{Environment, env_inside}
use Rattle.protobuf_parse_elaboration.specs.FileDescriptor.{file_enums_of, file_extensions_of}
use Rattle.protobuf_parse_elaboration.specs.FileDescriptor.{file_messages_of, file_of, services_of}
use Rattle.protobuf_parse_wire.specs.Declarations.{name_within, package_scope}
use Rattle.protobuf_parse_locations.specs.Declarations.{DeclarationAt, enum_at, field_at}
use Rattle.protobuf_parse_locations.specs.Declarations.{service_at}
use Rattle.protobuf_parse_locations.specs.declared.declaration.DeclarationKind.TheVariants as kind
use Rattle.protobuf_parse_location_laws.specs.Law.{DeclarationsAreLocated}
use Rattle.protobuf_parse_location_laws.specs.Law.{DeclarationsOfTextsAreLocated, HasLocation}
use Rattle.protobuf_parse_location_laws.specs.Law.{IsLocated}
use Rattle.protobuf_parse_location_laws.specs.Standing.{InFileStatement}
use Rattle.protobuf_parse_location_laws.specs.Written.{written_declarations, written_message}
use Rattle.protobuf_parse_location_laws.proofs.Enums.{enum_told, service_told}
use Rattle.protobuf_parse_location_laws.proofs.Faultless.{faultless_no_maps}
use Rattle.protobuf_parse_location_laws.proofs.Fields.{extension_messages_listed, extensions_listed}
use Rattle.protobuf_parse_location_laws.proofs.Listing.{Lists, ListsUpTo, behind_statement}
use Rattle.protobuf_parse_location_laws.proofs.Listing.{items_told, no_items, one_item}
use Rattle.protobuf_parse_location_laws.proofs.Listing.{up_to_itself}
use Rattle.protobuf_parse_location_laws.proofs.Messages.{all_nested, message_told}
use Rattle.protobuf_parse_location_laws.proofs.Reading.{oneofs_have_no_labels}
use Rattle.protobuf_parse_location_laws.proofs.Standing.{MayStand, all_may}
use Rattle.protobuf_parse_location_laws.proofs.Walking.{Has, Tells, TellsAll, Within}
use Rattle.protobuf_parse_location_laws.proofs.Walking.{all_within, both, here, in_part, in_second}
use Rattle.protobuf_parse_location_laws.proofs.Walking.{later}

-- ---- the statements of a file

messages_listed : (env : Environment) (scope : Text) (c : FileCounts) (s : StatementSyntax)
    → InFileStatement MayStand s
    → ListsUpTo (written_message scope) [] 4 c.messages (counted c s).messages
    (file_messages_of env s) (statement c s)
unfolding statement message_walk
messages_listed env scope c (file_message m) may =
    let body = message_statements m.body in
    one_item (written_message scope) [] 4 c.messages _ _
    (message_told env scope (4 ∷ c.messages ∷ []) m.name body may
    (all_nested (env_inside env m.name) (name_within scope m.name) (4 ∷ c.messages ∷ []) _ body
    may))
messages_listed env scope c (file_extend e) may =
    extension_messages_listed env scope extensions_in_file (extensions_of c) e may.2
messages_listed env scope c _ may = up_to_itself (written_message scope) [] 4 c.messages _

enums_listed : (env : Environment) (scope : Text) (c : FileCounts) (s : StatementSyntax)
    → ListsUpTo (enum_at scope) [] 5 c.enums (counted c s).enums (file_enums_of env s)
    (statement c s)
unfolding statement
enums_listed env scope c (file_enum e) =
    one_item (enum_at scope) [] 5 c.enums _ _ (enum_told env scope (5 ∷ c.enums ∷ []) e)
enums_listed env scope c _ = up_to_itself (enum_at scope) [] 5 c.enums _

services_listed : (env : Environment) (scope : Text) (c : FileCounts) (s : StatementSyntax)
    → ListsUpTo (service_at scope) [] 6 c.services (counted c s).services (services_of env s)
    (statement c s)
unfolding statement
services_listed env scope c (file_service s) =
    one_item (service_at scope) [] 6 c.services _ _
    (service_told env scope (6 ∷ c.services ∷ []) s)
services_listed env scope c _ = up_to_itself (service_at scope) [] 6 c.services _

extended_listed : (env : Environment) (scope : Text) (c : FileCounts) (s : StatementSyntax)
    → ListsUpTo (field_at kind.Extension scope) [] 7 c.extensions (counted c s).extensions
    (file_extensions_of env s) (statement c s)
unfolding statement
extended_listed env scope c (file_extend e) =
    extensions_listed env scope extensions_in_file (extensions_of c) e
extended_listed env scope c _ = up_to_itself (field_at kind.Extension scope) [] 7 c.extensions _

-- ---- those of all statements

all_messages : (env : Environment) (scope : Text) (c : FileCounts) (ss : List StatementSyntax)
    → AllByRecursion (InFileStatement MayStand) ss
    → Lists (written_message scope) [] 4 c.messages (flat_map (file_messages_of env) ss)
    (file_body c ss)
unfolding file_body
all_messages env scope c [] may = no_items (written_message scope) [] 4 c.messages _
all_messages env scope c (s ∷ ss) may =
    behind_statement _ _ (messages_listed env scope c s may.0)
    (all_messages env scope (counted c s) ss may.1)

all_enums : (env : Environment) (scope : Text) (c : FileCounts) (ss : List StatementSyntax)
    → Lists (enum_at scope) [] 5 c.enums (flat_map (file_enums_of env) ss) (file_body c ss)
unfolding file_body
all_enums env scope c [] = no_items (enum_at scope) [] 5 c.enums _
all_enums env scope c (s ∷ ss) =
    behind_statement _ _ (enums_listed env scope c s) (all_enums env scope (counted c s) ss)

all_services : (env : Environment) (scope : Text) (c : FileCounts) (ss : List StatementSyntax)
    → Lists (service_at scope) [] 6 c.services (flat_map (services_of env) ss) (file_body c ss)
unfolding file_body
all_services env scope c [] = no_items (service_at scope) [] 6 c.services _
all_services env scope c (s ∷ ss) =
    behind_statement _ _ (services_listed env scope c s) (all_services env scope (counted c s) ss)

all_extended : (env : Environment) (scope : Text) (c : FileCounts) (ss : List StatementSyntax)
    → Lists (field_at kind.Extension scope) [] 7 c.extensions
    (flat_map (file_extensions_of env) ss) (file_body c ss)
unfolding file_body
all_extended env scope c [] = no_items (field_at kind.Extension scope) [] 7 c.extensions _
all_extended env scope c (s ∷ ss) =
    behind_statement _ _ (extended_listed env scope c s) (all_extended env scope (counted c s) ss)

-- ---- a file

body_in_file : (ss : List StatementSyntax) → Within (file_body no_statements ss) (file_walk ss)
unfolding file_walk
body_in_file ss = record {
  finds = λ p f. in_part [] _ (in_second version_walk (file_body no_statements ss) f);
}

file_told : (env : Environment) (path : Text) (t : FileSyntax)
    → AllByRecursion (InFileStatement MayStand) t.statements
    → TellsAll (written_declarations (file_of env path t)) (file_walk t.statements)
file_told env path t may =
    let scope = package_scope (package_of t) in
    let ss = t.statements in
    all_within (body_in_file ss)
    (both (both (both (items_told (all_messages env scope no_statements ss may))
    (items_told (all_enums env scope no_statements ss)))
    (items_told (all_services env scope no_statements ss)))
    (items_told (all_extended env scope no_statements ss)))

-- ---- as they are told

located : (text : Bytes) (p : Path) (ls : List Located) → Has p ls
    → HasLocation p (map (location text) ls)
located text p ls (here {l} {ls = ms} e) = (0, location text l, omega arith, refl, e)
located text p ls (later {l} {ls = ms} h) =
    let there = located text p ms h in
    (suc there.0, there.1, omega arith, there.3, there.4)

all_located : (text : Bytes) (spots : List Spot) (t : FileSyntax) (ds : List DeclarationAt)
    → AllByRecursion (λ (d : DeclarationAt). Tells d.path (file_walk t.statements)) ds
    → AllByRecursion (IsLocated (info text spots t)) ds
all_located text spots t [] told = tt
all_located text spots t (d ∷ ds) told =
    let a = whole (point text (length text)) spots in (
      record {
        itself = located text d.path _ (told.0.itself.found a);
        name = located text (at d.path 1) _ (told.0.name.found a);
      },
      all_located text spots t ds told.1,
    )

pub declarations_are_located : DeclarationsAreLocated
declarations_are_located text spots env path t maps oneofs extends =
    all_located text spots t (written_declarations (file_of env path t))
    (file_told env path t (all_may t.statements maps oneofs extends)).each

pub declarations_of_texts_are_located : DeclarationsOfTextsAreLocated
declarations_of_texts_are_located text spots env path t tree maps none =
    declarations_are_located text spots env path t maps
    (oneofs_have_no_labels tree.stream.tokens t tree.file) (faultless_no_maps env t none)
