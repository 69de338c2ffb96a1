-- Services and files, as walks.
use Rattle.std.specs.Prelude.{ℕ, Bool, true, false, List, [], ◌∷◌, fold, codes}
use Rattle.protobuf_parse_syntax.specs.Trees.{OptionStatementSyntax, MethodSyntax, ServiceSyntax}
use Rattle.protobuf_parse_syntax.specs.Trees.{ServiceStatementSyntax, service_method}
use Rattle.protobuf_parse_syntax.specs.Trees.{service_option, ImportSyntax, StatementSyntax}
use Rattle.protobuf_parse_syntax.specs.Trees.{file_import, file_package, file_option, file_message}
use Rattle.protobuf_parse_syntax.specs.Trees.{file_enum, file_extend, file_service}
use Rattle.protobuf_parse_syntax.specs.declared.tree.ImportVis.{ImportVis}
use Rattle.protobuf_parse_syntax.specs.declared.tree.ImportVis.TheVariants as vis
use Rattle.protobuf_parse_source_info.specs.Spots.{Spot, start}
use Rattle.protobuf_parse_source_info.specs.Walks.{Path, Walk, Ahead, nothing, ◌>>◌}
use Rattle.protobuf_parse_source_info.specs.Walks.{if_next, sees, one as token, part, declared}
use Rattle.protobuf_parse_source_info.specs.Walks.{seeing, empties, up_to_end}
use Rattle.protobuf_parse_source_info.specs.Parts.{at, nth, next, name, head, option_statement}
use Rattle.protobuf_parse_source_info.specs.Parts.{option_block}
use Rattle.protobuf_parse_source_info.specs.Fields.{Owner, field_counted}
use Rattle.protobuf_parse_source_info.specs.Declarations.{enum_walk, extend_walk, message_walk}
use Rattle.protobuf_parse_source_info.specs.declared.counts.FieldCounts.{FieldCounts}
use Rattle.protobuf_parse_source_info.specs.declared.counts.FileCounts.{FileCounts}
use Rattle.protobuf_parse_source_info.specs.declared.token.Point.{Point}

-- ---- methods

-- the word `stream`, where it stands
unfoldable pub stream_word : Path → Bool → Walk
stream_word p true = part p token
stream_word p false = nothing

-- "(" [ "stream" ] name ")", by the numbers of the word and of the name
unfoldable pub streamed : Path → ℕ → ℕ → Bool → Walk
streamed p n m stands =
    token  -- `(`
    >> stream_word (at p n) stands
    >> part (at p m) name
    >> token  -- `)`

-- "rpc" ident "(" [ "stream" ] name ")" "returns" "(" [ "stream" ] name ")"
unfoldable pub rpc_head : Path → MethodSyntax → Walk
rpc_head p m =
    token  -- `rpc`
    >> part (at p 1) token  -- name
    >> streamed p 5 2 m.client_streaming  -- client_streaming, input_type
    >> token  -- `returns`
    >> streamed p 6 3 m.server_streaming  -- server_streaming, output_type

-- "stream" ident "(" name "," name ")"
unfoldable pub stream_head : Path → Walk
stream_head p =
    token  -- `stream`
    >> part (at p 1) token  -- name
    >> token  -- `(`
    >> part (at p 2) name  -- input_type
    >> token  -- `,`
    >> part (at p 3) name  -- output_type
    >> token  -- `)`

-- what stands before the `;` or the block of a method
unfoldable pub method_head : Path → MethodSyntax → Walk
method_head p m = if_next (codes "stream") (stream_head p) (rpc_head p m)

-- behind the `{` of a block: its options, and `}`; behind a `;` nothing
unfoldable pub method_block : Path → Bool → List OptionStatementSyntax → Walk
method_block p true os = option_block (at p 4) os >> token  -- options
method_block p false os = nothing

-- a block stands behind the head
abbrev pub has_block : Path → MethodSyntax → Ahead → Bool
has_block p m a = sees (codes "{") (method_head p m a).left

-- a method, with its block or without
unfoldable pub method_walk : Path → MethodSyntax → Walk
method_walk p m = seeing (λ a.
    declared p (method_head p m >> token) (method_block p (has_block p m a) m.options))

-- ---- services

-- a statement of a service, before which so many methods stand
unfoldable pub service_statement : Path → ℕ → ServiceStatementSyntax → Walk
service_statement p i (service_method m) = method_walk (nth p 2 i) m  -- method
service_statement p i (service_option o) = option_statement (at p 3) o  -- options

-- how many methods stand behind it
abbrev pub methods_past : ℕ → ServiceStatementSyntax → ℕ
methods_past i (service_method m) = next i
methods_past i (service_option o) = i

-- the statements before which so many stand, with empty ones between them
unfoldable pub service_body : Path → ℕ → List ServiceStatementSyntax → Walk
service_body p i [] = empties
service_body p i (s ∷ ss) =
    empties >> service_statement p i s >> service_body p (methods_past i s) ss

-- "service" ident "{" { rpc | stream | option | ";" } "}"
unfoldable pub service_walk : Path → ServiceSyntax → Walk
service_walk p s = declared p (head p) (service_body p 0 s.body >> token)

-- ---- files

-- "syntax" "=" str ";"
unfoldable pub syntax_walk : Walk
syntax_walk = declared (12 ∷ []) (token >> up_to_end >> token) nothing  -- syntax

-- the same, if it stands there
unfoldable pub version_walk : Walk
version_walk = if_next (codes "syntax") syntax_walk nothing

-- the word behind `import`, with the index of the import among those that have it
unfoldable pub visibility : FileCounts → ImportVis → Walk
visibility c vis.Default = nothing
visibility c vis.Public = part (10 ∷ c.publics ∷ []) token  -- public_dependency
visibility c vis.Weak = part (11 ∷ c.weaks ∷ []) token  -- weak_dependency

-- "import" [ "weak" | "public" ] str ";"
unfoldable pub import_walk : FileCounts → ImportSyntax → Walk
import_walk c i =
    declared (3 ∷ c.imports ∷ [])  -- dependency
    (token  -- `import`
    >> visibility c i.vis
    >> up_to_end
    >> token) nothing  -- `;`

-- "package" ident { "." ident } ";"
unfoldable pub package_walk : Walk
package_walk = declared (2 ∷ []) (token >> name >> token) nothing  -- package

-- Extensions of a file: `extension` and `message_type`.
abbrev pub extensions_in_file : Owner
extensions_in_file = record { path = []; fields = 7; messages = 4 }

-- the extensions of a file, and the messages of their groups
abbrev pub extensions_of : FileCounts → FieldCounts
extensions_of c = record { fields = c.extensions; messages = c.messages }

-- with so many
abbrev pub with_extensions : FileCounts → FieldCounts → FileCounts
with_extensions c f = record c { extensions = f.fields; messages = f.messages }

-- a statement of a file, before which so many stand
unfoldable pub statement : FileCounts → StatementSyntax → Walk
statement c (file_import i) = import_walk c i
statement c (file_package p) = package_walk
statement c (file_option o) = option_statement (8 ∷ []) o  -- options
statement c (file_message m) = message_walk (4 ∷ c.messages ∷ []) m  -- message_type
statement c (file_enum e) = enum_walk (5 ∷ c.enums ∷ []) e  -- enum_type
statement c (file_extend e) = extend_walk extensions_in_file (extensions_of c) e
statement c (file_service s) = service_walk (6 ∷ c.services ∷ []) s  -- service

-- how many public imports stand behind an import
abbrev pub publics_past : ℕ → ImportVis → ℕ
publics_past i vis.Default = i
publics_past i vis.Public = next i
publics_past i vis.Weak = i

-- the same of weak imports
abbrev pub weaks_past : ℕ → ImportVis → ℕ
weaks_past i vis.Default = i
weaks_past i vis.Public = i
weaks_past i vis.Weak = next i

-- how many of each stand behind a statement of a file
abbrev pub counted : FileCounts → StatementSyntax → FileCounts
counted c (file_import i) = record c {
  imports = next c.imports;
  publics = publics_past c.publics i.vis;
  weaks = weaks_past c.weaks i.vis;
}
counted c (file_package p) = c
counted c (file_option o) = c
counted c (file_message m) = record c { messages = next c.messages }
counted c (file_enum e) = record c { enums = next c.enums }
counted c (file_extend e) = with_extensions c (fold field_counted (extensions_of c) e.fields)
counted c (file_service s) = record c { services = next c.services }

-- before the first statement of a file
abbrev pub no_statements : FileCounts
no_statements = record {
  imports = 0;
  publics = 0;
  weaks = 0;
  messages = 0;
  enums = 0;
  extensions = 0;
  services = 0;
}

-- the statements before which so many stand, with empty ones between them
unfoldable pub file_body : FileCounts → List StatementSyntax → Walk
file_body c [] = empties
file_body c (s ∷ ss) = empties >> statement c s >> file_body (counted c s) ss

-- [ syntax ] { import | package | option | message | enum | extend | service | ";" }
unfoldable pub file_walk : List StatementSyntax → Walk
file_walk ss = part [] (version_walk >> file_body no_statements ss)

-- the point at the front of a text
abbrev pub front : Point
front = record { byte = 0; place = start }

-- Before the first token of a text, which ends there.
abbrev pub whole : Point → List Spot → Ahead
whole end spots = record { skipped = []; last = front; tokens = spots; end = end }
