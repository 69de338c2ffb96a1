-- No public clause rests on this file.
-- What the code lists of what a file declares.
use Rattle.std.specs.Prelude.{string_bytes}
use Rattle.protobuf_parse_model.specs.declared.declared_at.DeclaredAt as code
use Rattle.protobuf_parse_model.specs.DeclaredAt.{DeclaredAt}

-- the same of what the code gives
abbrev pub declared_at_view : code.DeclaredAt → DeclaredAt
declared_at_view d =
    record { name = string_bytes d.name; what = record { kind = d.kind; place = d.place } }
