-- The identifiers of a path's text make the text again.
use Rattle.std.proofs.Common.{sym}
use Rattle.protobuf_parse_base.proofs.NameTexts.{relative_text-idents}
use Rattle.protobuf_parse_base.proofs.names.relative.ProtobufRelPathRef.as_str.Goals as goal

pub returns-clause-joined : goal.returns-clause-joined
returns-clause-joined c = sym (relative_text-idents _)
