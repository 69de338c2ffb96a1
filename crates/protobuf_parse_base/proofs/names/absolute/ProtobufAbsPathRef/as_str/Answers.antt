-- The identifiers of a path's text make the text again.
use Rattle.std.proofs.Common.{sym}
use Rattle.protobuf_parse_base.proofs.NameTexts.{absolute_text-idents}
use Rattle.protobuf_parse_base.proofs.names.absolute.ProtobufAbsPathRef.as_str.Goals as goal

pub returns-clause-joined : goal.returns-clause-joined
returns-clause-joined c = sym (absolute_text-idents _ c.args.self.well_formed)
