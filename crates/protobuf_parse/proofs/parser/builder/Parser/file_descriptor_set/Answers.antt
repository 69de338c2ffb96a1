use Rattle.std.proofs.Common.{refl}
use Rattle.protobuf_parse.proofs.Building.{set-of}
use Rattle.protobuf_parse.proofs.parser.builder.Parser.file_descriptor_set.Goals as goal

pub returns-clause-set : goal.returns-clause-set
returns-clause-set g c = (
  c.in_ok-relative_paths.field-0,
  c.in_ok-relative_paths.ensures.parsed,
  set-of _ _ c.in_ok-relative_paths.field-0.relative_paths.items _
      c.in_ok-relative_paths.field-0.file_descriptors.items c.in_ok-file.ensures
      c.deref.ensures.value refl,
)
