use Rattle.std.proofs.Common.{◌∙◌, ap, string_bytes}
use Rattle.std.specs.Prelude.{bytes_eq}
use Rattle.protobuf_parse_locations.specs.Kept.{first_at}
use Rattle.protobuf_parse_locations.specs.declared.declaration.Declaration.{Declaration}
use Rattle.protobuf_parse_locations.proofs.file_locations.FileLocations.of.Goals as goal

pub invariant_of-result : goal.invariant_of-result
invariant_of-result c = record {
  names = λ q. c.in_ok-by_name.ensures q
      ∙ ap (first_at (λ (d : Declaration). bytes_eq q (string_bytes d.full_name)))
      c.deref.ensures.value;
  paths = λ q. c.in_ok-by_path.ensures q
      ∙ ap (first_at (λ (d : Declaration). bytes_eq q d.path.items)) c.deref-2.ensures.value;
  parts = c.in_ok-by_part.ensures;
  whole = c.whole_of.ensures;
}
