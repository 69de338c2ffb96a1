use Rattle.std.proofs.Common.{◌∙◌, List, ap, map, refl, subst, sym}
use Rattle.protobuf_parse_model.specs.Descriptors.{FileDescriptor, file_view}
use Rattle.protobuf_parse_set_rules.specs.Sights.{Paths, paths_of, publics_of}
use Rattle.protobuf_parse_set_rules.specs.Steps.{GoBack}
use Rattle.protobuf_parse_set_rules.specs.Types.{set_types, type_named}
use Rattle.protobuf_parse_set_rules.specs.Held.{lists_view, positions_view, types_view}
use Rattle.protobuf_parse_set_rules.proofs.Knowing.{known_same, types_known}
use Rattle.protobuf_parse_set_rules.proofs.Ways.{publics_back}
use Rattle.protobuf_parse_set_rules.proofs.imports.known_of.Goals as goal

pub invariant_of-result : goal.invariant_of-result
invariant_of-result c =
    let files : List FileDescriptor = map file_view c.args.files.now in
    record {
      back = subst GoBack (sym c.in_ok-publics.ensures)
          (publics_back (positions_view c.in_ok-paths.paths) files);
    }

pub returns : goal.returns
returns c = λ all.
    let files : List FileDescriptor = map file_view c.args.files.now in
    let paths : Paths = positions_view c.in_ok-paths.paths in
    known_same paths (paths_of files) (lists_view c.in_ok-publics.publics.items)
    (publics_of (paths_of files) files) (types_view c.args.types.now c.in_ok-names.names)
    (type_named (set_types files)) _ _ refl refl c.in_ok-paths.ensures
    (c.in_ok-publics.ensures ∙ ap (λ (p : Paths). publics_of p files) c.in_ok-paths.ensures)
    (types_known c.args.types.now c.in_ok-names.names files c.in_ok-names.ensures all)
