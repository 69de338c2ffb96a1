use Rattle.std.proofs.Common.{List, flat_map, subst}
use Rattle.protobuf_parse_model.specs.Descriptors.{Text}
use Rattle.protobuf_parse_model.specs.Faults.{Passes}
use Rattle.protobuf_parse_model.specs.TableParts.{name_faults}
use Rattle.protobuf_parse_model.proofs.linking.check_file.Goals as goal

pub returns : goal.returns
returns c =
    subst (λ (names : List Text). Passes c.check_names.result
    (flat_map (name_faults c.args.seen.now) names))
    c.listed_names.ensures c.check_names.ensures
