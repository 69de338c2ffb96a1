use Rattle.std.proofs.Common.{◌≡◌, ◌++◌, map, take, flat_map}
use Rattle.protobuf_parse_model.specs.SeenFiles.{environment_in}
use Rattle.protobuf_parse_model.specs.Descriptors.{method_view}
use Rattle.protobuf_parse_model.specs.Faults.{found}
use Rattle.protobuf_parse_elaboration.specs.Parts.{methods_seen}
use Rattle.protobuf_parse_elaboration.specs.Services.{method_faults, method_of}
use Rattle.protobuf_parse_elaboration.proofs.constructs.service.method_descriptors.Given as goal

abbrev pub invariant-loop-method : goal.invariant-loop-method
invariant-loop-method g l =
    let env = environment_in (g.C.CustomOptions.customs l.at.custom.now) l.at.context in
    let seen = methods_seen (take l.method-index l.methods) in
    record {
      told : found l.faults ≡ found l.initial.faults ++ flat_map (method_faults env) seen;
      all : map method_view l.descriptors.items ≡ map (method_of env) seen;
    }
