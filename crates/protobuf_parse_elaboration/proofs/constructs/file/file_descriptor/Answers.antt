use Rattle.std.proofs.Common.{◌∙◌, ◌++◌, List, ap}
use Rattle.protobuf_parse_syntax.specs.Trees.{file_syntax}
use Rattle.protobuf_parse_model.specs.SeenFiles.{seen_types, name_texts}
use Rattle.protobuf_parse_model.specs.Descriptors.{Text}
use Rattle.protobuf_parse_model.specs.Environment.{Environment}
use Rattle.protobuf_parse_model.specs.Faults.{found}
use Rattle.protobuf_parse_elaboration.specs.FileDescriptor.{file_faults, file_of}
use Rattle.protobuf_parse_elaboration.proofs.Gathering.{if_ok, on_ok}
use Rattle.protobuf_parse_elaboration.proofs.constructs.file.file_descriptor.Goals as goal

pub returns-clause-value : goal.returns-clause-value
returns-clause-value g c =
    let t = file_syntax c.args.tree.now in
    let within : List Text → Environment = λ scope.
    record {
      syntax = t.syntax;
      types = seen_types c.args.seen.now;
      scope = scope;
      customs = g.C.CustomOptions.customs c.args.custom.now;
    } in
    if_ok c.descriptor_in.result (λ d h. h ∙ ap (λ scope. file_of (within scope) c.args.name.now t)
    (ap name_texts c.deref.ensures.value ∙ c.in_ok-scope.ensures)) c.descriptor_in.ensures.value

pub returns-clause-faults : goal.returns-clause-faults
returns-clause-faults g c =
    let t = file_syntax c.args.tree.now in
    let within : List Text → Environment = λ scope.
    record {
      syntax = t.syntax;
      types = seen_types c.args.seen.now;
      scope = scope;
      customs = g.C.CustomOptions.customs c.args.custom.now;
    } in
    on_ok c.descriptor_in.result (λ h. h
    ∙ ap (λ scope. found c.args.faults.now ++ file_faults (within scope) t)
    (ap name_texts c.deref.ensures.value ∙ c.in_ok-scope.ensures)) c.descriptor_in.ensures.faults
