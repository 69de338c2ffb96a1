use Rattle.std.proofs.Common.{◌∙◌, ◌++◌, Option, ap}
use Rattle.protobuf_parse_syntax.specs.Trees.{file_syntax}
use Rattle.protobuf_parse_model.specs.Declarations.{DeclaredType, file_scope}
use Rattle.protobuf_parse_model.specs.Descriptors.{Text}
use Rattle.protobuf_parse_model.specs.Environment.{Environment}
use Rattle.protobuf_parse_model.specs.Faults.{found}
use Rattle.protobuf_parse_elaboration.specs.FileDescriptor.{file_faults, file_of}
use Rattle.protobuf_parse_model.proofs.Sights.{seen_types_are}
use Rattle.protobuf_parse_elaboration.proofs.Gathering.{if_ok, on_ok}
use Rattle.protobuf_parse_elaboration.proofs.constructs.elaborate_all.Goals as goal

pub returns-clause-value : goal.returns-clause-value
returns-clause-value g c files told =
    let t = file_syntax c.args.tree.now in
    let sees : (Text → Option DeclaredType) → Environment = λ types.
    record {
      syntax = t.syntax;
      types = types;
      scope = file_scope t;
      customs = g.C.CustomOptions.customs c.args.custom.now;
    } in
    if_ok c.file_descriptor.result (λ d h. h ∙ ap (λ types. file_of (sees types) c.args.name.now t)
    (seen_types_are c.args.seen.now files told)) c.file_descriptor.ensures.value

pub returns-clause-faults : goal.returns-clause-faults
returns-clause-faults g c files told =
    let t = file_syntax c.args.tree.now in
    let sees : (Text → Option DeclaredType) → Environment = λ types.
    record {
      syntax = t.syntax;
      types = types;
      scope = file_scope t;
      customs = g.C.CustomOptions.customs c.args.custom.now;
    } in
    on_ok c.file_descriptor.result (λ h. h
    ∙ ap (λ types. found c.args.faults.now ++ file_faults (sees types) t)
    (seen_types_are c.args.seen.now files told)) c.file_descriptor.ensures.faults
