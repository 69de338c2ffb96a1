use Rattle.std.proofs.Common.{◌∙◌, ap, subst, Option, Result, Ok}
use Rattle.protobuf_parse_base.specs.PathViews.{path_text}
use Rattle.protobuf_parse_model.specs.Descriptors.{Text}
use Rattle.protobuf_parse_run.specs.declared.fault.ResolveFault.{ResolveFault}
use Rattle.protobuf_parse_run.specs.declared.source.ResolvedProtoFile.{ResolvedProtoFile}
use Rattle.protobuf_parse.proofs.FoundFirst.{found_later}
use Rattle.protobuf_parse.proofs.parser.search.first_found.Goals as goal

pub loop-include-init : goal.loop-include-init
loop-include-init g c = λ answer h. h

pub loop-include-preserved : goal.loop-include-preserved
loop-include-preserved g c =
    let May = λ (include : Text) (found : Result (Option ResolvedProtoFile) ResolveFault).
    g.L.LooksInIncludes.may_find c.args.looks.now include (path_text c.args.path) found in
    λ answer h. c.loop-include.invariant answer (found_later May c.args.includes.now
    c.loop-include.include-index c.include-item.result c.deref.result.now
    c.loop-include-test.true c.include-item.is c.deref.ensures
    (subst (λ r. May c.deref.result.now r) (c.in-Ok-None.is ∙ ap Ok c.in-Ok-None.field-0-is)
    c.look_in.ensures) answer h)
