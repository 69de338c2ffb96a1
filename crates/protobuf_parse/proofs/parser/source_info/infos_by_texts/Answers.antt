use Rattle.std.proofs.Common.{◌++◌, [], ◌∷◌, List, map, subst, sym, take}
use Rattle.protobuf_parse_model.specs.Descriptors.{FileDescriptor, file_view}
use Rattle.protobuf_parse_source_info.specs.declared.info.SourceCodeInfo.{SourceCodeInfo}
use Rattle.protobuf_parse.specs.SourceInfo.{AreInfosOf}
use Rattle.protobuf_parse.proofs.Building.{views-next}
use Rattle.protobuf_parse.proofs.Sourcing.{infos-push}
use Rattle.protobuf_parse.proofs.parser.source_info.infos_by_texts.Goals as goal

pub files-preserved : goal.files-preserved
files-preserved c =
    let reached : List FileDescriptor = map file_view c.args.index.now in
    let done : List FileDescriptor = map file_view (take c.files.file-index c.args.files.now) in
    let info : SourceCodeInfo = c.in_ok-info.info in
    subst (λ (fs : List FileDescriptor). AreInfosOf reached fs c.push.new.self.items)
    (sym (views-next file_view c.args.files.now c.files.file-index c.file-item.result
    c.files-test.true c.file-item.is))
    (subst (λ (is : List SourceCodeInfo). AreInfosOf reached
    (done ++ file_view c.file-item.result ∷ []) is) (sym c.in_ok-push.ensures.items)
    (infos-push reached done c.files.infos.items (file_view c.file-item.result) info
    c.files.invariant c.in_ok-info.ensures))
