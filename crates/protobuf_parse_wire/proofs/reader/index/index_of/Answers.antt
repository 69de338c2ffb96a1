use Rattle.std.proofs.Common.{◌≤◌, ◌+◌, List, map, take, length, sym, subst, arith, ◌++◌}
use Rattle.std.specs.List.{flat_map}
use Rattle.protobuf_parse_model.specs.Descriptors.{FieldDescriptor, file_view}
use Rattle.protobuf_parse_wire.specs.Declarations.{Declaration, messages_declared_in}
use Rattle.protobuf_parse_wire.specs.Declarations.{extensions_declared_in}
use Rattle.protobuf_parse_wire.specs.declared.reader.index.Index.{Index}
use Rattle.protobuf_parse_wire.specs.Indexed.{IndexAdds}
use Rattle.protobuf_parse_wire.proofs.Adding.{adds_none, adds_more, joined_one_more, mapped_all}
use Rattle.protobuf_parse_wire.proofs.Adding.{indexes_all}
use Rattle.protobuf_parse_wire.proofs.reader.index.index_of.Goals as goal

pub files-init : goal.files-init
files-init c = adds_none _

pub files-preserved : goal.files-preserved
files-preserved c =
    let start : Index = record { messages = c.new.result; extensions = c.new-2.result } in
    let files = c.args.files.now in
    let i = c.files.file-index in
    let more = adds_more start c.files.index c.add_file.new.index _ _ _ _ c.files.invariant
    c.in_ok-add_file.ensures in
    subst (λ (ds : List Declaration). IndexAdds start c.add_file.new.index ds
    (flat_map extensions_declared_in (map file_view (take (i + 1) files)))) (sym
    (joined_one_more messages_declared_in file_view files i c.file-item.result c.files-test.true
    c.file-item.is))
    (subst (λ (es : List FieldDescriptor). IndexAdds start c.add_file.new.index
    (flat_map messages_declared_in (map file_view (take i files))
    ++ messages_declared_in (file_view c.file-item.result))
    es) (sym
    (joined_one_more extensions_declared_in file_view files i c.file-item.result c.files-test.true
    c.file-item.is)) more)

pub returns : goal.returns
returns c =
    let past : length c.args.files.now ≤ c.files.file-index = omega arith in
    let e = mapped_all file_view c.args.files.now c.files.file-index past in
    let start : Index = record { messages = c.new.result; extensions = c.new-2.result } in
    let all : IndexAdds start c.files.index
    (flat_map messages_declared_in (map file_view c.args.files.now))
    (flat_map extensions_declared_in (map file_view c.args.files.now)) =
    rw e at c.files.invariant in
    indexes_all start c.files.index
    (map file_view c.args.files.now) c.new.ensures.empty c.new-2.ensures.empty all
