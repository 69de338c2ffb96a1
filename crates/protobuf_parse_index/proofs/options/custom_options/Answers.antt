use Rattle.std.proofs.Common.{◌∙◌, List, map, ap, sym, subst}
use Rattle.std.proofs.lemmas.Result.{err_from_is_err_and}
use Rattle.protobuf_parse_base.specs.NameViews.{abs_ref_text}
use Rattle.protobuf_parse_model.specs.Descriptors.{Text, file_view}
use Rattle.protobuf_parse_model.specs.declared.descriptor.FileDescriptorProto.{FileDescriptorProto}
use Rattle.protobuf_parse_wire.specs.Reading.{ReaderGives, WireRead, ◌>>=◌, reader}
use Rattle.protobuf_parse_wire.specs.Trees.{Field}
use Rattle.protobuf_parse_wire.specs.Views.{read_field_view}
use Rattle.protobuf_parse_index.specs.Options.{Named, name_each, named_option_view}
use Rattle.protobuf_parse_index.proofs.Named.{said}
use Rattle.protobuf_parse_index.proofs.options.custom_options.Goals as goal

pub returns-in_err-read : goal.returns-in_err-read
returns-in_err-read c =
    let files = map file_view c.args.index.now in
    let of = abs_ref_text c.args.message in
    let p = err_from_is_err_and c.from_residual.result c.from_residual.ensures.1 in
    rw (p.1, p.2)
    (λ other. said files of c.args.bytes.now (sym c.is_empty.ensures ∙ c.if-is_empty.false)
    ∙ ap (λ (r : WireRead (List Field)). r >>= (λ (fs : List Field). name_each files of fs))
    (ap (λ (fs : List FileDescriptorProto). reader (map file_view fs) of c.args.bytes.now)
    (sym c.files.ensures) ∙ c.in_err-read.ensures other))

pub returns : goal.returns
returns c =
    let files = map file_view c.args.index.now in
    let of = abs_ref_text c.args.message in
    let fields = map read_field_view c.in_ok-read.read.items in
    subst (λ (r : WireRead (List Named)). ReaderGives (λ v. map named_option_view v.items)
    c.named.result r)
    (ap (λ (t : Text). name_each files t fields) c.as_str.ensures.text
    ∙ sym (said files of c.args.bytes.now (sym c.is_empty.ensures ∙ c.if-is_empty.false)
    ∙ ap (λ (r : WireRead (List Field)). r >>= (λ (fs : List Field). name_each files of fs))
    (ap (λ (fs : List FileDescriptorProto). reader (map file_view fs) of c.args.bytes.now)
    (sym c.files.ensures) ∙ c.in_ok-read.ensures)))
    c.named.ensures
