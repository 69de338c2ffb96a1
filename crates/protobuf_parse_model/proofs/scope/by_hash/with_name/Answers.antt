use Rattle.std.proofs.Common.{◌∙◌, ◌++◌, ap, string_bytes}
use Rattle.std.specs.Prelude.{Some}
use Rattle.std.proofs.lemmas.Result.{IfOk-weaker}
use Rattle.protobuf_parse_model.specs.declared.scope.seen.OneHash.TheVariants.{Name, Names}
use Rattle.protobuf_parse_model.specs.AddsByHash.{IsWith}
use Rattle.protobuf_parse_model.proofs.ByHash.{one_more, only_listed}
use Rattle.protobuf_parse_model.proofs.scope.by_hash.with_name.Goals as goal

pub returns : goal.returns
returns c =
    let full = string_bytes c.args.name in
    let d = c.args.declaration in
    let names = c.insert.new.self in
    IfOk-weaker c.with_last.result (IsWith (Some (Names names)) full d)
    (IsWith (Some (Name c.args.only)) full d)
    (λ new with text. with text
    ∙ ap (λ ds. ds ++ one_more full d text)
    (only_listed c.args.only c.new-names.result names c.in_ok-declarations.declarations
    c.new-names.ensures.empty c.in_ok-insert.ensures.updates c.in_ok-declarations.ensures text))
    c.with_last.ensures
