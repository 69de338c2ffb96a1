use Rattle.std.proofs.Common.{map, subst}
use Rattle.std.specs.Prelude.{Option, IfSome}
use Rattle.std.specs.Global.{Vec}
use Rattle.protobuf_parse_model.specs.Descriptors.{file_view}
use Rattle.protobuf_parse_command.specs.Infos.{IsInfo}
use Rattle.protobuf_parse_command.proofs.Keeping.{all_kept}
use Rattle.protobuf_parse_command.proofs.infos.add_info.Goals as goal

pub returns-in_ok-insert : goal.returns-in_ok-insert
returns-in_ok-insert c = λ before.
    let P = IsInfo c.args.sources.now (map file_view c.args.index.now) in
    all_kept P c.args.infos.now c.insert.new.self c.in_ok-from_str.field-0 c.in-Some.info
    c.in_ok-insert.ensures.updates
    (subst (λ (o : Option (Vec _)). IfSome o P) c.in-Some.is c.in_ok-info.ensures) before
