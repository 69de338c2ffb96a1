use Rattle.std.proofs.Common.{◌∙◌, ◌++◌, Err, ap}
use Rattle.protobuf_parse_syntax.specs.Trees.{option_syntax}
use Rattle.protobuf_parse_options.specs.CustomFaults.{custom_name_faults}
use Rattle.protobuf_parse_options.specs.Given.{bytes_of_option, option_scope_view}
use Rattle.protobuf_parse_options.specs.Refusals.{wrong_view}
use Rattle.protobuf_parse_options.proofs.Refusing.{gave_first, told_first, untold}
use Rattle.protobuf_parse_options.proofs.statements.push_or_tell.Goals as goal

pub returns-in_ok-push-in-Err-Wrong-clause-value :
    goal.returns-in_ok-push-in-Err-Wrong-clause-value
returns-in_ok-push-in-Err-Wrong-clause-value c none =
    let s = option_scope_view c.args.at.now in
    let o = option_syntax c.args.option.now in
    let ws = custom_name_faults s c.args.construct o.value o.name in
    absurd (untold o.place ws (wrong_view c.in-Err-Wrong.error)
    (gave_first (λ u. c.push_option.new.out.items) c.push_option.result ws
    (c.args.out.now.items ++ bytes_of_option s c.args.construct o) c.in-Err-Wrong.error
    c.push_option.ensures (c.in-Err-Wrong.is ∙ ap Err c.in-Err-Wrong.field-0-is)) none)

pub returns-in_ok-push-in-Err-Wrong-clause-faults :
    goal.returns-in_ok-push-in-Err-Wrong-clause-faults
returns-in_ok-push-in-Err-Wrong-clause-faults c =
    let s = option_scope_view c.args.at.now in
    let o = option_syntax c.args.option.now in
    let ws = custom_name_faults s c.args.construct o.value o.name in
    told_first c.args.faults.now.items c.push.new.self.items c.in-Err-Wrong.error o.place ws
    c.in_ok-push-in-Err-Wrong.ensures.items
    (gave_first (λ u. c.push_option.new.out.items) c.push_option.result ws
    (c.args.out.now.items ++ bytes_of_option s c.args.construct o) c.in-Err-Wrong.error
    c.push_option.ensures (c.in-Err-Wrong.is ∙ ap Err c.in-Err-Wrong.field-0-is))
