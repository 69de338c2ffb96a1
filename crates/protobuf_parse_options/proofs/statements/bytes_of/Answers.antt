use Rattle.std.proofs.Common.{◌∙◌, ◌++◌, List, ℕ, ap, flat_map, sym}
use Rattle.protobuf_parse_model.specs.BuiltinOptions.{options_seen}
use Rattle.protobuf_parse_options.specs.CustomFaults.{custom_statement_faults}
use Rattle.protobuf_parse_options.specs.CustomOptions.{items_of_option}
use Rattle.protobuf_parse_options.specs.Given.{bytes_of_option, option_scope_view}
use Rattle.protobuf_parse_options.proofs.ItemBytes.{bytes_flat_map}
use Rattle.protobuf_parse_options.proofs.Refusing.{none_more, unless_none}
use Rattle.protobuf_parse_options.proofs.statements.bytes_of.Goals as goal

pub returns-clause-value : goal.returns-clause-value
returns-clause-value c =
    let s = option_scope_view c.args.at.now in
    let os = options_seen c.args.options.now in
    let all = flat_map (bytes_of_option s c.args.construct) os in
    let faults = custom_statement_faults s c.args.construct os in
    let none = none_more c.args.faults.now.items c.push_options.new.faults.items faults
    c.len-before.result c.len.result c.in_ok-push_options.ensures.faults
    (c.len-before.ensures ∙ c.args.faults.now.ok.0)
    (c.len.ensures ∙ c.push_options.new.faults.ok.0) c.if-len-before.false in
    c.in_ok-push_options.ensures.value none
    ∙ ap (λ (old : List ℕ). old ++ all) c.new-bytes.ensures.items
    ∙ sym (bytes_flat_map (items_of_option s c.args.construct) os)
    ∙ sym (unless_none faults _ none)
