use Rattle.std.proofs.Common.{arith}
use Rattle.protobuf_parse_syntax.specs.Trees.{constant_syntax}
use Rattle.protobuf_parse_options.specs.Given.{option_scope_view}
use Rattle.protobuf_parse_options.proofs.Stated.{extension_given, direct_blamed}
use Rattle.protobuf_parse_options.proofs.statements.push_custom.Goals as goal

pub returns-in-Direct : goal.returns-in-Direct
returns-in-Direct c =
    direct_blamed c.direct_first.result (option_scope_view c.args.at.now) c.args.construct
    (constant_syntax c.args.value.now) c.args.parts.now c.first-item.result c.in-Direct.name
    c.deref.result.now (omega arith) c.first-item.is c.in-Direct.is c.deref.ensures
    c.direct_first.ensures

pub returns-in-Ext : goal.returns-in-Ext
returns-in-Ext c =
    extension_given (λ u. c.push_path.new.out.items) c.push_path.result
    (option_scope_view c.args.at.now) c.args.construct
    (constant_syntax c.args.value.now) c.args.parts.now
    c.first-item.result c.in-Ext.field-0 c.options_message-message.result.now
    c.args.out.now.items (omega arith)
    c.first-item.is c.in-Ext.is c.options_message-message.ensures c.push_path.ensures
