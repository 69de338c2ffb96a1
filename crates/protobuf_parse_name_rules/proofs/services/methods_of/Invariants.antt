use Rattle.std.proofs.Common.{◌≡◌, flat_map, map, take}
use Rattle.protobuf_parse_syntax.specs.Trees.{service_statement_syntax}
use Rattle.protobuf_parse_model.specs.Descriptors.{Text}
use Rattle.protobuf_parse_text_rules.specs.Options.{stands_in}
use Rattle.protobuf_parse_name_rules.specs.InnerViews.{has_text}
use Rattle.protobuf_parse_name_rules.specs.Names.{method_name}
use Rattle.protobuf_parse_name_rules.proofs.services.methods_of.Given as goal

abbrev pub invariant-body : goal.invariant-body
invariant-body l = (name : Text) → has_text l.methods name
    ≡ stands_in name
    (flat_map method_name (map service_statement_syntax (take l.statement-index l.body)))
