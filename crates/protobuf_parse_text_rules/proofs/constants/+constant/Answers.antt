use Rattle.std.proofs.Common.{◌∙◌, ap, map}
use Rattle.std.specs.List.{list_any}
use Rattle.protobuf_parse_syntax.specs.InnerViews.{constant_field_syntax}
use Rattle.protobuf_parse_syntax.specs.Trees.{constant_syntax}
use Rattle.protobuf_parse_text_rules.specs.Options.{has_dotted}
use Rattle.protobuf_parse_text_rules.proofs.Levels.{dotted_fields, dotted_list, field_dotted}
use Rattle.protobuf_parse_text_rules.proofs.constants.+constant.Goals as goal

pub has_dotted-returns-in-List : goal.has_dotted-returns-in-List
has_dotted-returns-in-List t c =
    c.any_dotted.ensures
    ∙ ap (λ xs. list_any has_dotted (map constant_syntax xs)) c.deref.ensures.value
    ∙ dotted_list c.args.constant.now c.in-List.items c.in-List.is

pub has_dotted-returns-in-Message : goal.has_dotted-returns-in-Message
has_dotted-returns-in-Message t c =
    c.any_field_dotted.ensures
    ∙ ap (λ xs. list_any field_dotted (map constant_field_syntax xs))
    c.deref-in-Message.ensures.value
    ∙ dotted_fields c.args.constant.now c.in-Message.fields c.in-Message.is
