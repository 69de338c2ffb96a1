use Rattle.std.proofs.Common.{All, IsUtf8, map, take, subst, sym, ap, ◌∙◌, ◌++◌}
use Rattle.std.proofs.lemmas.List.Elements.{All-push}
use Rattle.protobuf_parse_model.specs.Descriptors.{EnumValueDescriptor, enum_value_view}
use Rattle.protobuf_parse_rules.specs.Keys.{spelling_keys}
use Rattle.protobuf_parse_rules.proofs.Lists.{joined_one_more, mapped_all, mapped_one_more}
use Rattle.protobuf_parse_rules.proofs.Spelling.{two_more}
use Rattle.protobuf_parse_rules.proofs.alike.value_keys.Goals as goal

abbrev IsText : EnumValueDescriptor → Type 0
IsText v = IsUtf8 v.name

pub values-preserved : goal.values-preserved
values-preserved c =
    let front = c.args.front in
    let values = c.args.values.now in
    let i = c.values.value-index in
    let item = c.value-item.result in
    let v = enum_value_view item in (
      two_more front v c.as_str-name.result.now c.values.keys.items c.push.new.self.items
          c.push-in-values.new.self.items c.squeezed_key.result c.squeezed_key-in-values.result
          c.in_ok-push.ensures.items c.in_ok-push-2.ensures.items c.squeezed_key.ensures
          c.squeezed_key-in-values.ensures c.as_str-name.ensures
          ∙ ap (λ ks. ks ++ spelling_keys front v) c.values.invariant.0
          ∙ sym (joined_one_more (spelling_keys front) enum_value_view values i item
          c.values-test.true c.value-item.is),
      subst (All IsText)
          (sym (mapped_one_more enum_value_view values i item c.values-test.true c.value-item.is))
          (All-push IsText (map enum_value_view (take i values)) v c.values.invariant.1
          (subst IsUtf8 c.as_str-name.ensures c.as_str-name.utf8)),
    )

pub returns-clause-texts : goal.returns-clause-texts
returns-clause-texts c =
    subst (All IsText)
    (mapped_all enum_value_view c.args.values.now c.values.value-index c.values-test.false)
    c.values.invariant.1
