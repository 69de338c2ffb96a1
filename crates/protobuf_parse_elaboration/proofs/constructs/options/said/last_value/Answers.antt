use Rattle.std.proofs.Common.{◌∙◌, ◌∷◌, [], ap, option_map}
use Rattle.protobuf_parse_elaboration.specs.OptionViews.{constant_seen}
use Rattle.protobuf_parse_elaboration.proofs.Settings.{last_value_more}
use Rattle.protobuf_parse_elaboration.proofs.constructs.options.said.last_value.Goals as goal
use Rattle.protobuf_parse_elaboration.proofs.constructs.options.said.last_value.Goals.{in-Some}
use Rattle.protobuf_parse_elaboration.proofs.constructs.options.said.last_value.Goals.{in_default}

pub loop-option-preserved : goal.loop-option-preserved
loop-option-preserved c =
    elim c.match-value_if_named.branch [
      | in-Some w ↦ ap (option_map constant_seen) w.last-is
          ∙ last_value_more c.args.name.now c.args.options.now c.loop-option.option-index
          c.option-item.result (option_map constant_seen c.loop-option.last)
          (constant_seen w.in-Some.value ∷ []) c.loop-option-test.true c.option-item.is
          c.loop-option.invariant w.in-Some.ensures
      | in_default w ↦ ap (option_map constant_seen) w.last-is
          ∙ last_value_more c.args.name.now c.args.options.now c.loop-option.option-index
          c.option-item.result (option_map constant_seen c.loop-option.last)
          [] c.loop-option-test.true c.option-item.is c.loop-option.invariant w.in_default.ensures
    ]
