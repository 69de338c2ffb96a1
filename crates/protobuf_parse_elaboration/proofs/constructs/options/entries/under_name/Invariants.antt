use Rattle.std.proofs.Common.{◌≡◌, drop}
use Rattle.protobuf_parse_model.specs.BuiltinOptions.{under_name}
use Rattle.protobuf_parse_elaboration.specs.OptionViews.{words_seen}
use Rattle.protobuf_parse_elaboration.proofs.constructs.options.entries.under_name.Given as goal

abbrev pub invariant-loop-word : goal.invariant-loop-word
invariant-loop-word g l = under_name (words_seen l.table) l.name
    ≡ under_name (words_seen (drop l.word-index l.table)) l.name
