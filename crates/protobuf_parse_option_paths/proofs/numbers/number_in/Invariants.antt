use Rattle.std.proofs.Common.{◌≡◌, drop}
use Rattle.protobuf_parse_model.specs.BuiltinOptions.{under_name}
use Rattle.protobuf_parse_option_paths.specs.InnerViews.{numbers_view}
use Rattle.protobuf_parse_option_paths.proofs.numbers.number_in.Given as goal

abbrev pub invariant-entries : goal.invariant-entries
invariant-entries l = under_name (numbers_view l.numbers) l.name
    ≡ under_name (numbers_view (drop l.entry-index l.numbers)) l.name
