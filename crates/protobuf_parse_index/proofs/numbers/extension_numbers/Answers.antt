use Rattle.std.proofs.Common.{◌∙◌, ◌+◌, Some, None, cond, take, ap, sym}
use Rattle.std.specs.Option.{option_or}
use Rattle.protobuf_parse_index.specs.Kept.{is_extension}
use Rattle.protobuf_parse_index.specs.Views.{standing_extension}
use Rattle.protobuf_parse_index.proofs.Positions.{first_at-map, first_at-more}
use Rattle.protobuf_parse_index.proofs.numbers.extension_numbers.Goals as goal

pub extensions-preserved : goal.extensions-preserved
extensions-preserved c =
    let xs = c.args.extensions.now in
    let i = c.extensions.at in
    let item = c.index-extensions-at.result in
    record {
      at = λ q n.
          c.in_ok-put_extension.ensures q n
          ∙ ap (λ o. option_or o (cond (is_extension q n (standing_extension item)) (Some i) None))
          (c.extensions.invariant.at q n
          ∙ first_at-map standing_extension (is_extension q n) (take i xs))
          ∙ sym (first_at-more (λ d. is_extension q n (standing_extension d)) xs i item
          c.extensions-test.true c.index-extensions-at.is)
          ∙ sym (first_at-map standing_extension (is_extension q n) (take (i + 1) xs));
    }
