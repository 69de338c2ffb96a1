use Rattle.protobuf_parse_source_info.specs.InnerViews.{doing}
use Rattle.protobuf_parse_source_info.proofs.Steps.{takes_nothing}
use Rattle.protobuf_parse_source_info.proofs.Options.{some_options, no_options}
use Rattle.protobuf_parse_source_info.proofs.walker.Walker.options.Goals as goal

pub returns-then-is_empty : goal.returns-then-is_empty
returns-then-is_empty c =
    rw (no_options c.args.path.now c.args.is_field c.args.options.now c.if-is_empty.ensures)
    (takes_nothing (doing c.args.self.now))

pub returns : goal.returns
returns c =
    rw (some_options c.args.path.now c.args.is_field c.args.options.now c.if-is_empty.ensures)
    c.brackets.ensures
