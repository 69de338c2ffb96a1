use Rattle.protobuf_parse_options.proofs.Holding.{none_under}
use Rattle.protobuf_parse_options.proofs.spots.Spots.new.Goals as goal

pub returns : goal.returns
returns c =
    record {
      messages = λ name. none_under c.new.result c.new.ensures.empty name;
      enums = λ name. none_under c.new-2.result c.new-2.ensures.empty name;
      extensions = λ name. none_under c.new-3.result c.new-3.ensures.empty name;
      small = tt;
    }
