use Rattle.protobuf_parse_source_info.specs.Parts.{reserved}
use Rattle.protobuf_parse_source_info.proofs.walker.Walker.reserved.Goals as goal

pub returns-in-Ranges : goal.returns-in-Ranges
unfolding reserved
returns-in-Ranges c =
    rw c.in-Ranges.is (rw c.deref.ensures.value at c.reserved_ranges.ensures)

pub returns-in-Names : goal.returns-in-Names
unfolding reserved
returns-in-Names c =
    rw c.in-Names.is (rw c.deref-in-Names.ensures.value at c.reserved_names.ensures)
