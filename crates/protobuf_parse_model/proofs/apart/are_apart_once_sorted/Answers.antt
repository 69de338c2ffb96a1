-- Keys that ascend once they are sorted differ.
use Rattle.std.proofs.Common.{subst}
use Rattle.std.specs.List.Sorted.{IsStrictlyIncreasing}
use Rattle.protobuf_parse_model.proofs.Ascending.{apart_sorted}
use Rattle.protobuf_parse_model.proofs.apart.are_apart_once_sorted.Goals as goal

pub returns : goal.returns
returns c = λ u.
    apart_sorted c.args.keys.items c.sort_unstable.new.self.items
    c.sort_unstable.ensures.permutation
    (subst IsStrictlyIncreasing c.deref.ensures.value (c.is_ascending.ensures u))
