use Rattle.std.proofs.Common.{append-nil, sym}
use Rattle.protobuf_parse_merged.specs.Occurrences.{occurrences, unknown_among}
use Rattle.protobuf_parse_merged.proofs.occurrences.tell_held.Goals as goal

pub returns-in-Plain-clause-occurrences : goal.returns-in-Plain-clause-occurrences
unfolding occurrences
returns-in-Plain-clause-occurrences c = rw c.in-Plain.is (sym (append-nil _))

pub returns-in-Plain-clause-unknown : goal.returns-in-Plain-clause-unknown
unfolding unknown_among
returns-in-Plain-clause-unknown c = rw c.in-Plain.is (sym (append-nil _))
