use Rattle.std.proofs.Common.{◌+◌, ◌*◌, length}
use Rattle.protobuf_parse_options.proofs.paths.+path.Given as goal

-- three calls a part
abbrev pub decreases-push_path : goal.decreases-push_path
decreases-push_path l = 3 * length l.parts.now

abbrev pub decreases-push_first : goal.decreases-push_first
decreases-push_first l = 3 * length l.others.now + 2

abbrev pub decreases-push_through : goal.decreases-push_through
decreases-push_through l = 3 * length l.others.now + 1
