use Rattle.std.proofs.Common.{sym}
use Rattle.protobuf_parse_options.proofs.Spotting.{inside_is}
use Rattle.protobuf_parse_options.proofs.spots.members.of_message.Goals as goal

pub returns : goal.returns
returns c =
    rw (c.deref.ensures.value, c.deref-2.ensures.value, c.deref-3.ensures.value)
    (sym (inside_is c.args.message.now))
