use Rattle.protobuf_parse_run.proofs.StandingBytes.{bytes_stand}
use Rattle.protobuf_parse_run.proofs.HeldBytes.{options_stand, no_others_stand, sets_stand_once}
use Rattle.protobuf_parse_run.proofs.laws.custom_bytes_stand.Goals as goal

pub returns-clause-stand : goal.returns-clause-stand
returns-clause-stand c = options_stand

pub returns-clause-others : goal.returns-clause-others
returns-clause-others c = no_others_stand

pub returns-clause-once : goal.returns-clause-once
returns-clause-once c = sets_stand_once

pub returns-clause-told : goal.returns-clause-told
returns-clause-told c = bytes_stand
