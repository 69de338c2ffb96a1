use Rattle.protobuf_parse_options.proofs.KeptLookups.{lookups_keep_meaning}
use Rattle.protobuf_parse_options.proofs.MoreFiles.{more_files_keep_meaning}
use Rattle.protobuf_parse_options.proofs.laws.more_files.Goals as goal

pub returns-clause-lookups : goal.returns-clause-lookups
returns-clause-lookups c = lookups_keep_meaning

pub returns-clause-by_path : goal.returns-clause-by_path
returns-clause-by_path c = more_files_keep_meaning
