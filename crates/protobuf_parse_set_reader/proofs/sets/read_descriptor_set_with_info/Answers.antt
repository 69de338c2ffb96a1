use Rattle.protobuf_parse_set_reader.specs.Reading.{set_with_info_of}
use Rattle.protobuf_parse_set_reader.proofs.SameFiles.{without_info}
use Rattle.protobuf_parse_set_reader.proofs.sets.read_descriptor_set_with_info.Goals as goal

pub returns-clause-files : goal.returns-clause-files
unfolding set_with_info_of
returns-clause-files c = without_info (λ v. v.items) c.args.bytes.now c.set_files_of.result
    (rw c.in_ok-set.ensures c.set_files_of.ensures)
