-- Descriptors without their custom options.
use Rattle.protobuf_parse_syntax.specs.Trees.{FileSyntax}
use Rattle.protobuf_parse_model.specs.Descriptors.{Text, FileDescriptor}
use Rattle.protobuf_parse_options.specs.DescriptorsByPath.{Environments, described_at}
use Rattle.protobuf_parse_options.specs.Recovery.{plainly}
use Rattle.protobuf_parse_run.specs.Run.{Files}

-- from where each file is seen, its custom options left out
abbrev pub plain_environments : Files → Environments
plain_environments files = plainly files.trees files.seen

-- The descriptor of the file of this path and tree without its custom options.
abbrev pub plain_of : Files → Text → FileSyntax → FileDescriptor
plain_of files p t = described_at (plain_environments files) p t
