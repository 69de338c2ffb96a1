-- The locations of a file with full paths: descriptor.proto, `SourceCodeInfo`.
use Rattle.std.specs.Prelude.{◌≡◌, List, None}
use Rattle.protobuf_parse_syntax.specs.Trees.{FileSyntax}
use Rattle.protobuf_parse_model.specs.Descriptors.{Text, FileDescriptor}
use Rattle.protobuf_parse_source_info.specs.Info.{LocationSyntax, info}
use Rattle.protobuf_parse_source_info.specs.Spots.{Spot}
use Rattle.protobuf_parse_option_paths.specs.Names.{Files}
use Rattle.protobuf_parse_option_paths.specs.Paths.{full_paths}

-- The locations are those of the text that has the tokens and the tree, with the paths to which the
-- names of options lead, where the file sees some of those that it reaches.
pub record IsFileInfo (reached : List FileDescriptor) (file : FileDescriptor) (text : Text)
    (spots : List Spot) (tree : FileSyntax) (found : List LocationSyntax) : Type 0 where
  pub files : Files
  pub reaches : files.reached ≡ reached
  pub full : found ≡ full_paths files file (info text spots tree)

-- the location without the name of an option
abbrev pub nameless : LocationSyntax → LocationSyntax
nameless l = record l { option = None }
