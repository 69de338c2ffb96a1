-- No public clause rests on this file.
-- The source info that goes into a set.
use Rattle.std.specs.Prelude.{◌≡◌, ℕ, List, Some, IfSome, String}
use Rattle.std.specs.BTreeMap.{BTreeMap, get_by_text}
use Rattle.std.specs.Global.{Global, Vec}
use Rattle.protobuf_parse_syntax.specs.Trees.{FileSyntax}
use Rattle.protobuf_parse_model.specs.Descriptors.{Text, FileDescriptor}
use Rattle.protobuf_parse_source_info.specs.Info.{LocationSyntax}
use Rattle.protobuf_parse_source_info.specs.Spots.{Spot, HasSpots}
use Rattle.protobuf_parse_option_paths.specs.Bytes.{info_bytes}
use Rattle.protobuf_parse_option_paths.specs.Whole.{IsFileInfo}
use Rattle.protobuf_parse_diagnostics.specs.Later.{text_in}
use Rattle.protobuf_parse_diagnostics.specs.declared.sources.Sources.{Sources}

-- The bytes are those of the source info of a file that was read, among these that are reached.
pub record IsInfo (sources : Sources) (reached : List FileDescriptor) (bytes : Vec ℕ) : Type 0 where
  pub path : Text
  pub text : Text
  pub read : text_in sources path ≡ Some text
  pub file : FileDescriptor
  pub tree : FileSyntax
  pub found : List LocationSyntax
  pub info : (spots : List Spot) → HasSpots text spots
      → IsFileInfo reached file text spots tree found
  pub spelled : bytes.items ≡ info_bytes found

-- All that are kept are such.
abbrev pub AreInfos : Sources → List FileDescriptor → BTreeMap (String Global) (Vec ℕ) → Type 0
AreInfos sources reached infos =
    (path : Text) → IfSome (get_by_text infos path) (IsInfo sources reached)
