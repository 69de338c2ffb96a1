-- The source info of the files of a run.
use Rattle.std.specs.Prelude.{◌≡◌, List, [], ◌∷◌, map}
use Rattle.protobuf_parse_syntax.specs.Parsing.{HasTree}
use Rattle.protobuf_parse_syntax.specs.Trees.{FileSyntax}
use Rattle.protobuf_parse_model.specs.Descriptors.{Text, FileDescriptor}
use Rattle.protobuf_parse_source_info.specs.Info.{LocationSyntax}
use Rattle.protobuf_parse_source_info.specs.Spots.{Spot, HasSpots}
use Rattle.protobuf_parse_source_info.specs.Views.{info_view}
use Rattle.protobuf_parse_source_info.specs.declared.info.SourceCodeInfo.{SourceCodeInfo}
use Rattle.protobuf_parse_option_paths.specs.Whole.{IsFileInfo, nameless}

-- The locations are those of a text that has a tree, by the descriptor of the file and those of the
-- files that it may reach. Names of options stand in paths alone.
pub record IsInfoOf (reached : List FileDescriptor) (file : FileDescriptor) (info : SourceCodeInfo)
    : Type 0 where
  pub text : Text
  pub tree : FileSyntax
  pub parsed : HasTree text tree
  pub found : List LocationSyntax
  pub located : (spots : List Spot) → HasSpots text spots
      → IsFileInfo reached file text spots tree found
  pub seen : info_view info ≡ map nameless found

-- These are those of the files, one of each, in order.
abbrev pub AreInfosOf : (reached files : List FileDescriptor) → List SourceCodeInfo → Type 0
AreInfosOf reached [] [] = Unit {0}
AreInfosOf reached (f ∷ fs) (i ∷ is) = IsInfoOf reached f i × AreInfosOf reached fs is
AreInfosOf reached _ _ = ⊥

-- These are those of files that reach one another.
abbrev pub AreFileInfos : List FileDescriptor → List SourceCodeInfo → Type 0
AreFileInfos files infos = AreInfosOf files files infos
