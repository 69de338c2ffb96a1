-- No public clause rests on this file.
-- What the code knows of files and of what they declare.
use Rattle.std.specs.Prelude.{Bool, List, flat_map, map}
use Rattle.std.specs.List.{list_any}
use Rattle.protobuf_parse_model.specs.Descriptors.{Text, file_view}
use Rattle.protobuf_parse_rules.specs.ClaimsKept.{Knows}
use Rattle.protobuf_parse_rules.specs.Known.{Finds}
use Rattle.protobuf_parse_rules.specs.Names.{Named, name_claim}
use Rattle.protobuf_parse_rules.specs.Bodies.{BodyParts}
use Rattle.protobuf_parse_rules.specs.Runtimes.{NamedFile, file_at, is_lite}
use Rattle.protobuf_parse_rules.specs.declared.runtimes.Declared.{Declared}
use Rattle.protobuf_parse_rules.specs.declared.runtimes.KnownFile.{KnownFile}

abbrev pub known_file : KnownFile → NamedFile
known_file f = record { path = f.path.now; what = file_view f.file.now }

abbrev pub path_named : NamedFile → Text
path_named f = f.path

-- the names and the bodies by which runtimes are judged
pub record Surroundings : Type 0 where
  pub named : List Named
  pub all : List BodyParts

-- It tells who has the names, and of the files of the bodies.
pub record Tells (d : Declared) (s : Surroundings) : Type 0 where
  pub names : Knows d.first (map name_claim s.named)
  pub files : Finds known_file path_named d.files (flat_map file_at s.all)

-- a file for the lite runtime stands there
abbrev pub is_lite_body : BodyParts → Bool
is_lite_body p = list_any (λ (f : NamedFile). is_lite f.what) (file_at p)
