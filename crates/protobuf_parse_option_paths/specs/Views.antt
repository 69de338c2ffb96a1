-- What the code has, without where it lies in memory.
use Rattle.std.specs.Prelude.{ℕ, Bool, List, Option, Vec, map, option_map}
use Rattle.std.specs.Borrow.{Bor}
use Rattle.std.specs.BTreeSet.{BTreeSet, contains_by}
use Rattle.std.specs.Cmp.Lexicographic.{slice_cmp}
use Rattle.std.specs.Global.{Global}
use Rattle.std.specs.Ordering.{nat_cmp}
use Rattle.protobuf_parse_model.specs.Descriptors.{Text, file_view}
use Rattle.protobuf_parse_model.specs.SeenFiles.{name_texts}
use Rattle.protobuf_parse_option_paths.specs.Names.{Files}
use Rattle.protobuf_parse_option_paths.specs.Bearers.{Bearer}
use Rattle.protobuf_parse_option_paths.specs.declared.bearers.OptionBearer.{OptionBearer}
use Rattle.protobuf_parse_option_paths.specs.declared.names.OptionFiles.{OptionFiles}
use Rattle.protobuf_parse_option_paths.specs.declared.names.Step.{Step}

-- whether a set has the path
abbrev pub has_path : BTreeSet (Bor (List ℕ)) → Text → Bool
has_path s path = contains_by (λ (k : Bor (List ℕ)). slice_cmp nat_cmp path k.now) s

-- the files
abbrev pub files_view : OptionFiles → Files
files_view f = record { reached = map file_view f.reached.now; sees = has_path f.seen.now }

-- a bearer that was found
abbrev pub bearer_seen : Option OptionBearer → Option Bearer
bearer_seen found = option_map
    (λ (p : OptionBearer).
    record { construct = p.construct; scope = name_texts p.scope.items }) found

-- steps that were found
abbrev pub steps_seen : Option (Vec Step Global) → Option (List Step)
steps_seen found = option_map (λ (v : Vec Step Global). v.items) found
