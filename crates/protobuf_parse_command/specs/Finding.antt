-- No public clause rests on this file.
-- Where files are looked for: in includes, and in descriptor sets.
use Rattle.std.specs.Prelude.{◌≡◌, ◌++◌, ◌⊎◌, List, [], ◌∷◌, Option, Some, None, Result, Ok, Err}
use Rattle.std.specs.Prelude.{String, option_map, string_bytes, unwrap_or}
use Rattle.std.specs.BTreeMap.{BTreeMap, get_by_text}
use Rattle.std.specs.Global.{Global}
use Rattle.std.specs.Option.{option_and_then}
use Rattle.protobuf_parse_base.specs.Characters as char
use Rattle.protobuf_parse_model.specs.Descriptors.{Text, FileDescriptor, file_view}
use Rattle.protobuf_parse_model.specs.declared.descriptor.FileDescriptorProto.{FileDescriptorProto}
use Rattle.protobuf_parse_run.specs.declared.fault.ResolveFault.{ResolveFault}
use Rattle.protobuf_parse_run.specs.declared.fault.ResolveFault.TheVariants as refused
use Rattle.protobuf_parse_run.specs.declared.source.ResolvedProtoFile.{ResolvedProtoFile}
use Rattle.protobuf_parse.specs.Folders.{IsFirstFound, IsNoFile, IsTriedAt, path_tried}
use Rattle.protobuf_parse_command.specs.declared.put_back.OwnFile.{OwnFile}

-- The path is below a front that lies at DISK, and the place is below that in the same way.
pub record IsBelow (front disk path place : Text) : Type 0 where
  pub rest : Text
  pub path_below : path ≡ front ++ char.slash ∷ rest
  pub place_below : place ≡ path_tried disk rest

-- Where a path lies if a front of paths lies at DISK: below DISK as the path is below the front, or
-- DISK itself. An empty front is every path's.
abbrev pub MapsTo : (front disk path place : Text) → Type 0
MapsTo front disk path place =
    ((front ≡ []) × (place ≡ path_tried disk path))
    ⊎ (((path ≡ front) × (place ≡ disk)) ⊎ IsBelow front disk path place)

-- The place is that of a proto path in an include `FRONT=DISK`.
pub record IsMapped (include path place : Text) : Type 0 where
  pub front : Text
  pub disk : Text
  pub split : include ≡ front ++ char.equals ∷ disk
  pub maps : MapsTo front disk path place

-- The place is that of a proto path in an include: a folder, or one that maps a front.
abbrev pub IsPlaceIn : (include path place : Text) → Type 0
IsPlaceIn include path place = (place ≡ path_tried include path) ⊎ IsMapped include path place

-- what may be answered for it: a file there or a fault of that file, or no such file
pub record IsTriedThere (include path : Text) (answer : Result (Option ResolvedProtoFile) ResolveFault)
    : Type 0 where
  pub place : Text
  pub stands : IsPlaceIn include path place
  pub tried : IsTriedAt place answer

abbrev pub IsTriedIn : Text → Text → Result (Option ResolvedProtoFile) ResolveFault → Type 0
IsTriedIn include path answer = IsNoFile answer ⊎ IsTriedThere include path answer

-- each include is tried in turn, up to the first that has the file or a fault
abbrev pub MayFind : List Text → Text → Result (Option ResolvedProtoFile) ResolveFault → Type 0
MayFind includes path answer =
    IsFirstFound (λ include found. IsTriedIn include path found) includes answer

-- where a file of a set lies: the set's path, and the file's own in brackets
abbrev pub origin_in : (set path : Text) → Text
origin_in set path = set ++ char.open_paren ∷ path ++ char.close_paren ∷ []

-- it lies in some set
pub record LiesInSet (path : Text) (found : ResolvedProtoFile) : Type 0 where
  pub set : Text
  pub place : string_bytes found.path ≡ origin_in set path

-- what sets may answer for a path: a file that lies in one, or none
abbrev pub IsOfSets : Text → Result (Option ResolvedProtoFile) ResolveFault → Type 0
IsOfSets path (Ok (Some found)) = LiesInSet path found
IsOfSets path (Ok None) = Unit {0}
IsOfSets path (Err (refused.CouldNotRead file)) = ⊥
IsOfSets path (Err (refused.Refused reason)) = ⊥
IsOfSets path (Err refused.Memory) = Unit {0}

-- What the includes answer; where each says that it has no such file, what sets do.
abbrev pub MayFindBeside : List Text → Text → Result (Option ResolvedProtoFile) ResolveFault
    → Type 0
MayFindBeside includes path answer =
    MayFind includes path answer ⊎ (MayFind includes path (Ok None) × IsOfSets path answer)

-- the file of a set that has the name, if one has
abbrev pub own_file : BTreeMap (String Global) OwnFile → Option (String Global) → Option OwnFile
own_file own name = option_and_then (λ (n : String Global). get_by_text own (string_bytes n)) name

-- the descriptor as a set has it, or as it is
abbrev pub as_in_set : BTreeMap (String Global) OwnFile → FileDescriptorProto → FileDescriptor
as_in_set own f =
    unwrap_or (option_map (λ (s : OwnFile). file_view s.file.now) (own_file own f.name))
    (file_view f)
