-- Where a resolver over real folders looks for a proto path.
use Rattle.std.specs.Prelude.{◌≡◌, ◌||◌, ◌⊎◌, List, [], ◌∷◌, ◌++◌, Option, Some, None, Result}
use Rattle.std.specs.Prelude.{Ok, Err, nat_eq, if◌then◌else◌, string_bytes}
use Rattle.std.specs.List.{ends_with}
use Rattle.protobuf_parse_base.specs.Characters as char
use Rattle.protobuf_parse_base.specs.Paths.{is_empty}
use Rattle.protobuf_parse_model.specs.Descriptors.{Text}
use Rattle.protobuf_parse_run.specs.declared.fault.ResolveFault.{ResolveFault}
use Rattle.protobuf_parse_run.specs.declared.fault.ResolveFault.TheVariants as refused
use Rattle.protobuf_parse_run.specs.declared.source.ResolvedProtoFile.{ResolvedProtoFile}

-- Where a proto path is looked for in an include: the include, `/`, and the path. An empty include
-- adds nothing, and a `/` at its end isn't doubled.
abbrev pub path_tried : Text → Text → Text
path_tried include path =
    if is_empty include || ends_with nat_eq include (char.slash ∷ [])
    then include ++ path
    else include ++ char.slash ∷ path

-- what may be answered where one path is tried: a file there or a fault of that file, or no such
-- file
abbrev pub IsTriedAt : Text → Result (Option ResolvedProtoFile) ResolveFault → Type 0
IsTriedAt file (Ok (Some found)) = string_bytes found.path ≡ file
IsTriedAt file (Ok None) = Unit {0}
IsTriedAt file (Err (refused.CouldNotRead path)) = string_bytes path ≡ file
IsTriedAt file (Err (refused.Refused reason)) = ⊥
IsTriedAt file (Err refused.Memory) = Unit {0}

-- there is no such file
abbrev pub IsNoFile : Result (Option ResolvedProtoFile) ResolveFault → Type 0
IsNoFile (Ok None) = Unit {0}
IsNoFile _ = ⊥

-- The answer is that of the first include that doesn't say that it has no such file, or that there
-- is none, where each says so.
abbrev pub IsFirstFound : (Text → Result (Option ResolvedProtoFile) ResolveFault → Type 0)
    → List Text → Result (Option ResolvedProtoFile) ResolveFault → Type 0
IsFirstFound May [] answer = IsNoFile answer
IsFirstFound May (include ∷ includes) answer =
    (May include answer × ¬ IsNoFile answer)
    ⊎ (May include (Ok None) × IsFirstFound May includes answer)

-- each include is tried in turn, at the path there, up to the first that has the file or a fault
abbrev pub MayFind : List Text → Text → Result (Option ResolvedProtoFile) ResolveFault → Type 0
MayFind includes path answer =
    IsFirstFound (λ include found. IsTriedAt (path_tried include path) found) includes answer
