-- Locations whose paths are full: that of an option goes on from its options message with the
-- numbers of the fields that its name leads through, and of a repeated one with an index, which is
-- how many options before it have this path. descriptor.proto, `SourceCodeInfo`.
use Rattle.std.specs.Prelude.{ℕ, Bool, false, List, [], ◌∷◌, ◌++◌, map, Option, Some, None}
use Rattle.std.specs.Prelude.{if◌then◌else◌, bytes_eq}
use Rattle.std.specs.Option.{option_and_then}
use Rattle.protobuf_parse_syntax.specs.Trees.{OptionNameSyntax}
use Rattle.protobuf_parse_model.specs.Descriptors.{FileDescriptor}
use Rattle.protobuf_parse_source_info.specs.Info.{LocationSyntax}
use Rattle.protobuf_parse_source_info.specs.Parts.{next}
use Rattle.protobuf_parse_source_info.specs.Walks.{Path}
use Rattle.protobuf_parse_option_paths.specs.Names.{Files, option_steps}
use Rattle.protobuf_parse_option_paths.specs.Bearers.{Bearer, bearer_of}
use Rattle.protobuf_parse_option_paths.specs.declared.names.Step.{Step}

-- ---- where a name leads

-- a path without an index, and whether it is that of a repeated field
pub record Lead : Type 0 where
  pub path : Path
  pub repeated : Bool

-- whether the last field is repeated
abbrev pub ends_repeated : List Step → Bool
ends_repeated [] = false
ends_repeated (s ∷ []) = s.repeated
ends_repeated (s ∷ t ∷ ss) = ends_repeated (t ∷ ss)

-- From the options message at the path: a name that leads nowhere stays there.
abbrev pub lead_from : Path → Option (List Step) → Lead
lead_from path None = record { path = path; repeated = false }
lead_from path (Some ss) = record {
  path = path ++ map (λ (s : Step). s.number) ss;
  repeated = ends_repeated ss;
}

-- the fields that the name of an option at the path leads through
abbrev pub steps_at : Files → FileDescriptor → Path → OptionNameSyntax → Option (List Step)
steps_at files file path name =
    option_and_then (λ (p : Bearer). option_steps files p.construct p.scope name)
    (bearer_of file path)

-- where a location's name leads; one that has none is no option's
abbrev pub lead_of : Files → FileDescriptor → LocationSyntax → Lead
lead_of files file l = lead_from l.path (option_and_then (steps_at files file l.path) l.option)

-- ---- indexes

-- how many of the paths are this one; no text has as many as would reach the last index
abbrev pub count : List Path → Path → ℕ
count [] p = 0
count (q ∷ qs) p = if bytes_eq q p then next (count qs p) else count qs p

-- the paths of repeated options, with that of one more
abbrev pub with_lead : List Path → Lead → List Path
with_lead before l = if l.repeated then l.path ∷ before else before

-- the full path, behind repeated options with these paths
abbrev pub full_path : List Path → Lead → Path
full_path before l = if l.repeated then l.path ++ count before l.path ∷ [] else l.path

-- the location with that path
abbrev pub with_path : List Path → Lead → LocationSyntax → LocationSyntax
with_path before lead l = record l { path = full_path before lead }

-- the locations with their full paths, behind repeated options with these paths
abbrev pub with_paths : (LocationSyntax → Lead) → List Path → List LocationSyntax
    → List LocationSyntax
with_paths lead before [] = []
with_paths lead before (l ∷ ls) =
    with_path before (lead l) l ∷ with_paths lead (with_lead before (lead l)) ls

-- the locations of a file with their full paths
abbrev pub full_paths : Files → FileDescriptor → List LocationSyntax → List LocationSyntax
full_paths files file ls = with_paths (lead_of files file) [] ls
