-- What a target has to be for a new file to take its place, or for it to be left alone.
use Rattle.std.specs.Prelude.{◌≡◌, ◌≢◌, ◌<◌, ℕ, bit_and, Option, Some, None, IsTrue}
use Rattle.protobuf_parse_files.specs.declared.target.Found.{Found}
use Rattle.protobuf_parse_files.specs.declared.target.Found.TheVariants as found
use Rattle.protobuf_parse_files.specs.declared.target.Way.{Way}
use Rattle.protobuf_parse_files.specs.declared.target.Way.TheVariants as way
use Rattle.protobuf_parse_files.specs.declared.target.Seen.{Seen}

-- somebody may write to a file of this mode
abbrev pub IsWritable : ℕ → Type 0
IsWritable mode = bit_and mode 0o222 ≢ 0

-- nothing, or a file that has no other name and that somebody may write to
abbrev pub IsReplaceable : Found → Type 0
IsReplaceable found.Nothing = Unit {0}
IsReplaceable found.Folder = ⊥
IsReplaceable (found.File mode names) = (names < 2) × IsWritable mode
IsReplaceable found.Other = ⊥

-- and the path leads there by names
abbrev pub MayBeReplaced : Found → Way → Type 0
MayBeReplaced f w = (w ≡ way.Named) × IsReplaceable f

-- and its folder takes a new file
abbrev pub IsReplaced : Seen → Type 0
IsReplaced seen = IsTrue seen.takes_files × MayBeReplaced seen.found seen.way

-- the mode of a file that is there
abbrev pub old_mode : Found → Option ℕ
old_mode (found.File mode names) = Some mode
old_mode _ = None

-- it is reached by its path, and is no standard stream
abbrev pub IsByPath : Way → Type 0
IsByPath way.Named = Unit {0}
IsByPath way.Open = Unit {0}
IsByPath way.Output = ⊥
IsByPath way.Errors = ⊥

-- a file that nobody may write to
abbrev pub IsReadOnly : Found → Type 0
IsReadOnly (found.File mode names) = bit_and mode 0o222 ≡ 0
IsReadOnly _ = ⊥

-- a folder stands there
abbrev pub IsFolderAt : Seen → Type 0
IsFolderAt seen = IsByPath seen.way × (seen.found ≡ found.Folder)

-- and here a file that nobody may write to
abbrev pub IsReadOnlyAt : Seen → Type 0
IsReadOnlyAt seen = IsByPath seen.way × IsReadOnly seen.found
