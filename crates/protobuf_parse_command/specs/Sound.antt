-- No public clause rests on this file.
-- The files of a check in which, and below which, nothing is wrong.
use Rattle.std.specs.Prelude.{Bool, true, false}
use Rattle.protobuf_parse_model.specs.declared.descriptor.FileDescriptorProto.{FileDescriptorProto}
use Rattle.protobuf_parse_check.specs.declared.report.FileReport.{FileReport}
use Rattle.protobuf_parse_check.specs.declared.report.FileState.{FileState}
use Rattle.protobuf_parse_check.specs.declared.report.FileState.TheVariants as state
use Rattle.protobuf_parse_diagnostics.specs.declared.sources.NamedTree.{NamedTree}

-- whether a file of this state is sound
abbrev pub is_sound_state : FileState → Bool
is_sound_state state.Sound = true
is_sound_state state.HeldUp = false
is_sound_state state.Faulty = false

-- whether the file of the report is
abbrev pub is_sound : FileReport → Bool
is_sound r = is_sound_state r.state

-- what the file became
abbrev pub descriptor_in : FileReport → FileDescriptorProto
descriptor_in r = r.descriptor

-- its tree, by its proto path
abbrev pub tree_in : FileReport → NamedTree
tree_in r = record { path = r.path; tree = r.tree }
