-- What is known of the sound ones among the reports so far is kept.
use Rattle.std.proofs.Common.{◌≡◌, map}
use Rattle.std.specs.Prelude.{filter}
use Rattle.protobuf_parse_command.specs.Sound.{descriptor_in, is_sound, tree_in}
use Rattle.protobuf_parse_command.proofs.sound.sound_files.Given as goal

abbrev pub invariant-loop-report : goal.invariant-loop-report
invariant-loop-report l =
    (l.files.items ≡ map descriptor_in (filter is_sound l.yielded))
    × (l.trees.items ≡ map tree_in (filter is_sound l.yielded))
