-- What a check of the rules on all that a run hands out adds to what the run promises.
--
-- Custom options are read back by the descriptors of what a file reaches, where numbers of fields
-- are distinct in these: `OptionsAreReadable` of the run asks for it, since no run looks at
-- numbers. Where the rules find no number in use already, there is nothing left to ask for.
use Rattle.std.specs.Prelude.{◌≡◌, List, map, Some}
use Rattle.protobuf_parse_model.specs.Descriptors.{Text, FileDescriptor, file_view}
use Rattle.protobuf_parse_model.specs.Faults.{Among}
use Rattle.protobuf_parse_model.specs.declared.descriptor.FileDescriptorProto.{FileDescriptorProto}
use Rattle.protobuf_parse_options.specs.Recovery.{HaveDistinctNumbers}
use Rattle.protobuf_parse_rules.specs.Law.{NoneInUse}
use Rattle.protobuf_parse_run.specs.ReadBack.{descriptors_of}
use Rattle.protobuf_parse_run.specs.Run.{AreDescriptors, Files}
use Rattle.protobuf_parse_run.specs.Stability.{IsClean, WereRead, order}
use Rattle.protobuf_parse_run.specs.Walks.{Input}

-- Where no number of a field or an extension is in use already in all that an accepted run hands
-- out, numbers are distinct in the descriptors of what each of its files reaches. (That a run is
-- accepted, and that these are its descriptors, says `RunsAsTold` by `IsAccepted`.)
abbrev pub NumbersAreApartInRuns : Type 0
NumbersAreApartInRuns =
    (files : Files) (inputs : List Input) (handed : List FileDescriptorProto)
    → IsClean files inputs → WereRead files
    → AreDescriptors files (order files.trees inputs) handed → NoneInUse (map file_view handed)
    → (d : FileDescriptor) (q : Text) → Among (map file_view handed) d → d.name ≡ Some q
    → HaveDistinctNumbers (descriptors_of (map file_view handed) (files.reached q))
