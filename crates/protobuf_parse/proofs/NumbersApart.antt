-- Numbers are distinct in what each file of a run reaches, where the rules find none in use.
use Rattle.std.proofs.Common.{List, [], ◌∷◌, map, subst, sym}
use Rattle.std.specs.Prelude.{option_to_list}
use Rattle.protobuf_parse_model.specs.Descriptors.{Text, FileDescriptor}
use Rattle.protobuf_parse_elaboration.specs.FilesByPath.{AreDistinct}
use Rattle.protobuf_parse_options.specs.DescriptorsByPath.{described_at}
use Rattle.protobuf_parse_options.specs.Recovery.{HaveDistinctNumbers}
use Rattle.protobuf_parse_rules.specs.Law.{AreEachOnce, NoneInUse}
use Rattle.protobuf_parse_rules.proofs.Fewer.{some_apart}
use Rattle.protobuf_parse_run.specs.Run.{environment_of}
use Rattle.protobuf_parse_run.specs.Stability.{order}
use Rattle.protobuf_parse_run.proofs.ReadingBack.{handed-are, is-of-run, reach-is, within-reach}
use Rattle.protobuf_parse.specs.ApartInRuns.{NumbersAreApartInRuns}

each-once : (paths : List Text) → AreDistinct paths → AreEachOnce paths
each-once [] once = tt
each-once (p ∷ paths) once = (once.0, each-once paths once.1)

pub numbers_are_apart_in_runs : NumbersAreApartInRuns
numbers_are_apart_in_runs files inputs handed clean read become none d q stands named =
    let run = order files.trees inputs in
    let m = is-of-run files inputs clean read handed become d q stands named in
    let at : Text → List FileDescriptor = λ p.
    map (described_at (environment_of files) p) (option_to_list (files.trees p)) in
    let reached = files.reached q in
    let apart = some_apart at reached run (each-once reached (read.listed.reaches q).once)
    (within-reach files inputs clean read handed become q m)
    (subst NoneInUse (handed-are files run handed become) none) in
    subst HaveDistinctNumbers (sym (reach-is files inputs clean read handed become q m)) apart
