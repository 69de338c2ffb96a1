use Rattle.std.proofs.Common.{refl, sym}
use Rattle.protobuf_parse_model.specs.Descriptors.{file_view}
use Rattle.protobuf_parse_rules.specs.KnownFiles.{known_file, path_named}
use Rattle.protobuf_parse_rules.specs.Runtimes.{NamedFile}
use Rattle.protobuf_parse_rules.proofs.Naming.{finds_held, finds_new}
use Rattle.protobuf_parse_rules.proofs.runtimes.put_file.Goals as goal

pub returns-in-Some : goal.returns-in-Some
returns-in-Some c = λ before finds.
    let x : NamedFile = record { path = c.args.path.now; what = file_view c.args.file.now } in
    finds_held known_file path_named c.args.files.now before c.args.path c.keyed-key.result
    c.keyed-key.ensures x refl finds
    c.in-Some._first.now (sym c.in-Some.ensures.value)

pub returns-in_ok-insert-in-None : goal.returns-in_ok-insert-in-None
returns-in_ok-insert-in-None c = λ before finds.
    let x : NamedFile = record { path = c.args.path.now; what = file_view c.args.file.now } in
    finds_new known_file path_named c.args.files.now before c.args.path c.keyed-key.result
    c.keyed-key.ensures x refl finds
    c.insert.new.self _ refl (sym c.in-None.ensures.value) c.in_ok-insert-in-None.ensures.updates
