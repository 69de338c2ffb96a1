use Rattle.protobuf_parse.specs.Parsers.{bundled_of, includes_of, inputs_of}
use Rattle.protobuf_parse.proofs.Checking.{check-told, memory-told}
use Rattle.protobuf_parse.proofs.parser.builder.Parser.check.Goals as goal

pub returns-clause-told : goal.returns-clause-told
returns-clause-told g c =
    check-told (bundled_of c.args.self.now) c.args.self.now.includes.items _
    c.args.self.now.inputs.items _ _ _ c.check_over_folders.result c.deref.ensures.value
    c.deref-2.ensures.value c.deref-3.ensures.value c.in_ok-names.ensures.named
    c.check_over_folders.ensures.checked

pub returns-clause-fault : goal.returns-clause-fault
returns-clause-fault g c =
    memory-told _ _ _ _ (includes_of c.args.self.now) (inputs_of c.args.self.now)
    c.check_over_folders.result c.check_over_folders.ensures.checked
