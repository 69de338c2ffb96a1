use Rattle.std.proofs.lemmas.Result.{err_from_is_err_and}
use Rattle.protobuf_parse_run.specs.Run.{IsCaused}
use Rattle.protobuf_parse.specs.Folders.{MayFind}
use Rattle.protobuf_parse.specs.Parsers.{MayReadAnything, TellsFault, bundled_of, includes_of}
use Rattle.protobuf_parse.specs.Parsers.{inputs_of}
use Rattle.protobuf_parse.proofs.Building.{run-fault, run-files, run-names}
use Rattle.protobuf_parse.proofs.parser.builder.Parser.parse_with_source_info.Goals as goal

pub returns-in_err-logged-clause-fault : goal.returns-in_err-logged-clause-fault
returns-in_err-logged-clause-fault g c =
    let p = err_from_is_err_and c.from_residual-in_err-logged.result
    c.from_residual-in_err-logged.ensures.1 in
    let told : TellsFault (bundled_of c.args.self.now) (includes_of c.args.self.now)
    (inputs_of c.args.self.now) c.in_err-logged.field-0.0 =
    run-fault (bundled_of c.args.self.now) c.args.self.now.includes.items _
    c.args.self.now.inputs.items _ _ _ c.in_err-logged.field-0.0 c.deref.ensures.value
    c.deref-2.ensures.value c.deref-3.ensures.value c.in_ok-names.ensures.named
    c.in_err-logged.ensures.ran in
    rw (p.1, p.2) told

pub returns-in_err-logged-clause-caused : goal.returns-in_err-logged-clause-caused
returns-in_err-logged-clause-caused g c =
    let p = err_from_is_err_and c.from_residual-in_err-logged.result
    c.from_residual-in_err-logged.ensures.1 in
    let told : IsCaused (MayFind (includes_of c.args.self.now)) MayReadAnything
    c.in_err-logged.field-0.0 = c.in_err-logged.ensures.caused in
    rw (p.1, p.2) told

pub returns-clause-parsed : goal.returns-clause-parsed
returns-clause-parsed g c = record {
  named = run-names c.args.self.now.includes.items _ c.args.self.now.inputs.items _ _
      c.deref.ensures.value c.deref-2.ensures.value c.in_ok-names.ensures.named;
  run = run-files (bundled_of c.args.self.now) (includes_of c.args.self.now)
      (inputs_of c.args.self.now) _ _ c.in_ok-logged.logged.files c.deref-3.ensures.value
      c.in_ok-logged.ensures.ran;
  parser = c.in_ok-from_str.ensures.ok;
}
