use Rattle.std.proofs.Common.{◌++◌, Option, map, string_bytes, subst, sym}
use Rattle.protobuf_parse_model.specs.Descriptors.{Text}
use Rattle.protobuf_parse_run.specs.declared.fault.RunFault.{RunFault}
use Rattle.protobuf_parse_run.specs.Run.{input_view}
use Rattle.protobuf_parse_load.specs.declared.step.LoadStep.{LoadStep}
use Rattle.protobuf_parse_load.specs.Loads.{step_view}
use Rattle.protobuf_parse_check.specs.Judging.{HoldsInput, HoldsStep, IsClashOf}
use Rattle.protobuf_parse_check.specs.Reports.{AreClashes, clash_in}
use Rattle.protobuf_parse_check.proofs.Clashing.{clash-none, clash-pushed}
use Rattle.protobuf_parse_check.proofs.clashes.add_clash.Goals as goal

pub returns-in_ok-push : goal.returns-in_ok-push
returns-in_ok-push c files before has holds old =
    let inputs = map input_view c.args.given.now.inputs.now in
    let log = c.args.given.now.reads.now in
    let loaded = c.args.given.now.loaded.now.entries in
    let p = string_bytes c.in-Held.path in
    let held_so = subst (λ (s : LoadStep). HoldsStep inputs log loaded (step_view s)) c.in-Held.is
    holds in
    let told = c.in_ok-fault.ensures files has (subst (λ (q : Text). HoldsInput inputs log loaded
    c.in-Held.input q c.in-Held.read) (sym c.deref.ensures) held_so) in
    let at_path = subst (λ (q : Text). IsClashOf files inputs c.in-Held.input q c.in-Held.read
    c.in_ok-fault.field-0) c.deref.ensures told in
    let fault = subst (λ (o : Option RunFault). IsClashOf files inputs c.in-Held.input p
    c.in-Held.read o) c.in-Some.is at_path in
    subst (λ (s : LoadStep). AreClashes files inputs (before ++ clash_in files (step_view s))
    c.push.new.self.items) (sym c.in-Held.is)
    (clash-pushed files inputs before c.args.clashes.now.items c.push.new.self.items
    c.in-Held.input p c.in-Held.read c.in-Some.fault old fault c.in_ok-push.ensures.items)

pub returns-in_default-2 : goal.returns-in_default-2
returns-in_default-2 c files before has holds old =
    let inputs = map input_view c.args.given.now.inputs.now in
    let log = c.args.given.now.reads.now in
    let loaded = c.args.given.now.loaded.now.entries in
    let p = string_bytes c.in-Held.path in
    let held_so = subst (λ (s : LoadStep). HoldsStep inputs log loaded (step_view s)) c.in-Held.is
    holds in
    let told = c.in_ok-fault.ensures files has (subst (λ (q : Text). HoldsInput inputs log loaded
    c.in-Held.input q c.in-Held.read) (sym c.deref.ensures) held_so) in
    let at_path = subst (λ (q : Text). IsClashOf files inputs c.in-Held.input q c.in-Held.read
    c.in_ok-fault.field-0) c.deref.ensures told in
    let none = subst (λ (o : Option RunFault). IsClashOf files inputs c.in-Held.input p
    c.in-Held.read o) c.in_default-2.is at_path in
    subst (λ (s : LoadStep). AreClashes files inputs (before ++ clash_in files (step_view s))
    c.args.clashes.now.items) (sym c.in-Held.is)
    (clash-none files inputs before c.args.clashes.now.items c.in-Held.input p c.in-Held.read old
    none)
