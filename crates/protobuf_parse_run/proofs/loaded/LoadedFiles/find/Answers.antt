use Rattle.std.proofs.Common.{◌≡◌, ◌∙◌, None, Some, ap, sym}
use Rattle.std.specs.Option.{option_copied}
use Rattle.protobuf_parse_run.proofs.Keeping.{some_same}
use Rattle.protobuf_parse_run.proofs.Finding.{number-kept, number-told, numbered, unnumbered}
use Rattle.protobuf_parse_run.proofs.loaded.LoadedFiles.find.Goals as goal

pub returns-in_err-number-clause-value : goal.returns-in_err-number-clause-value
returns-in_err-number-clause-value c =
    let p = c.args.path.now in
    let none : c.get.result ≡ None = c.in_err-number.was in
    let number = number-told c.self.inside.numbers c.self.inside.entries.items c.args.self.now p
    None c.self.invariant.found c.self.view_is
    (ap option_copied (sym none) ∙ c.get.ensures.value) in
    rw c.from_residual.ensures (sym (unnumbered p c.args.self.now.entries number))

pub returns-in_err-file-clause-number : goal.returns-in_err-file-clause-number
returns-in_err-file-clause-number c =
    let n = c.in_ok-number.field-0.now in
    let some : c.get.result ≡ Some c.in_ok-number.field-0 = c.in_ok-number.was in
    let number = number-told c.self.inside.numbers c.self.inside.entries.items c.args.self.now
    c.args.path.now (Some n) c.self.invariant.found c.self.view_is
    (ap option_copied (sym some) ∙ c.get.ensures.value) in
    let none : c.at.result ≡ None = c.in_err-file.was in
    absurd (number-kept c.args.path.now c.args.self.now.entries n number
    (sym c.at.ensures ∙ ap option_copied none))

pub returns-in_err-file-clause-value : goal.returns-in_err-file-clause-value
returns-in_err-file-clause-value c =
    let n = c.in_ok-number.field-0.now in
    let some : c.get.result ≡ Some c.in_ok-number.field-0 = c.in_ok-number.was in
    let number = number-told c.self.inside.numbers c.self.inside.entries.items c.args.self.now
    c.args.path.now (Some n) c.self.invariant.found c.self.view_is
    (ap option_copied (sym some) ∙ c.get.ensures.value) in
    let none : c.at.result ≡ None = c.in_err-file.was in
    absurd (number-kept c.args.path.now c.args.self.now.entries n number
    (sym c.at.ensures ∙ ap option_copied none))

pub returns-clause-value : goal.returns-clause-value
returns-clause-value c =
    let p = c.args.path.now in
    let n = c.in_ok-number.field-0.now in
    let some : c.get.result ≡ Some c.in_ok-number.field-0 = c.in_ok-number.was in
    let number = number-told c.self.inside.numbers c.self.inside.entries.items c.args.self.now p
    (Some n) c.self.invariant.found c.self.view_is
    (ap option_copied (sym some) ∙ c.get.ensures.value) in
    let r = numbered p c.args.self.now.entries n number in
    let there : c.at.result ≡ Some c.in_ok-file.field-0 = c.in_ok-file.was in
    let same = some_same c.in_ok-file.field-0.now r.0
    (ap option_copied (sym there) ∙ c.at.ensures ∙ r.1) in
    ap (λ e. Some e.1) same ∙ sym r.2
