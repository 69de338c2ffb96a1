use Rattle.std.proofs.Common.{◌∙◌, ℕ, ap, string_bytes, sym}
use Rattle.std.specs.Global.{Vec}
use Rattle.protobuf_parse_syntax.specs.Trees.{pieces_of}
use Rattle.protobuf_parse_options.specs.Given.{path_said}
use Rattle.protobuf_parse_options.proofs.Sayings.{text_is, text_missing}
use Rattle.protobuf_parse_options.proofs.strings.text_said.Goals as goal

pub returns-in-Some : goal.returns-in-Some
returns-in-Some c =
    let is = text_is (path_said c.args.option.now) (pieces_of c.args.string.now)
    (string_bytes c.in-Some.text) (sym (rw c.in-Some.is at c.in_ok-text.ensures)) in
    (is.0, ap (λ (b : Vec ℕ). b.items) c.into_bytes.ensures.value ∙ is.1)

pub returns-in-None : goal.returns-in-None
returns-in-None c =
    text_missing (path_said c.args.option.now) (pieces_of c.args.string.now) _
    (sym (rw c.in-None.is at c.in_ok-text.ensures)) c.says_nothing.ensures
