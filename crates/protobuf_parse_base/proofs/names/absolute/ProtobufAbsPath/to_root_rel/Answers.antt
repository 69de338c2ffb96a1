-- Only the root begins with no dot.
use Rattle.std.proofs.Common.{None, ◌∙◌, sym, lit<}
use Rattle.std.proofs.lemmas.Str.Pattern.{strip_prefix_char}
use Rattle.protobuf_parse_base.proofs.NameTexts.{absolute-no_dot}
use Rattle.protobuf_parse_base.proofs.names.absolute.ProtobufAbsPath.to_root_rel.Goals as goal

pub returns-in-None : goal.returns-in-None
returns-in-None c =
    let none = strip_prefix_char 46 c.as_str.result.now None c.in-None.ensures.cases (lit< tt) in
    c.empty.ensures.idents
    ∙ sym (absolute-no_dot _ c.args.self.now.well_formed
    (λ rest e. none rest (c.as_str.ensures.value ∙ e)))
