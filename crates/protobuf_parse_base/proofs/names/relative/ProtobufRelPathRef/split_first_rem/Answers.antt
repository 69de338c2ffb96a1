-- A path is cut at its first dot.
use Rattle.std.proofs.Common.{◌∷◌, ◌++◌, [], sym, ap, ◌∙◌}
use Rattle.protobuf_parse_base.specs.Names.{relative_idents}
use Rattle.protobuf_parse_base.specs.NameViews.{ident_ref_text}
use Rattle.protobuf_parse_base.proofs.NameTexts.{IsCutRelative-from_dot, relative-one}
use Rattle.protobuf_parse_base.proofs.NameTexts.{nonempty-from_test}
use Rattle.protobuf_parse_base.proofs.names.relative.ProtobufRelPathRef.split_first_rem.Goals as goal

pub new-requires : goal.new-requires
new-requires c =
    let cut = IsCutRelative-from_dot _ _ _ c.in-Some.ensures.0 c.args.self.well_formed in
    (relative-one _ cut.front_is cut.front_nonempty c.in-Some.ensures.1).0

pub new-requires-in-Some : goal.new-requires-in-Some
new-requires-in-Some c =
    (IsCutRelative-from_dot _ _ _ c.in-Some.ensures.0 c.args.self.well_formed).rest_is

pub new-requires-in-None : goal.new-requires-in-None
new-requires-in-None c =
    (relative-one _ c.args.self.well_formed
    (nonempty-from_test _ c.if-is_empty.ensures) c.in-None.ensures).0

pub returns-in-Some : goal.returns-in-Some
returns-in-Some c =
    let cut = IsCutRelative-from_dot _ _ _ c.in-Some.ensures.0 c.args.self.well_formed in
    let one = relative-one _ cut.front_is cut.front_nonempty c.in-Some.ensures.1 in
    cut.idents ∙ (ap (λ ids. ids ++ relative_idents c.in-Some.rest.now) one.1
    ∙ (ap (λ text. text ∷ relative_idents c.in-Some.rest.now) (sym c.new.ensures)
    ∙ ap (λ text. ident_ref_text c.new.result ∷ relative_idents text) (sym c.new-in-Some.ensures)))

pub returns-in-None : goal.returns-in-None
returns-in-None c =
    let one = relative-one _ c.args.self.well_formed
    (nonempty-from_test _ c.if-is_empty.ensures) c.in-None.ensures in
    one.1 ∙ (ap (λ text. text ∷ []) (sym c.new-in-None.ensures)
    ∙ ap (λ ids. ident_ref_text c.new-in-None.result ∷ ids) (sym c.empty.ensures.idents))
