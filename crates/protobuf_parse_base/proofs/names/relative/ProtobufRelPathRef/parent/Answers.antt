-- A path is cut at its last dot.
use Rattle.std.proofs.Common.{◌∷◌, ◌++◌, [], sym, ap, ◌∙◌}
use Rattle.protobuf_parse_base.specs.Names.{relative_idents}
use Rattle.protobuf_parse_base.proofs.NameTexts.{IsCutRelative-from_dot, relative-one}
use Rattle.protobuf_parse_base.proofs.NameTexts.{nonempty-from_test}
use Rattle.protobuf_parse_base.proofs.names.relative.ProtobufRelPathRef.parent.Goals as goal

pub new-requires : goal.new-requires
new-requires c = (IsCutRelative-from_dot _ _ _ c.in-Some.ensures.0 c.args.self.well_formed).front_is

pub returns-in-Some : goal.returns-in-Some
returns-in-Some c =
    let cut = IsCutRelative-from_dot _ _ _ c.in-Some.ensures.0 c.args.self.well_formed in
    let one = relative-one _ cut.rest_is cut.rest_nonempty c.in-Some.ensures.1 in (
      c.in-Some.field-0-1.now,
      cut.idents ∙ (ap (λ ids. relative_idents c.in-Some.front.now ++ ids) one.1
          ∙ ap (λ text. relative_idents text ++ (c.in-Some.field-0-1.now ∷ []))
          (sym c.new.ensures)),
    )

pub returns-in-None : goal.returns-in-None
returns-in-None c =
    let one = relative-one _ c.args.self.well_formed
    (nonempty-from_test _ c.if-is_empty.ensures) c.in-None.ensures in (
      c.args.self.text.now,
      one.1
          ∙ ap (λ ids. ids ++ (c.args.self.text.now ∷ [])) (sym c.empty.ensures.idents),
    )
