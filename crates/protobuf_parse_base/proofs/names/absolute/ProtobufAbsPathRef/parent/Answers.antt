-- A path is cut at its last dot.
use Rattle.std.proofs.Common.{◌∷◌, ◌++◌, [], sym, ap, ◌∙◌}
use Rattle.protobuf_parse_base.specs.Names.{absolute_idents}
use Rattle.protobuf_parse_base.proofs.NameTexts.{IsCutAbsolute-from_dot, relative-one}
use Rattle.protobuf_parse_base.proofs.NameTexts.{absolute-one_part}
use Rattle.protobuf_parse_base.proofs.names.absolute.ProtobufAbsPathRef.parent.Goals as goal

pub returns-in_err-parent : goal.returns-in_err-parent
returns-in_err-parent c =
    rw c.from_residual.ensures
    (absolute-one_part c.args.self.text.now c.args.self.well_formed c.in_err-parent.ensures)

pub new-requires : goal.new-requires
new-requires c =
    (IsCutAbsolute-from_dot _ _ _ c.in_ok-parent.ensures.0 c.args.self.well_formed).front_is

pub returns : goal.returns
returns c =
    let cut = IsCutAbsolute-from_dot _ _ _ c.in_ok-parent.ensures.0 c.args.self.well_formed in
    let one = relative-one _ cut.rest_is cut.nonempty c.in_ok-parent.ensures.1 in (
      c.in_ok-parent.field-0-1.now,
      cut.idents ∙ (ap (λ ids. absolute_idents c.in_ok-parent.parent.now ++ ids) one.1
          ∙ ap (λ text. absolute_idents text ++ (c.in_ok-parent.field-0-1.now ∷ []))
          (sym c.new.ensures)),
    )
