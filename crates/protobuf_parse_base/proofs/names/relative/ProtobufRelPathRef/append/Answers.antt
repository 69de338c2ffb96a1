-- Two paths that are not empty have a dot between them.
use Rattle.std.proofs.Common.{◌∷◌, ◌++◌, ap, ◌∙◌}
use Rattle.protobuf_parse_base.specs.Names.{is_relative, relative_idents}
use Rattle.protobuf_parse_base.proofs.NameTexts.{IsJoinedRelative, IsJoinedRelative-from_dot}
use Rattle.protobuf_parse_base.proofs.NameTexts.{nonempty-from_test}
use Rattle.protobuf_parse_base.proofs.names.relative.ProtobufRelPathRef.append.Goals.{In_ok-text}
use Rattle.protobuf_parse_base.proofs.names.relative.ProtobufRelPathRef.append.Goals as goal

joined : (c : In_ok-text)
    → IsJoinedRelative (c.args.self.text.now ++ (46 ∷ c.args.path.text.now))
    (relative_idents c.args.self.text.now ++ relative_idents c.args.path.text.now)
joined c = IsJoinedRelative-from_dot _ _ c.args.self.well_formed c.args.path.well_formed
    (nonempty-from_test _ c.if-is_empty.ensures) (nonempty-from_test _ c.if-is_empty-2.ensures)

pub invariant_of-result : goal.invariant_of-result
invariant_of-result c =
    record { well_formed = ap is_relative c.in_ok-text.ensures ∙ (joined c).well_formed }

pub returns : goal.returns
returns c =
    let joined = IsJoinedRelative-from_dot _ _ c.args.self.well_formed c.args.path.well_formed
    (nonempty-from_test _ c.if-is_empty.ensures) (nonempty-from_test _ c.if-is_empty-2.ensures) in
    ap relative_idents c.in_ok-text.ensures ∙ joined.idents
