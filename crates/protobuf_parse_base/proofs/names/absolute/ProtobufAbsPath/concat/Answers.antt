-- A dot stands between the two paths.
use Rattle.std.proofs.Common.{◌≡◌, ◌∷◌, ◌++◌, ap, ◌∙◌}
use Rattle.std.specs.String.{string_bytes}
use Rattle.protobuf_parse_base.specs.Names.{absolute_idents, is_absolute, relative_idents}
use Rattle.protobuf_parse_base.proofs.NameTexts.{IsJoined, IsJoined-from_dot, nonempty-from_idents}
use Rattle.protobuf_parse_base.proofs.names.absolute.ProtobufAbsPath.concat.Goals as goal
use Rattle.protobuf_parse_base.proofs.names.absolute.ProtobufAbsPath.concat.Goals.{In_ok-text}

text_is : (c : In_ok-text) → string_bytes c.in_ok-text.text ≡ string_bytes c.args.self.now.text
    ++ (46 ∷ c.args.path.text.now)
text_is c =
    c.in_ok-text.ensures
    ∙ (ap (λ front. front ++ (46 ∷ c.as_str-2.result.now)) c.as_str.ensures.value
    ∙ ap (λ back. string_bytes c.args.self.now.text ++ (46 ∷ back)) c.as_str-2.ensures.text)

joined : (c : In_ok-text)
    → IsJoined (string_bytes c.args.self.now.text ++ (46 ∷ c.args.path.text.now))
    (absolute_idents (string_bytes c.args.self.now.text) ++ relative_idents c.args.path.text.now)
joined c =
    IsJoined-from_dot (string_bytes c.args.self.now.text) c.args.path.text.now
    c.args.self.now.well_formed c.args.path.well_formed
    (nonempty-from_idents c.args.path.text.now c.if-is_empty.ensures.1)

pub invariant_of-result : goal.invariant_of-result
invariant_of-result c = record { well_formed = ap is_absolute (text_is c) ∙ (joined c).well_formed }

pub returns : goal.returns
returns c =
    let text : string_bytes c.in_ok-text.text ≡ string_bytes c.args.self.now.text
    ++ (46 ∷ c.args.path.text.now) =
    c.in_ok-text.ensures
    ∙ (ap (λ front. front ++ (46 ∷ c.as_str-2.result.now)) c.as_str.ensures.value
    ∙ ap (λ back. string_bytes c.args.self.now.text ++ (46 ∷ back)) c.as_str-2.ensures.text) in
    let joined = IsJoined-from_dot (string_bytes c.args.self.now.text) c.args.path.text.now
    c.args.self.now.well_formed c.args.path.well_formed
    (nonempty-from_idents c.args.path.text.now c.if-is_empty.ensures.1) in
    ap absolute_idents text ∙ joined.idents
