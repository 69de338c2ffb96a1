-- A dot stands before what is added, and there is room for both.
use Rattle.std.proofs.Common.{◌≡◌, ◌≤◌, ◌+◌, ◌∷◌, ◌++◌, length, ap, ◌∙◌, append_assoc, lit<, refl}
use Rattle.std.proofs.Common.{arith}
use Rattle.std.specs.String.{string_bytes, string_len, string_capacity}
use Rattle.protobuf_parse_base.specs.Names.{is_absolute, absolute_idents}
use Rattle.protobuf_parse_base.proofs.NameTexts.{IsJoined-from_dot, nonempty-from_idents}
use Rattle.protobuf_parse_base.proofs.TextCuts.{pushed_whole}
use Rattle.protobuf_parse_base.proofs.names.absolute.ProtobufAbsPath.push_relative.Goals as goal

pub invariant_of-self-2 : goal.invariant_of-self-2
invariant_of-self-2 c =
    let dot = c.push.ensures.ascii (lit< tt) in
    let room : string_len c.push.new.self + length c.as_str-relative.result.now
    ≤ string_capacity c.push.new.self =
    omega (
      arith,
      c.in_ok-reserve.ensures.ok,
      c.in_ok-push.ensures.len,
      ap length dot,
      c.push.ensures.capacity,
    ) in
    let more = pushed_whole (string_bytes c.push.new.self)
    (string_bytes c.push_str.new.self) c.as_str-relative.result.now c.push_str.result
    (c.push_str.ensures.succeeds room) c.push_str.ensures.bytes in
    let whole : string_bytes c.push_str.new.self ≡ string_bytes c.args.self.now.text
    ++ (46 ∷ c.as_str-relative.result.now) =
    rw (more, c.in_ok-push.ensures.bytes, dot, c.reserve.ensures.bytes, append_assoc) refl in
    let nonempty = nonempty-from_idents c.args.relative.text.now c.if-is_empty.ensures.1 in
    let joined = IsJoined-from_dot (string_bytes c.args.self.now.text) c.args.relative.text.now
    c.args.self.now.well_formed c.args.relative.well_formed nonempty in
    record {
      well_formed =
          ap is_absolute
          (whole ∙ ap (λ rest. string_bytes c.args.self.now.text ++ (46 ∷ rest))
          c.as_str-relative.ensures.text) ∙ joined.well_formed;
    }

pub returns-clause-ok : goal.returns-clause-ok
returns-clause-ok c =
    let dot = c.push.ensures.ascii (lit< tt) in
    let whole : string_bytes c.push_str.new.self ≡ string_bytes c.args.self.now.text
    ++ (46 ∷ c.as_str-relative.result.now) =
    rw (
      c.in_ok-push_str.ensures.bytes,
      c.in_ok-push.ensures.bytes,
      dot,
      c.reserve.ensures.bytes,
      append_assoc,
    ) refl in
    let nonempty = nonempty-from_idents c.args.relative.text.now c.if-is_empty.ensures.1 in
    let joined = IsJoined-from_dot (string_bytes c.args.self.now.text) c.args.relative.text.now
    c.args.self.now.well_formed c.args.relative.well_formed nonempty in
    ap absolute_idents
    (whole ∙ ap (λ rest. string_bytes c.args.self.now.text ++ (46 ∷ rest))
    c.as_str-relative.ensures.text) ∙ joined.idents
