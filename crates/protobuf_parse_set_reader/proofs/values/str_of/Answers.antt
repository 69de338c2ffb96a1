use Rattle.std.proofs.Common.{◌≡◌, Bool, true, false, refl}
use Rattle.std.specs.Str.{is_utf8}
use Rattle.std.proofs.lemmas.Str.{is_utf8-from_IsUtf8, IsUtf8-from_is_utf8}
use Rattle.protobuf_parse_set_reader.specs.Values.{text_in}
use Rattle.protobuf_parse_set_reader.proofs.values.str_of.Goals as goal

not_true : (b : Bool) → (b ≡ true → ⊥) → b ≡ false
not_true true never = absurd (never refl)
not_true false never = refl

pub returns-in-Ok : goal.returns-in-Ok
unfolding text_in
returns-in-Ok c =
    rw (c.in_ok-inside.ensures, is_utf8-from_IsUtf8 _ c.in-Ok.ensures.cases.1)
    (let a = c.in-Ok.ensures.cases.0 in cc)

pub returns-in-Err : goal.returns-in-Err
unfolding text_in
returns-in-Err c = rw (
  c.fault.ensures,
  c.in_ok-inside.ensures,
  not_true (is_utf8 c.in_ok-inside.inside.bytes.now)
      (λ e. c.in-Err.ensures.cases.0 (IsUtf8-from_is_utf8 _ e)),
) refl
