use Rattle.std.proofs.Common.{◌+◌, ◌*◌, ◌++◌, ◌∙◌, ◌≡◌, List, ap, rules, sym, ℕ}
use Rattle.std.specs.Int.{w32}
use Rattle.std.specs.Int.RustNames.{FitsSigned}
use Rattle.std.specs.Prelude.{nat_abs}
use Rattle.std.proofs.lemmas.Int.{to_z-of_z}
use Rattle.std.proofs.lemmas.Result.{on_ok_weaker}
use Rattle.protobuf_parse_model.specs.Descriptors.{field_view}
use Rattle.protobuf_parse_wire.specs.Encoded.{delimited, varint_of}
use Rattle.protobuf_parse_options.proofs.ItemBytes.{message_bytes}
use Rattle.protobuf_parse_options.proofs.values.push_inside.Goals as goal

pub returns : goal.returns
returns c =
    let f = field_view c.args.field.now in
    let old = c.args.out.now.items in
    let fits : FitsSigned w32 c.args.field.now.number = search rules in
    let number : c.unsigned_abs.result ≡ nat_abs f.number =
    c.unsigned_abs.ensures.value ∙ ap nat_abs (to_z-of_z w32 f.number fits) in
    on_ok_weaker c.put_message.result (λ added items is. added
    ∙ ap (λ (n : ℕ). old ++ (varint_of (n * 8 + 2) ++ delimited c.args.inside.now)) number
    ∙ ap (λ (bs : List ℕ). old ++ (varint_of (nat_abs f.number * 8 + 2) ++ delimited bs)) is
    ∙ ap (λ (bs : List ℕ). old ++ bs) (sym (message_bytes f items c.requires)))
    c.put_message.ensures.ok
