-- The code's values as those of the definitions, constructor by constructor.
use Rattle.std.proofs.Common.{◌≡◌, ℕ, List, Vec, Global, ap, sym, ◌∙◌}
use Rattle.std.specs.Borrow.{Bor}
use Rattle.protobuf_parse_decode.specs.declared.field.Meaning.{fold-roll-Meaning}
use Rattle.protobuf_parse_decode.specs.declared.field.Meaning.TheVariants as meanings
use Rattle.protobuf_parse_decode.specs.declared.field.Meaning.TheOpen.{Meaning-F as meaning_layer}
use Rattle.protobuf_parse_decode.specs.declared.field.Meaning.TheOpen.{Value-F as value_layer}
use Rattle.protobuf_parse_decode.specs.declared.field.Value as code
use Rattle.protobuf_parse_decode.specs.declared.field.Value.{fold-roll-Value}
use Rattle.protobuf_parse_decode.specs.declared.field.Value.TheVariants as values
use Rattle.protobuf_parse_decode.specs.Fields.{Value, Meaning, text, known}
use Rattle.protobuf_parse_decode.specs.Inside.{meaning_view, value_view, values_view}
use Rattle.protobuf_parse_decode.specs.Views.{FieldItem, field_step, meaning_step, value_step}

pub known_is : (vs : Vec code.Value Global)
    → meaning_view (meanings.Known vs) ≡ known (values_view vs.items)
known_is vs = ap meaning_view (sym (meanings.rolls-Known vs))
    ∙ fold-roll-Meaning Meaning Value FieldItem meaning_step value_step field_step
    (meaning_layer.Known vs)

pub text_is : (b : Bor (List ℕ)) → value_view (values.Text b) ≡ text b.now
text_is b = ap value_view (sym (values.rolls-Text b))
    ∙ fold-roll-Value Meaning Value FieldItem meaning_step value_step field_step
    (value_layer.Text b)
