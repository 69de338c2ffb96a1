-- What the decoder of strings answers is what the definitions of decoding say.
use Rattle.std.proofs.Common.{◌≡◌, List, Option, Some, None, refl, subst, inl, inr, string_bytes}
use Rattle.std.specs.Prelude.{String}
use Rattle.std.specs.Global.{Global}
use Rattle.std.specs.Str.{IsUtf8}
use Rattle.std.proofs.lemmas.Str.{IsUtf8-string_bytes}
use Rattle.protobuf_parse_lexer.specs.Text.{Bytes}
use Rattle.protobuf_parse_lexer.specs.Tokens.{DecodesAll}
use Rattle.protobuf_parse_lexer.specs.Decoding.{RefusesBytes, RefusesText}
use Rattle.protobuf_parse_lexer.specs.Decoder.{decode, text_of}
use Rattle.protobuf_parse_lexer.specs.DecoderLaws.{decode-to, decode-from, text-to, text-from}
use Rattle.protobuf_parse_lexer.specs.Tokens.{StandsFor}
use Rattle.protobuf_parse_lexer.specs.declared.lexer.str_lit.StrLitDecodeError.{StrLitDecodeError}
use Rattle.protobuf_parse_lexer.specs.declared.lexer.str_lit.StrLitDecodeError.TheVariants.{Memory}
use Rattle.protobuf_parse_lexer.proofs.Escapes.{one_decoding_of_all}

none_found : {B : Type 0} (o : Option B) → ((b : B) → o ≡ Some b → ⊥) → o ≡ None
none_found None no_value = refl
none_found (Some b) no_value = absurd (no_value b refl)

pub bytes_said : (zs : List Bytes) (v : Bytes) → DecodesAll zs v → decode zs ≡ Some v
bytes_said zs v d = decode-from zs v d

pub text_said : (zs : List Bytes) (t : String Global) → DecodesAll zs (string_bytes t)
    → text_of zs ≡ Some (string_bytes t)
text_said zs t d = text-from zs (string_bytes t) (d, IsUtf8-string_bytes t)

pub no_bytes_said : (zs : List Bytes) (e : StrLitDecodeError) → RefusesBytes zs e → (e ≡ Memory → ⊥)
    → decode zs ≡ None
no_bytes_said zs e r other = none_found (decode zs) (λ v h. refused r v (decode-to zs v h))
  where
    refused : RefusesBytes zs e → (v : Bytes) → DecodesAll zs v → ⊥
    refused (inl m) v d = other m
    refused (inr h) v d = h.1 v d

pub no_text_said : (zs : List Bytes) (e : StrLitDecodeError) → RefusesText zs e → (e ≡ Memory → ⊥)
    → text_of zs ≡ None
no_text_said zs e r other = none_found (text_of zs) (λ v h. refused r v (text-to zs v h))
  where
    refused : RefusesText zs e → (v : Bytes) → StandsFor zs v → ⊥
    refused (inl (inl m)) v d = other m
    refused (inl (inr h)) v d = h.1 v d.0
    refused (inr h) v d = h.1.2 (subst IsUtf8 (one_decoding_of_all d.0 h.1.1) d.1)
