-- What a string says that is given to a field.
use Rattle.std.proofs.Common.{◌≡◌, List, [], Some, None, unwrap_or, ap, sym, subst}
use Rattle.protobuf_parse_lexer.specs.Text.{Bytes}
use Rattle.protobuf_parse_lexer.specs.Decoder.{decode, text_of}
use Rattle.protobuf_parse_lexer.specs.DecoderLaws.{decode-from, text-to}
use Rattle.protobuf_parse_model.specs.declared.error.ElabErrorKind.TheVariants.{StrLitDecode}
use Rattle.protobuf_parse_options.specs.declared.refuse.OptionFailure.{OptionFailure}
use Rattle.protobuf_parse_model.specs.BuiltinOptions.{string_faults}
use Rattle.protobuf_parse_model.specs.Descriptors.{Text}
use Rattle.protobuf_parse_model.specs.Duplicates.{fault}
use Rattle.protobuf_parse_options.specs.Refusals.{Refuses}

pub bytes_are : (option : Text) (zs : List Bytes) (v : Bytes) → decode zs ≡ Some v →
    (string_faults option (decode zs) ≡ []) × (v ≡ unwrap_or (decode zs) [])
bytes_are option zs v e = (ap (string_faults option) e, sym (ap (λ o. unwrap_or o []) e))

pub text_is : (option : Text) (zs : List Bytes) (v : Bytes) → text_of zs ≡ Some v →
    (string_faults option (text_of zs) ≡ []) × (v ≡ unwrap_or (decode zs) [])
text_is option zs v t =
    let e = decode-from zs v (text-to zs v t).0 in
    (ap (string_faults option) t, sym (ap (λ o. unwrap_or o []) e))

pub bytes_missing : (option : Text) (zs : List Bytes) (e : OptionFailure) → decode zs ≡ None
    → Refuses e (fault StrLitDecode option) → Refuses e (string_faults option (decode zs))
bytes_missing option zs e none h = subst (Refuses e) (sym (ap (string_faults option) none)) h

pub text_missing : (option : Text) (zs : List Bytes) (e : OptionFailure) → text_of zs ≡ None
    → Refuses e (fault StrLitDecode option) → Refuses e (string_faults option (text_of zs))
text_missing option zs e none h = subst (Refuses e) (sym (ap (string_faults option) none)) h
