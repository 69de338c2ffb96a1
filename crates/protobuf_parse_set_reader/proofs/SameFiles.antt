-- Files that are read with source info are those that are read without.
use Rattle.std.proofs.Common.{◌≡◌, ℕ, List, [], ◌∷◌, ◌++◌, map, Result, Ok, Err, ap, ◌∙◌}
use Rattle.std.specs.Prelude.{IfOk}
use Rattle.std.proofs.lemmas.Simd.{map-map}
use Rattle.protobuf_parse_model.specs.Descriptors.{FileDescriptor, file_view}
use Rattle.protobuf_parse_records.specs.Views.{WireRecord}
use Rattle.protobuf_parse_set_reader.specs.declared.fault.SetError.{SetError}
use Rattle.protobuf_parse_set_reader.specs.declared.source_info.SetFile.{SetFile}
use Rattle.protobuf_parse_set_reader.specs.Answers.{Gives}
use Rattle.protobuf_parse_set_reader.specs.Values.{BodyView, all_of, alone, body_in, body_of}
use Rattle.protobuf_parse_set_reader.specs.Values.{merged_bytes, numbered, part_in}
use Rattle.protobuf_parse_set_reader.specs.TypeNames.{Types, set_types}
use Rattle.protobuf_parse_set_reader.specs.Reading.{SetFileView, file_of, files_of, set_file_of}
use Rattle.protobuf_parse_set_reader.specs.Reading.{set_files_of, set_of, set_with_info_of}
use Rattle.protobuf_parse_set_reader.specs.SourceInfo.{set_file_view}
use Rattle.protobuf_parse_set_reader.proofs.Steps.{both_gave, same_given}

-- a file without its source info
abbrev file_alone : SetFileView → FileDescriptor
file_alone x = x.file

same_file : (types : Types) (b : BodyView) (x : SetFileView) → set_file_of types b ≡ Ok x
    → file_of types b ≡ Ok (file_alone x)
unfolding set_file_of
same_file types b x e =
    let file = both_gave (file_of types b) _ x e in
    let info = both_gave (merged_bytes 9 b) _ x file.2 in
    file.1 ∙ ap (λ z. Ok (file_alone z)) (same_given info.2)

same_part : (types : Types) (r : WireRecord) (x : SetFileView)
    → part_in (set_file_of types) r ≡ Ok x → part_in (file_of types) r ≡ Ok (file_alone x)
unfolding part_in
same_part types r x e =
    let body = both_gave (body_in r) _ x e in
    rw body.1 (same_file types body.0 x body.2)

same_parts : (types : Types) (rs : List WireRecord) (xs : List SetFileView)
    → all_of (alone (part_in (set_file_of types))) rs ≡ Ok xs
    → all_of (alone (part_in (file_of types))) rs ≡ Ok (map file_alone xs)
same_parts types [] xs e = ap (λ z. Ok (map file_alone z)) (same_given e)
same_parts types (r ∷ rs) xs e =
    let first = both_gave (alone (part_in (set_file_of types)) r) _ xs e in
    let one = both_gave (part_in (set_file_of types) r) _ first.0 first.1 in
    let others = both_gave (all_of (alone (part_in (set_file_of types))) rs) _ xs first.2 in
    let all : one.0 ∷ others.0 ≡ xs =
    ap (λ z. z ++ others.0) (same_given one.2) ∙ same_given others.2 in
    rw (same_part types r one.0 one.1, same_parts types rs others.0 others.1)
    (ap (λ z. Ok (map file_alone z)) all)

same_files : (bytes : List ℕ) (xs : List SetFileView) → set_with_info_of bytes ≡ Ok xs
    → set_of bytes ≡ Ok (map file_alone xs)
unfolding set_with_info_of set_of set_files_of files_of
same_files bytes xs e =
    let body = both_gave (body_of (record { start = 0; bytes = bytes })) _ xs e in
    let types = both_gave (set_types body.0) _ xs body.2 in
    rw (body.1, types.1) (same_parts types.0 (numbered 1 body.0.records) xs types.2)

-- the same of a function's result
pub without_info : {V : Type 0} (items : V → List SetFile) (bytes : List ℕ) (r : Result V SetError)
    → Gives (λ v. map set_file_view (items v)) r (set_with_info_of bytes)
    → IfOk r (λ v. set_of bytes ≡ Ok (map (λ f. file_view f.file) (items v)))
without_info items bytes (Ok v) gives =
    same_files bytes _ gives ∙ ap (λ z. Ok z) (map-map file_alone set_file_view (items v))
without_info items bytes (Err e) gives = tt
