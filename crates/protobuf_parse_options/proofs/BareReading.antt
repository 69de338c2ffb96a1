-- Files without their options read the same bytes alike.
use Rattle.std.proofs.Common.{◌≡◌, ℕ, zero, suc, pos, ◌/◌, ◌%◌, Bool, true, false, cond, not, ◌&&◌}
use Rattle.std.proofs.Common.{List, [], ◌∷◌, ◌++◌, map, length, Option, Some, None, option_map, Ok}
use Rattle.std.proofs.Common.{Err, refl, sym, ap, ◌∙◌}
use Rattle.std.specs.List.{list_any}
use Rattle.std.specs.Ordering.{int_eq}
use Rattle.std.proofs.Math.Path.{fun_ext}
use Rattle.std.proofs.lemmas.List.{map-append}
use Rattle.protobuf_parse_model.specs.Descriptors.{Text, FieldDescriptor, MessageParts}
use Rattle.protobuf_parse_model.specs.Descriptors.{FileDescriptor}
use Rattle.protobuf_parse_wire.specs.declared.fault.ReadFault.TheVariants.{AmbiguousNumber}
use Rattle.protobuf_parse_wire.specs.Trees.{ValueTree, Field}
use Rattle.protobuf_parse_wire.specs.Declarations.{field_numbered, have_distinct_numbers}
use Rattle.protobuf_parse_wire.specs.Declarations.{messages_with_name, extensions_extending}
use Rattle.protobuf_parse_wire.specs.Reading.{WireRead, ◌>>=◌, FieldsByNumber, Inner, varint_at}
use Rattle.protobuf_parse_wire.specs.Reading.{value_at}
use Rattle.protobuf_parse_wire.specs.Reading.{record_at, records, by_number, only_one, entered}
use Rattle.protobuf_parse_wire.specs.Reading.{message_at, reader}
use Rattle.protobuf_parse_options.specs.WithoutOptions.{bare_field, bare_parts, bare_file}
use Rattle.protobuf_parse_options.proofs.BareDeclarations.{found-becomes, any-becomes}
use Rattle.protobuf_parse_options.proofs.BareDeclarations.{messages-of-bare, extensions-of-bare}

-- ---- what numbers name

pub distinct-bare : (fs : List FieldDescriptor)
    → have_distinct_numbers (map bare_field fs) ≡ have_distinct_numbers fs
distinct-bare [] = refl
distinct-bare (f ∷ fs) =
    ap (λ b. not b && have_distinct_numbers (map bare_field fs))
    (any-becomes bare_field (λ (g : FieldDescriptor). int_eq f.number g.number) fs)
    ∙ ap (λ b. not (list_any (λ (g : FieldDescriptor). int_eq f.number g.number) fs) && b)
    (distinct-bare fs)

-- each number names the same field, without its options
abbrev barely : FieldsByNumber → FieldsByNumber
barely numbers n = option_map bare_field (numbers n)

abbrev then_barely : WireRead FieldsByNumber → WireRead FieldsByNumber
then_barely read = read >>= (λ numbers. Ok (barely numbers))

numbered-bare : (fs : List FieldDescriptor)
    → field_numbered (map bare_field fs) ≡ barely (field_numbered fs)
numbered-bare fs =
    fun_ext (λ (n : ℕ). found-becomes bare_field
    (λ (f : FieldDescriptor). int_eq (pos n) f.number) fs)

by-number-bare : (fs : List FieldDescriptor)
    → by_number (map bare_field fs) ≡ then_barely (by_number fs)
by-number-bare fs =
    ap (λ (b : Bool). cond b (Ok (field_numbered (map bare_field fs))) (Err AmbiguousNumber))
    (distinct-bare fs)
    ∙ ap (λ (numbers : FieldsByNumber). cond (have_distinct_numbers fs) (Ok numbers)
    (Err AmbiguousNumber))
    (numbered-bare fs)
    ∙ at (have_distinct_numbers fs)
  where
    at : (b : Bool) → cond b (Ok (barely (field_numbered fs))) (Err AmbiguousNumber)
        ≡ then_barely (cond b (Ok (field_numbered fs)) (Err AmbiguousNumber))
    at true = refl
    at false = refl

only-one-bare : (ms : List MessageParts) (es : List FieldDescriptor)
    → only_one (map bare_parts ms) (map bare_field es) ≡ then_barely (only_one ms es)
only-one-bare [] es = refl
only-one-bare (m ∷ []) es = ap by_number (sym (map-append bare_field m.field es))
    ∙ by-number-bare (m.field ++ es)
only-one-bare (m ∷ n ∷ ms) es = refl

entered-bare : (files : List FileDescriptor) (name : Option Text)
    → entered (map bare_file files) name ≡ then_barely (entered files name)
entered-bare files None = refl
entered-bare files (Some name) =
    ap (λ (ms : List MessageParts). only_one ms (extensions_extending (map bare_file files) name))
    (messages-of-bare files name)
    ∙ ap (only_one (map bare_parts (messages_with_name files name))) (extensions-of-bare files name)
    ∙ only-one-bare (messages_with_name files name) (extensions_extending files name)

-- ---- records

bind-same : {A B : Type 0} (read : WireRead A) (f g : A → WireRead B) → ((x : A) → f x ≡ g x)
    → (read >>= f) ≡ (read >>= g)
bind-same (Ok x) f g each = each x
bind-same (Err e) f g each = refl

value-bare : (inner : Inner) (o : Option FieldDescriptor) (wire : ℕ) (bs : List ℕ)
    → value_at inner (option_map bare_field o) wire bs ≡ value_at inner o wire bs
unfolding value_at
value-bare inner None wire bs = refl
value-bare inner (Some f) wire bs = refl

-- the value behind a tag, as a record
abbrev with_value : (tag : ℕ × List ℕ) → WireRead (ValueTree × List ℕ) → WireRead (Field × List ℕ)
with_value tag value = value >>= (λ v. Ok (record { number = tag.0 / 8; value = v.0 }, v.1))

record-bare : (inner : Inner) (numbers : FieldsByNumber) (bs : List ℕ)
    → record_at inner (barely numbers) bs ≡ record_at inner numbers bs
unfolding record_at
record-bare inner numbers bs =
    bind-same (varint_at 10 bs)
    (λ tag. with_value tag (value_at inner (barely numbers (tag.0 / 8)) (tag.0 % 8) tag.1))
    (λ tag. with_value tag (value_at inner (numbers (tag.0 / 8)) (tag.0 % 8) tag.1))
    (λ tag. ap (with_value tag) (value-bare inner (numbers (tag.0 / 8)) (tag.0 % 8) tag.1))

-- a record, and those after it
abbrev and_others : (List ℕ → WireRead (List Field)) → WireRead (Field × List ℕ)
    → WireRead (List Field)
and_others rest first = first >>= (λ r. rest r.1 >>= (λ others. Ok (r.0 ∷ others)))

records-bare : (inner : Inner) (numbers : FieldsByNumber) (n : ℕ) (bs : List ℕ)
    → records inner (barely numbers) n bs ≡ records inner numbers n bs
unfolding records
records-bare inner numbers zero [] = refl
records-bare inner numbers (suc n) [] = refl
records-bare inner numbers zero (b ∷ bs) = refl
records-bare inner numbers (suc n) (b ∷ bs) =
    ap (and_others (records inner (barely numbers) n)) (record-bare inner numbers (b ∷ bs))
    ∙ ap (λ (rest : List ℕ → WireRead (List Field)). and_others rest
    (record_at inner numbers (b ∷ bs)))
    (fun_ext (λ (rest : List ℕ). records-bare inner numbers n rest))

-- ---- messages

module _ (files : List FileDescriptor) where
  -- the message that is entered, and what its records say
  within-bare : (inner : Inner) (read : WireRead FieldsByNumber) (bs : List ℕ)
      → (then_barely read >>= (λ numbers. records inner numbers (length bs) bs))
      ≡ (read >>= (λ numbers. records inner numbers (length bs) bs))
  within-bare inner (Ok numbers) bs = records-bare inner numbers (length bs) bs
  within-bare inner (Err e) bs = refl

  message-bare : (levels : ℕ) (name : Option Text) (bs : List ℕ)
      → message_at (entered (map bare_file files)) levels name bs
      ≡ message_at (entered files) levels name bs
  unfolding message_at
  message-bare zero name bs = refl
  message-bare (suc levels) name bs =
      ap (λ (inner : Inner). entered (map bare_file files) name >>=
      (λ numbers. records inner numbers (length bs) bs)) (fun_ext
      (λ (n : Option Text). fun_ext (λ (part : List ℕ). message-bare levels n part)))
      ∙ ap (λ (read : WireRead FieldsByNumber). read >>=
      (λ numbers. records (message_at (entered files) levels) numbers (length bs) bs)) (entered-bare
      files name)
      ∙ within-bare (message_at (entered files) levels) (entered files name) bs

  pub reader-bare : (message : Text) (bytes : List ℕ)
      → reader (map bare_file files) message bytes ≡ reader files message bytes
  reader-bare message bytes = message-bare 256 (Some message) bytes
