-- What is written of a string character by character, and of a list item by item.
use Rattle.std.specs.Prelude.{Result, Ok, IsOk, ℤ, Vec, String, string_bytes, flat_map, codes}
use Rattle.std.specs.Prelude.{if◌then◌else◌, encode_utf8_all, encode_utf8}
use Rattle.std.proofs.Common.{◌≡◌, ℕ, suc, Global, ◌==◌, ◌<◌, ◌≤◌, ◌+◌, ◌++◌, ◌&&◌, List, [], ◌∷◌}
use Rattle.std.proofs.Common.{Bool, true, false, not, length, get_or, take, map, map-id, subst}
use Rattle.std.proofs.Common.{refl, sym, ap, ◌∙◌, append_assoc, append-nil, arith, inl, inr, ltb}
use Rattle.std.proofs.lemmas.Bool.{cases_Bool, ne_eqb, ltb-true, ltb-false}
use Rattle.std.proofs.lemmas.List.{map-append, length-map, length-take-le, take_more}
use Rattle.std.proofs.lemmas.Str.{encodes-append, encode_ascii, inside_one, length-encode}
use Rattle.std.proofs.lemmas.Str.{len_utf8_bounds, encodes-chars}
use Rattle.std.specs.Fmt.{decimal, signed_decimal}
use Rattle.std.specs.List.{join_with_byte}
use Rattle.std.specs.Str.{IsUtf8, chars}
use Rattle.protobuf_parse_lexer.specs.Text.{Bytes}
use Rattle.protobuf_parse_lexer.specs.declared.lexer.str_lit.StrLit.{StrLit}
use Rattle.protobuf_parse_syntax.specs.Formats.{truth_word, escape_before, quotes_escaped}
use Rattle.protobuf_parse_syntax.specs.Formats.{string_text, format, formats, all_fields_text}
use Rattle.protobuf_parse_syntax.specs.ListTexts.{constant_field_text, list_text, message_text}
use Rattle.protobuf_parse_syntax.specs.Trees.{ConstantSyntax, truth, ConstantFieldSyntax, constants}
use Rattle.protobuf_parse_syntax.specs.Trees.{constant_fields, constant_step, constant_field_step}
use Rattle.protobuf_parse_syntax.specs.Trees.{constant_syntax, pieces_of}
use Rattle.protobuf_parse_syntax.specs.InnerViews.{constant_field_syntax}
use Rattle.protobuf_parse_syntax.specs.declared.tree.constant.ConstantField.{ConstantField}
use Rattle.protobuf_parse_syntax.specs.declared.tree.constant.ProtobufConstant.{ProtobufConstant}
use Rattle.protobuf_parse_syntax.specs.declared.tree.constant.ProtobufConstant.{fold-roll-ProtobufConstant}
use Rattle.protobuf_parse_syntax.specs.declared.tree.constant.ProtobufConstant.TheOpen as layer
use Rattle.protobuf_parse_syntax.specs.declared.tree.constant.ProtobufConstant.TheVariants.{U64}
use Rattle.protobuf_parse_syntax.specs.declared.tree.constant.ProtobufConstant.TheVariants.{I64}
use Rattle.protobuf_parse_syntax.specs.declared.tree.constant.ProtobufConstant.TheVariants.{Bool as Truth}
use Rattle.protobuf_parse_syntax.specs.declared.tree.constant.ProtobufConstant.TheVariants.{Ident}
use Rattle.protobuf_parse_syntax.specs.declared.tree.constant.ProtobufConstant.TheVariants.{String as Text}
use Rattle.protobuf_parse_syntax.specs.declared.tree.constant.ProtobufConstant.TheVariants.{List as Constants}
use Rattle.protobuf_parse_syntax.specs.declared.tree.constant.ProtobufConstant.TheVariants.{Message as Fields}
use Rattle.protobuf_parse_syntax.specs.declared.tree.constant.ProtobufConstant.TheVariants.{rolls-Bool}
use Rattle.protobuf_parse_syntax.proofs.Views.{views_number, views_signed, views_ident, views_text}
use Rattle.protobuf_parse_syntax.proofs.Views.{views_list, views_fields}

-- ---- quotes

-- whether a backslash takes what follows the bytes
abbrev pub takes_next : Bool → Bytes → Bool
takes_next taken [] = taken
takes_next taken (b ∷ bs) = takes_next (b == 92 && not taken) bs

takes_next-append : (taken : Bool) (xs ys : Bytes)
    → takes_next taken (xs ++ ys) ≡ takes_next (takes_next taken xs) ys
takes_next-append taken [] ys = refl
takes_next-append taken (b ∷ xs) ys = takes_next-append (b == 92 && not taken) xs ys

quotes_escaped-append : (taken : Bool) (xs ys : Bytes)
    → quotes_escaped taken (xs ++ ys) ≡ quotes_escaped taken xs
    ++ quotes_escaped (takes_next taken xs) ys
quotes_escaped-append taken [] ys = refl
quotes_escaped-append taken (b ∷ xs) ys =
    ap (λ rest. escape_before taken b ++ b ∷ rest)
    (quotes_escaped-append (b == 92 && not taken) xs ys)
    ∙ sym (append_assoc (escape_before taken b) (b ∷ quotes_escaped (b == 92 && not taken) xs)
    (quotes_escaped (takes_next (b == 92 && not taken) xs) ys))

-- no byte is ASCII
abbrev IsHigh : Bytes → Type 0
IsHigh bs = (k : ℕ) → k < length bs → 128 ≤ get_or bs k 0

IsHigh-encode : (c : ℕ) → 128 ≤ c → IsHigh (encode_utf8 c)
IsHigh-encode c large k within =
    elim (cases_Bool (ltb (get_or (encode_utf8 c) k 0) 128)) [
      | inl low ↦ let small : get_or (encode_utf8 c) k 0
          < 128 = omega (arith, ltb-true (get_or (encode_utf8 c) k 0) 128 low) in
          let same = inside_one c [] (encode_utf8 c) k
          (sym (append-nil (encode_utf8 c))) within small in absurd (omega arith)
      | inr high ↦ omega (arith, ltb-false (get_or (encode_utf8 c) k 0) 128 high)
    ]

tail_high : (b : ℕ) (bs : Bytes) → IsHigh (b ∷ bs) → IsHigh bs
tail_high b bs high k within = high (suc k) (omega arith)

quotes_escaped-high : (taken : Bool) (bs : Bytes) → IsHigh bs → quotes_escaped taken bs ≡ bs
quotes_escaped-high taken [] high = refl
quotes_escaped-high taken (b ∷ bs) high =
    let large : 128 ≤ b = high 0 (omega arith) in
    rw (ne_eqb b 34 (λ e. omega arith))
    (ap (λ rest. b ∷ rest)
    (quotes_escaped-high (b == 92 && not taken) bs (tail_high b bs high)))

takes_next-high : (taken : Bool) (bs : Bytes) → 0 < length bs → IsHigh bs
    → takes_next taken bs ≡ false
takes_next-high taken [] some high = absurd (omega arith)
takes_next-high taken (b ∷ []) some high =
    rw (ne_eqb b 92 (λ e. omega (arith, high 0 (omega arith)))) refl
takes_next-high taken (b ∷ d ∷ bs) some high =
    takes_next-high (b == 92 && not taken) (d ∷ bs) (omega arith) (tail_high b (d ∷ bs) high)

-- one character
quotes_escaped-one : (taken : Bool) (c : ℕ)
    → quotes_escaped taken (encode_utf8 c) ≡ escape_before taken c ++ encode_utf8 c
quotes_escaped-one taken c =
    elim (cases_Bool (ltb c 128)) [
      | inl low ↦ rw (encode_ascii c (omega (arith, ltb-true c 128 low))) refl
      | inr high ↦ let large : 128 ≤ c = omega (arith, ltb-false c 128 high) in
          quotes_escaped-high taken (encode_utf8 c) (IsHigh-encode c large)
          ∙ rw (ne_eqb c 34 (λ e. omega arith)) refl
    ]

takes_next-one : (taken : Bool) (c : ℕ) → takes_next taken (encode_utf8 c) ≡ (c == 92 && not taken)
takes_next-one taken c =
    elim (cases_Bool (ltb c 128)) [
      | inl low ↦ rw (encode_ascii c (omega (arith, ltb-true c 128 low))) refl
      | inr high ↦ let large : 128 ≤ c = omega (arith, ltb-false c 128 high) in
          takes_next-high taken (encode_utf8 c) (omega (arith, length-encode c, len_utf8_bounds c))
          (IsHigh-encode c large) ∙ rw (ne_eqb c 92 (λ e. omega arith)) refl
    ]

-- one character more
encodes-more : (cs : List ℕ) (c : ℕ)
    → encode_utf8_all (cs ++ c ∷ []) ≡ encode_utf8_all cs ++ encode_utf8 c
encodes-more cs c = encodes-append cs (c ∷ [])
    ∙ ap (λ t. encode_utf8_all cs ++ t) (append-nil (encode_utf8 c))

pub quotes_escaped-more : (cs : List ℕ) (c : ℕ)
    → quotes_escaped false (encode_utf8_all cs)
    ++ (escape_before (takes_next false (encode_utf8_all cs)) c ++ encode_utf8 c)
    ≡ quotes_escaped false (encode_utf8_all (cs ++ c ∷ []))
quotes_escaped-more cs c =
    let text = encode_utf8_all cs in
    ap (λ t. quotes_escaped false text ++ t) (sym (quotes_escaped-one (takes_next false text) c))
    ∙ (sym (quotes_escaped-append false text (encode_utf8 c))
    ∙ ap (quotes_escaped false) (sym (encodes-more cs c)))

pub takes_next-more : (cs : List ℕ) (c : ℕ)
    → takes_next false (encode_utf8_all (cs ++ c ∷ []))
    ≡ (c == 92 && not (takes_next false (encode_utf8_all cs)))
takes_next-more cs c =
    let text = encode_utf8_all cs in
    ap (takes_next false) (encodes-more cs c)
    ∙ (takes_next-append false text (encode_utf8 c) ∙ takes_next-one (takes_next false text) c)

-- the characters of a text are all of it
pub encodes-all : (cs : List ℕ) (text : Bytes) → IsUtf8 text → map (λ (c : ℕ). c) cs ≡ chars text
    → encode_utf8_all cs ≡ text
encodes-all cs text utf8 e = ap encode_utf8_all (sym (map-id cs) ∙ e) ∙ encodes-chars text utf8

-- ---- lists

-- what stands before an item that so many come before
abbrev pub before_item : ℕ → ℕ → Bytes
before_item c n = if n == 0 then [] else c ∷ []

before_later : (c : ℕ) (x : Bytes) (xs : List Bytes) → before_item c (length (x ∷ xs)) ≡ c ∷ []
before_later c x xs = rw (ne_eqb (length (x ∷ xs)) 0 (λ e. omega arith)) refl

join-more : (c : ℕ) (xs : List Bytes) (x : Bytes)
    → join_with_byte c (xs ++ x ∷ []) ≡ join_with_byte c xs ++ (before_item c (length xs) ++ x)
join-more c [] x = refl
join-more c (y ∷ []) x = refl
join-more c (y ∷ z ∷ ys) x =
    let inside = join_with_byte c (z ∷ ys) in
    ap (λ v. y ++ (c ∷ v)) (join-more c (z ∷ ys) x
    ∙ ap (λ b. inside ++ (b ++ x)) (before_later c z ys))
    ∙ (sym (append_assoc y (c ∷ inside) (c ∷ x))
    ∙ ap (λ b. (y ++ (c ∷ inside)) ++ (b ++ x)) (sym (before_later c y (z ∷ ys))))

-- one item more
pub views-more : {A B : Type 0} (view : A → B) (xs : List A) (k : ℕ) (x : A) → k < length xs
    → x ≡ get_or xs k x → map view (take k xs) ++ view x ∷ [] ≡ map view (take (k + 1) xs)
views-more view xs k x within is =
    sym (map-append view (take k xs) (x ∷ []))
    ∙ ap (map view) (ap (λ y. take k xs ++ y ∷ []) is ∙ sym (take_more xs k x within))

pub join-take : {A B : Type 0} (text : B → Bytes) (view : A → B) (c : ℕ) (xs : List A) (k : ℕ)
    (x : A) → k < length xs → x ≡ get_or xs k x
    → join_with_byte c (map text (map view (take k xs))) ++ (before_item c k ++ text (view x))
    ≡ join_with_byte c (map text (map view (take (k + 1) xs)))
join-take text view c xs k x within is =
    let views = map view (take k xs) in
    let before = map text views in
    let many : length before ≡ k = length-map views text
    ∙ (length-map (take k xs) view ∙ length-take-le k xs (omega arith)) in
    ap (λ n. join_with_byte c before ++ (before_item c n ++ text (view x))) (sym many)
    ∙ (sym (join-more c before (text (view x)))
    ∙ ap (join_with_byte c) (sym (map-append text views (view x ∷ []))
    ∙ ap (map text) (views-more view xs k x within is)))

-- ---- what is written

pub is_ok-from : {X E : Type 0} (r : Result X E) (x : X) → r ≡ Ok x → IsOk r
is_ok-from {X = X} {E = E} r x e = subst (λ (s : Result X E). IsOk s) (sym e) refl

-- ---- constants

formats-list : (cs : List ConstantSyntax) → formats (constants cs) ≡ map format cs
unfolding formats
formats-list [] = refl
formats-list (c ∷ cs) = ap (λ texts. format c ∷ texts) (formats-list cs)

all_fields_text-list : (fs : List ConstantFieldSyntax)
    → all_fields_text (constant_fields fs) ≡ flat_map constant_field_text fs
unfolding all_fields_text
all_fields_text-list [] = refl
all_fields_text-list (f ∷ fs) = ap (λ text. constant_field_text f ++ text) (all_fields_text-list fs)

views_truth : (b : Bool) → constant_syntax (Truth b) ≡ truth b
views_truth b = ap constant_syntax (sym (rolls-Bool b))
    ∙ fold-roll-ProtobufConstant ConstantSyntax ConstantFieldSyntax constant_step
    constant_field_step (layer.Bool b)

truth_word-is : (b : Bool) → (if b then codes "true" else codes "false") ≡ truth_word b
truth_word-is true = refl
truth_word-is false = refl

-- the text of each kind of constant
pub format-number : (c : ProtobufConstant) (n : ℕ) → c ≡ U64 n
    → decimal n ≡ format (constant_syntax c)
unfolding format
format-number c n is = ap format (sym (ap constant_syntax is ∙ views_number n))

pub format-signed : (c : ProtobufConstant) (z : ℤ) → c ≡ I64 z
    → signed_decimal z ≡ format (constant_syntax c)
unfolding format
format-signed c z is = ap format (sym (ap constant_syntax is ∙ views_signed z))

pub format-truth : (c : ProtobufConstant) (b : Bool) → c ≡ Truth b
    → (if b then codes "true" else codes "false") ≡ format (constant_syntax c)
unfolding format
format-truth c b is = truth_word-is b ∙ ap format (sym (ap constant_syntax is ∙ views_truth b))

pub format-ident : (c : ProtobufConstant) (n : String Global) → c ≡ Ident n
    → string_bytes n ≡ format (constant_syntax c)
unfolding format
format-ident c n is = ap format (sym (ap constant_syntax is ∙ views_ident n))

pub format-text : (c : ProtobufConstant) (t : StrLit) → c ≡ Text t
    → string_text (pieces_of t) ≡ format (constant_syntax c)
unfolding format
format-text c t is = ap format (sym (ap constant_syntax is ∙ views_text t))

pub format-list : (c : ProtobufConstant) (v : Vec ProtobufConstant Global) → c ≡ Constants v
    → list_text (map constant_syntax v.items) ≡ format (constant_syntax c)
unfolding format
format-list c v is =
    ap (λ texts. codes "[" ++ join_with_byte 44 texts ++ codes "]")
    (sym (formats-list (map constant_syntax v.items)))
    ∙ ap format (sym (ap constant_syntax is ∙ views_list v))

pub format-message : (c : ProtobufConstant) (v : Vec ConstantField Global) → c ≡ Fields v
    → message_text (map constant_field_syntax v.items) ≡ format (constant_syntax c)
unfolding format
format-message c v is =
    ap (λ text. codes "{ " ++ text ++ codes "}")
    (sym (all_fields_text-list (map constant_field_syntax v.items)))
    ∙ ap format (sym (ap constant_syntax is ∙ views_fields v))
