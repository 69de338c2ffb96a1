-- Spellings of a name: by bytes and by characters, and what a second spelling gives.
use Rattle.std.specs.Prelude.{if◌then◌else◌, encode_utf8_all}
use Rattle.std.proofs.Common.{◌≡◌, ℕ, ◌==◌, ◌<◌, ◌≤◌, ◌+◌, ◌++◌, ◌&&◌, List, [], ◌∷◌, Bool, true}
use Rattle.std.proofs.Common.{false, length, get_or, take, drop, refl, sym, ap, ◌∙◌, append_assoc}
use Rattle.std.proofs.Common.{append-nil, arith, inl, inr, suc}
use Rattle.std.proofs.lemmas.Bool.{cases_Bool, cases_lt, cond-true, cond-false, or_parts, or_from}
use Rattle.std.proofs.lemmas.Bool.{and_parts, and_from, and_right}
use Rattle.std.proofs.lemmas.Bool.Decides.{nat_tests}
use Rattle.std.proofs.lemmas.List.{at_drop_more, drop_all, take_all}
use Rattle.std.proofs.lemmas.List.Folds.{list_any-append}
use Rattle.std.proofs.lemmas.Str.{encodes-append, chars_from_encodes, encodes-chars, scalars-chars}
use Rattle.std.proofs.lemmas.Str.{inside_one, length-encode, len_utf8_bounds, encode_ascii}
use Rattle.std.proofs.lemmas.Str.Ascii.{uppercase-uppercase, uppercase_ascii}
use Rattle.std.proofs.Math.Utf8.{scalar, scalars}
use Rattle.std.specs.Char.{to_ascii_uppercase, to_ascii_lowercase, is_ascii_uppercase, encode_utf8}
use Rattle.std.specs.List.{list_any}
use Rattle.std.specs.Str.{chars, IsUtf8}
use Rattle.ucd_derived.specs.Binary.{is_lowercase}
use Rattle.protobuf_parse_base.specs.Cases.{joined_words, camel_case_of, split_words, snake_case_of}
use Rattle.protobuf_parse_base.specs.Cases.{has_underscore, camel_case_text, snake_case_text}

-- ---- the words of a text, by its bytes

-- bytes beyond ASCII are neither an underscore nor letters with a case
high-other : (b : ℕ) → 128 ≤ b → (b == 95) ≡ false
high-other b h = grind (arith, nat_tests)

high-same : (raise : Bool) (b : ℕ) → 128 ≤ b → (if raise then to_ascii_uppercase b else b) ≡ b
high-same true b h = grind (arith, nat_tests)
high-same false b h = refl

high-kept : (raise : Bool) (b : ℕ) (bs : List ℕ) → 128 ≤ b
    → joined_words raise (b ∷ bs) ≡ b ∷ joined_words false bs
high-kept raise b bs h =
    cond-false (b == 95) _ _ (high-other b h)
    ∙ ap (λ first. first ∷ joined_words false bs) (high-same raise b h)

joined_words-high : (bs rest : List ℕ) → ((k : ℕ) → k < length bs → 128 ≤ get_or bs k 0)
    → joined_words false (bs ++ rest) ≡ bs ++ joined_words false rest
joined_words-high [] rest h = refl
joined_words-high (b ∷ bs) rest h =
    high-kept false b (bs ++ rest) (h 0 (omega arith))
    ∙ ap (λ t. b ∷ t) (joined_words-high bs rest (λ k l. h (suc k) (omega arith)))

joined_words-beyond : (raise : Bool) (bs rest : List ℕ) → 0 < length bs
    → ((k : ℕ) → k < length bs → 128 ≤ get_or bs k 0)
    → joined_words raise (bs ++ rest) ≡ bs ++ joined_words false rest
joined_words-beyond raise [] rest l h = absurd (omega arith)
joined_words-beyond raise (b ∷ bs) rest l h =
    high-kept raise b (bs ++ rest) (h 0 (omega arith))
    ∙ ap (λ t. b ∷ t) (joined_words-high bs rest (λ k l. h (suc k) (omega arith)))

-- each byte of a character beyond ASCII is beyond ASCII
encode-beyond : (c k : ℕ) → 128 ≤ c → k < length (encode_utf8 c) → 128 ≤ get_or (encode_utf8 c) k 0
encode-beyond c k h l =
    elim (cases_lt (get_or (encode_utf8 c) k 0) 128) [
      | inr high ↦ high
      | inl low ↦
          let same = inside_one c [] (encode_utf8 c) k (sym (append-nil (encode_utf8 c))) l low in
          absurd (omega arith)
    ]

raised-ascii : (raise : Bool) (c : ℕ) → c < 128
    → (if raise then to_ascii_uppercase c else c) < 128
raised-ascii true c h = uppercase_ascii c h
raised-ascii false c h = h

-- a character beyond ASCII is neither, too
joined_words-encodes : (raise : Bool) (cs : List ℕ)
    → joined_words raise (encode_utf8_all cs) ≡ encode_utf8_all (joined_words raise cs)
joined_words-encodes raise [] = refl
joined_words-encodes raise (c ∷ cs) =
    elim (cases_lt c 128) [
      | inr high ↦
          joined_words-beyond raise (encode_utf8 c) (encode_utf8_all cs)
          (rw (length-encode c) ((len_utf8_bounds c).0)) (λ k l. encode-beyond c k high l)
          ∙ (ap (λ t. encode_utf8 c ++ t) (joined_words-encodes false cs)
          ∙ ap encode_utf8_all (sym (high-kept raise c cs high)))
      | inl low ↦
          ap (λ t. joined_words raise (t ++ encode_utf8_all cs)) (encode_ascii c low)
          ∙ elim (cases_Bool (c == 95)) [
            | inl underscore ↦ cond-true (c == 95) _ _ underscore
                ∙ (joined_words-encodes true cs
                ∙ ap encode_utf8_all (sym (cond-true (c == 95) _ _ underscore)))
            | inr other ↦ cond-false (c == 95) _ _ other
                ∙ (ap (λ t. (if raise then to_ascii_uppercase c else c) ∷ t)
                (joined_words-encodes false cs)
                ∙ (ap (λ t. t ++ encode_utf8_all (joined_words false cs))
                (sym (encode_ascii (if raise then to_ascii_uppercase c else c)
                (raised-ascii raise c low)))
                ∙ ap encode_utf8_all (sym (cond-false (c == 95) _ _ other))))
          ]
    ]

pub joined_words-text : (raise : Bool) (name : List ℕ) → IsUtf8 name
    → joined_words raise name ≡ encode_utf8_all (joined_words raise (chars name))
joined_words-text raise name utf8 =
    ap (joined_words raise) (sym (encodes-chars name utf8))
    ∙ joined_words-encodes raise (chars name)

raised-scalar : (raise : Bool) (c : ℕ) → scalar c ≡ true
    → scalar (if raise then to_ascii_uppercase c else c) ≡ true
raised-scalar true c h = grind (arith, nat_tests)
raised-scalar false c h = h

joined_words-scalars : (raise : Bool) (cs : List ℕ) → scalars cs ≡ true
    → scalars (joined_words raise cs) ≡ true
joined_words-scalars raise [] h = refl
joined_words-scalars raise (c ∷ cs) h =
    let both = and_parts (scalar c) (scalars cs) h in
    elim (cases_Bool (c == 95)) [
      | inl underscore ↦ ap scalars (cond-true (c == 95) _ _ underscore)
          ∙ joined_words-scalars true cs both.1
      | inr other ↦ ap scalars (cond-false (c == 95) _ _ other)
          ∙ and_from (scalar (if raise then to_ascii_uppercase c else c))
          (scalars (joined_words false cs)) (raised-scalar raise c both.0)
          (joined_words-scalars false cs both.1)
    ]

-- the bytes of a text, so spelled, are a text
pub IsUtf8-joined_words : (raise : Bool) (name : List ℕ) → IsUtf8 name
    → IsUtf8 (joined_words raise name)
IsUtf8-joined_words raise name utf8 = (
  joined_words raise (chars name),
  (
    joined_words-scalars raise (chars name) (scalars-chars name utf8),
    sym (joined_words-text raise name utf8),
  ),
)

-- ---- camel case of camel case

raised-other : (c : ℕ) → (c == 95) ≡ false → (to_ascii_uppercase c == 95) ≡ false
raised-other c h = grind (arith, nat_tests)

raised_if-other : (raise : Bool) (c : ℕ) → (c == 95) ≡ false
    → ((if raise then to_ascii_uppercase c else c) == 95) ≡ false
raised_if-other true c h = raised-other c h
raised_if-other false c h = h

pub joined_words-no_underscore : (raise : Bool) (cs : List ℕ)
    → has_underscore (joined_words raise cs) ≡ false
joined_words-no_underscore raise [] = refl
joined_words-no_underscore raise (c ∷ cs) =
    elim (cases_Bool (c == 95)) [
      | inl underscore ↦ ap has_underscore (cond-true (c == 95) _ _ underscore)
          ∙ joined_words-no_underscore true cs
      | inr other ↦ ap has_underscore (cond-false (c == 95) _ _ other)
          ∙ or_from ((if raise then to_ascii_uppercase c else c) == 95)
          (has_underscore (joined_words false cs)) (raised_if-other raise c other)
          (joined_words-no_underscore false cs)
    ]

joined_words-same : (cs : List ℕ) → has_underscore cs ≡ false → joined_words false cs ≡ cs
joined_words-same [] h = refl
joined_words-same (c ∷ cs) h =
    let both = or_parts (c == 95) (has_underscore cs) h in
    cond-false (c == 95) _ _ both.0 ∙ ap (λ rest. c ∷ rest) (joined_words-same cs both.1)

-- a name of which each byte stands before the first underscore stays as it is
pub joined_words-plain : (n : ℕ) (bytes : List ℕ) → length bytes ≤ n
    → take n bytes ++ joined_words false (drop n bytes) ≡ joined_words false bytes
    → joined_words false bytes ≡ bytes
joined_words-plain n bytes h e =
    sym e
    ∙ (ap (λ front. front ++ joined_words false (drop n bytes)) (take_all n bytes h)
    ∙ (ap (λ rest. bytes ++ joined_words false rest) (drop_all n bytes h) ∙ append-nil bytes))

camel_case_of-twice : (cs : List ℕ) → camel_case_of (camel_case_of cs) ≡ camel_case_of cs
camel_case_of-twice [] = refl
camel_case_of-twice (c ∷ cs) =
    elim (cases_Bool (c == 95)) [
      | inl underscore ↦
          let same : camel_case_of (c ∷ cs)
          ≡ camel_case_of cs = cond-true (c == 95) _ _ underscore in
          ap camel_case_of same ∙ (camel_case_of-twice cs ∙ sym same)
      | inr other ↦
          let same : camel_case_of (c ∷ cs) ≡ to_ascii_uppercase c
          ∷ joined_words false cs = cond-false (c == 95) _ _ other in
          ap camel_case_of same
          ∙ (cond-false (to_ascii_uppercase c == 95) _ _ (raised-other c other)
          ∙ (ap (λ first. first ∷ joined_words false (joined_words false cs))
          (uppercase-uppercase c)
          ∙ (ap (λ rest. to_ascii_uppercase c ∷ rest)
          (joined_words-same (joined_words false cs) (joined_words-no_underscore false cs))
          ∙ sym same)))
    ]

-- a text of these characters has these characters
pub chars-text : (text cs : List ℕ) → IsUtf8 text → text ≡ encode_utf8_all cs → chars text ≡ cs
chars-text text cs utf8 e = sym (chars_from_encodes cs text utf8 (sym e))

pub camel_case_text-twice : (text name : List ℕ) → IsUtf8 text → text ≡ camel_case_text name
    → camel_case_text text ≡ text
camel_case_text-twice text name utf8 e =
    ap (λ cs. encode_utf8_all (camel_case_of cs))
    (chars-text text (camel_case_of (chars name)) utf8 e)
    ∙ (ap encode_utf8_all (camel_case_of-twice (chars name)) ∙ sym e)

pub camel_case_text-no_underscore : (text name : List ℕ) → IsUtf8 text → text ≡ camel_case_text name
    → has_underscore (chars text) ≡ false
camel_case_text-no_underscore text name utf8 e =
    ap has_underscore (chars-text text (camel_case_of (chars name)) utf8 e)
    ∙ joined_words-no_underscore true (chars name)

-- ---- words that are split

abbrev pub split_one : Bool → ℕ → List ℕ
split_one after_lower c = (if after_lower && is_ascii_uppercase c then 95 ∷ [] else [])
    ++ to_ascii_lowercase c ∷ []

split_words-one : (after_lower : Bool) (c : ℕ) (cs : List ℕ)
    → split_words after_lower (c ∷ cs) ≡ split_one after_lower c ++ split_words (is_lowercase c) cs
split_words-one after_lower c cs =
    sym (append_assoc (if after_lower && is_ascii_uppercase c then 95 ∷ [] else [])
    (to_ascii_lowercase c ∷ []) (split_words (is_lowercase c) cs))

pub split_words-more : (after_lower lower : Bool) (cs : List ℕ) (n c : ℕ) (text next all : List ℕ)
    → (n < length cs) × (c ≡ get_or cs n c)
    → next ≡ text ++ encode_utf8_all (split_one after_lower c) → lower ≡ is_lowercase c
    → text ++ encode_utf8_all (split_words after_lower (drop n cs)) ≡ all
    → next ++ encode_utf8_all (split_words lower (drop (n + 1) cs)) ≡ all
split_words-more after_lower lower cs n c text next all h step lower_is before =
    let rest : List ℕ = split_words (is_lowercase c) (drop (n + 1) cs) in
    let turn : split_words after_lower (drop n cs) ≡ split_one after_lower c ++ rest =
    at_drop_more (split_words after_lower) cs n c h.0
    ∙ (ap (λ d. split_words after_lower (d ∷ drop (n + 1) cs)) (sym h.1)
    ∙ split_words-one after_lower c (drop (n + 1) cs)) in
    ap (λ b. next ++ encode_utf8_all (split_words b (drop (n + 1) cs))) lower_is
    ∙ (ap (λ t. t ++ encode_utf8_all rest) step
    ∙ (append_assoc text (encode_utf8_all (split_one after_lower c)) (encode_utf8_all rest)
    ∙ (ap (λ t. text ++ t) (sym (encodes-append (split_one after_lower c) rest))
    ∙ (ap (λ left. text ++ encode_utf8_all left) (sym turn) ∙ before))))

pub split_words-end : (after_lower : Bool) (cs : List ℕ) (n : ℕ) (text all : List ℕ) → length cs ≡ n
    → text ++ encode_utf8_all (split_words after_lower (drop n cs)) ≡ all → text ≡ all
split_words-end after_lower cs n text all h before =
    sym (append-nil text)
    ∙ (ap (λ rest. text ++ encode_utf8_all (split_words after_lower rest))
    (sym (drop_all n cs (omega arith))) ∙ before)

-- ---- snake case of snake case

abbrev has_capital : List ℕ → Bool
has_capital cs = list_any is_ascii_uppercase cs

lowered-other : (c : ℕ) → is_ascii_uppercase (to_ascii_lowercase c) ≡ false
lowered-other c = grind (arith, nat_tests)

lowered-same : (c : ℕ) → is_ascii_uppercase c ≡ false → to_ascii_lowercase c ≡ c
lowered-same c h = grind (arith, nat_tests)

underscore_if-no_capital : (b : Bool) → has_capital (if b then 95 ∷ [] else []) ≡ false
underscore_if-no_capital true = refl
underscore_if-no_capital false = refl

split_words-no_capital : (after_lower : Bool) (cs : List ℕ)
    → has_capital (split_words after_lower cs) ≡ false
split_words-no_capital after_lower [] = refl
split_words-no_capital after_lower (c ∷ cs) =
    let rest : List ℕ = to_ascii_lowercase c ∷ split_words (is_lowercase c) cs in
    list_any-append is_ascii_uppercase
    (if after_lower && is_ascii_uppercase c then 95 ∷ [] else []) rest
    ∙ or_from (has_capital (if after_lower && is_ascii_uppercase c then 95 ∷ [] else []))
    (has_capital rest) (underscore_if-no_capital (after_lower && is_ascii_uppercase c))
    (or_from (is_ascii_uppercase (to_ascii_lowercase c))
    (has_capital (split_words (is_lowercase c) cs)) (lowered-other c)
    (split_words-no_capital (is_lowercase c) cs))

split_words-same : (after_lower : Bool) (cs : List ℕ) → has_capital cs ≡ false
    → split_words after_lower cs ≡ cs
split_words-same after_lower [] h = refl
split_words-same after_lower (c ∷ cs) h =
    let both = or_parts (is_ascii_uppercase c) (has_capital cs) h in
    ap (λ front. front ++ (to_ascii_lowercase c ∷ split_words (is_lowercase c) cs))
    (cond-false (after_lower && is_ascii_uppercase c) _ _
    (and_right after_lower (is_ascii_uppercase c) both.0))
    ∙ (ap (λ first. first ∷ split_words (is_lowercase c) cs) (lowered-same c both.0)
    ∙ ap (λ rest. c ∷ rest) (split_words-same (is_lowercase c) cs both.1))

pub snake_case_text-twice : (text name : List ℕ) → IsUtf8 text → text ≡ snake_case_text name
    → snake_case_text text ≡ text
snake_case_text-twice text name utf8 e =
    ap (λ cs. encode_utf8_all (snake_case_of cs))
    (chars-text text (snake_case_of (chars name)) utf8 e)
    ∙ (ap encode_utf8_all
    (split_words-same false (snake_case_of (chars name))
    (split_words-no_capital false (chars name))) ∙ sym e)
