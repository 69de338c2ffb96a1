-- A name that is spelled one character behind.
use Rattle.std.proofs.Common.{◌≡◌, ℕ, ◌<◌, ◌+◌, ◌++◌, List, [], ◌∷◌, Bool, Option, Some, None}
use Rattle.std.proofs.Common.{true, false, ◌||◌}
use Rattle.std.specs.Prelude.{if◌then◌else◌}
use Rattle.std.specs.Char.{is_ascii_digit, is_ascii_lowercase, is_ascii_uppercase}
use Rattle.std.specs.List.{list_any}
use Rattle.std.specs.Str.{chars, IsUtf8}
use Rattle.std.proofs.lemmas.Bool.{and_right, cond-false, or_from, or_parts}
use Rattle.std.proofs.lemmas.Bool.Decides.{nat_tests}
use Rattle.std.proofs.lemmas.List.Folds.{list_any-append}
use Rattle.std.proofs.Common.{length, get_or, drop, refl, sym, ap, ◌∙◌, append_assoc, append-nil}
use Rattle.std.proofs.Common.{arith}
use Rattle.std.specs.Prelude.{encode_utf8_all}
use Rattle.std.proofs.lemmas.List.{at_drop_more, drop_all}
use Rattle.std.proofs.lemmas.Str.{chars_from_encodes, encodes-append}
use Rattle.protobuf_parse_index.specs.Held.{spelled_held}
use Rattle.protobuf_parse_index.specs.Spellings.{begins_word, first_of, in_case, is_small}
use Rattle.protobuf_parse_index.specs.Spellings.{spelled, spelled_one}

-- what is left to be written: of the character that is held back, and of those behind it
abbrev pub spelled_rest : (upper : Bool) → (before held : Option ℕ) → List ℕ → List ℕ
spelled_rest upper before None cs = spelled upper None cs
spelled_rest upper before (Some c) cs = spelled upper before (c ∷ cs)

next : (upper : Bool) (before held : Option ℕ) (c : ℕ) (cs : List ℕ)
    → spelled_rest upper before held (c ∷ cs)
    ≡ spelled_held upper before held (Some c) ++ spelled_rest upper held (Some c) cs
next upper before None c cs = refl
next upper before (Some h) c cs = refl

last : (upper : Bool) (before held : Option ℕ)
    → spelled_rest upper before held [] ≡ spelled_held upper before held None
last upper before None = refl
last upper before (Some h) = append-nil (spelled_one upper before h None)

-- one character more
pub spelled-more : (upper : Bool) (before held : Option ℕ) (cs : List ℕ) (n c : ℕ)
    (text more all : List ℕ) → (n < length cs) × (c ≡ get_or cs n c)
    → more ≡ text ++ encode_utf8_all (spelled_held upper before held (Some c))
    → text ++ encode_utf8_all (spelled_rest upper before held (drop n cs)) ≡ all
    → more ++ encode_utf8_all (spelled_rest upper held (Some c) (drop (n + 1) cs)) ≡ all
spelled-more upper before held cs n c text more all h step so_far =
    let rest : List ℕ = spelled_rest upper held (Some c) (drop (n + 1) cs) in
    let one : List ℕ = spelled_held upper before held (Some c) in
    let turn : spelled_rest upper before held (drop n cs) ≡ one ++ rest =
    at_drop_more (spelled_rest upper before held) cs n c h.0
    ∙ ap (λ d. spelled_rest upper before held (d ∷ drop (n + 1) cs)) (sym h.1)
    ∙ next upper before held c (drop (n + 1) cs) in
    ap (λ t. t ++ encode_utf8_all rest) step
    ∙ append_assoc text (encode_utf8_all one) (encode_utf8_all rest)
    ∙ ap (λ t. text ++ t) (sym (encodes-append one rest))
    ∙ ap (λ left. text ++ encode_utf8_all left) (sym turn) ∙ so_far

-- the last of them
pub spelled-end : (upper : Bool) (before held : Option ℕ) (cs : List ℕ) (n : ℕ)
    (text more all : List ℕ) → length cs ≡ n
    → more ≡ text ++ encode_utf8_all (spelled_held upper before held None)
    → text ++ encode_utf8_all (spelled_rest upper before held (drop n cs)) ≡ all → more ≡ all
spelled-end upper before held cs n text more all h step so_far =
    step ∙ ap (λ z. text ++ encode_utf8_all z) (sym (last upper before held))
    ∙ ap (λ z. text ++ encode_utf8_all (spelled_rest upper before held z))
    (sym (drop_all n cs (omega arith))) ∙ so_far

-- ---- what is spelled twice

-- a letter of the other case
abbrev other : (upper : Bool) → ℕ → Bool
other true c = is_ascii_lowercase c
other false c = is_ascii_uppercase c

abbrev other_at : (upper : Bool) → Option ℕ → Bool
other_at upper None = false
other_at upper (Some c) = other upper c

abbrev has_other : (upper : Bool) → List ℕ → Bool
has_other upper cs = list_any (other upper) cs

put-other : (upper : Bool) (c : ℕ) → other upper (in_case upper c) ≡ false
put-other true c = grind (arith, nat_tests)
put-other false c = grind (arith, nat_tests)

put-same : (upper : Bool) (c : ℕ) → other upper c ≡ false → in_case upper c ≡ c
put-same true c h = grind (arith, nat_tests)
put-same false c h = grind (arith, nat_tests)

underscore-other : (upper b : Bool) → has_other upper (if b then 95 ∷ [] else []) ≡ false
underscore-other true true = refl
underscore-other true false = refl
underscore-other false true = refl
underscore-other false false = refl

one-other : (upper : Bool) (before : Option ℕ) (c : ℕ) (after : Option ℕ)
    → has_other upper (spelled_one upper before c after) ≡ false
one-other upper before c after =
    list_any-append (other upper) (if begins_word before c after then 95 ∷ [] else [])
    (in_case upper c ∷ [])
    ∙ or_from (has_other upper (if begins_word before c after then 95 ∷ [] else []))
    (has_other upper (in_case upper c ∷ [])) (underscore-other upper (begins_word before c after))
    (or_from (other upper (in_case upper c)) false (put-other upper c) refl)

spelled-other : (upper : Bool) (before : Option ℕ) (cs : List ℕ)
    → has_other upper (spelled upper before cs) ≡ false
spelled-other upper before [] = refl
spelled-other upper before (c ∷ cs) =
    list_any-append (other upper) (spelled_one upper before c (first_of cs))
    (spelled upper (Some c) cs)
    ∙ or_from (has_other upper (spelled_one upper before c (first_of cs)))
    (has_other upper (spelled upper (Some c) cs)) (one-other upper before c (first_of cs))
    (spelled-other upper (Some c) cs)

first-other : (upper : Bool) (cs : List ℕ) → has_other upper cs ≡ false
    → other_at upper (first_of cs) ≡ false
first-other upper [] h = refl
first-other upper (c ∷ cs) h = (or_parts (other upper c) (has_other upper cs) h).0

small-other : (after : Option ℕ) → other_at true after ≡ false → is_small after ≡ false
small-other None h = refl
small-other (Some c) h = h

begins-not : (upper : Bool) (before : Option ℕ) (c : ℕ) (after : Option ℕ)
    → other_at upper before ≡ false → other upper c ≡ false → other_at upper after ≡ false
    → begins_word before c after ≡ false
begins-not upper None c after b o a = refl
begins-not false (Some before) c after b o a = rw o refl
begins-not true (Some before) c after b o a =
    and_right (is_ascii_uppercase c) _ (or_from (is_ascii_lowercase before) _ b
    (and_right (is_ascii_uppercase before || is_ascii_digit before) (is_small after)
    (small-other after a)))

spelled-same : (upper : Bool) (before : Option ℕ) (cs : List ℕ) → other_at upper before ≡ false
    → has_other upper cs ≡ false → spelled upper before cs ≡ cs
spelled-same upper before [] b h = refl
spelled-same upper before (c ∷ cs) b h =
    let both = or_parts (other upper c) (has_other upper cs) h in
    ap (λ front. (front ++ in_case upper c ∷ []) ++ spelled upper (Some c) cs)
    (cond-false (begins_word before c (first_of cs)) _ _
    (begins-not upper before c (first_of cs) b both.0 (first-other upper cs both.1)))
    ∙ ap (λ first. first ∷ spelled upper (Some c) cs) (put-same upper c both.0)
    ∙ ap (λ rest. c ∷ rest) (spelled-same upper (Some c) cs both.0 both.1)

-- what is spelled so stays as it is
pub spelled-twice : (upper : Bool) (text name : List ℕ) → IsUtf8 text
    → text ≡ encode_utf8_all (spelled upper None (chars name))
    → encode_utf8_all (spelled upper None (chars text)) ≡ text
spelled-twice upper text name utf8 e =
    ap (λ cs. encode_utf8_all (spelled upper None cs))
    (sym (chars_from_encodes (spelled upper None (chars name)) text utf8 (sym e)))
    ∙ ap encode_utf8_all (spelled-same upper None (spelled upper None (chars name)) refl
    (spelled-other upper None (chars name))) ∙ sym e
