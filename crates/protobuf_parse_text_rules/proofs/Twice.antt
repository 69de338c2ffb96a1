-- Options that are set twice.
use Rattle.std.proofs.Common.{◌≡◌, ◌∙◌, ◌++◌, ◌∷◌, ◌||◌, [], Bool, true, false, cond, List, ap, map}
use Rattle.std.proofs.Common.{refl, sym, append_assoc, append-nil, not}
use Rattle.std.specs.Prelude.{bytes_eq}
use Rattle.protobuf_parse_lexer.specs.Text.{Bytes}
use Rattle.protobuf_parse_text_rules.specs.Breaches.{TextBreach, breach_if}
use Rattle.protobuf_parse_text_rules.specs.Options.{NamedOption, set_twice, stands_in}
use Rattle.protobuf_parse_text_rules.specs.declared.rule.TextRule.TheVariants as rule

-- the names of options
abbrev pub names_of : List NamedOption → List Bytes
names_of os = map (λ (o : NamedOption). o.name) os

-- what is told of an option, if it is told
abbrev pub at_option : Bool → NamedOption → List TextBreach
at_option again o = breach_if again rule.OptionTwice o.place o.name

-- with an option more
pub twice_more : (before : List Bytes) (os : List NamedOption) (o : NamedOption)
    → set_twice before (os ++ o ∷ [])
    ≡ set_twice before os ++ at_option (stands_in o.name (before ++ names_of os)) o
twice_more before [] o =
    append-nil (at_option (stands_in o.name before) o)
    ∙ ap (λ ns. at_option (stands_in o.name ns) o) (sym (append-nil before))
twice_more before (p ∷ os) o =
    let first = at_option (stands_in p.name before) p in
    ap (λ z. first ++ z)
    (twice_more (before ++ p.name ∷ []) os o
    ∙ ap (λ (z : List Bytes). set_twice (before ++ p.name ∷ []) os
    ++ at_option (stands_in o.name z) o)
    (append_assoc before (p.name ∷ []) (names_of os)))
    ∙ sym (append_assoc first (set_twice (before ++ p.name ∷ []) os)
    (at_option (stands_in o.name (before ++ (p.name ∷ names_of os))) o))

pub told_more : (t0 t1 t2 : List TextBreach) (before after : List NamedOption) (o : NamedOption)
    (again : Bool) → t1 ≡ t0 ++ set_twice [] before → t2 ≡ t1 ++ at_option again o
    → again ≡ stands_in o.name (names_of before) → after ≡ before ++ o ∷ []
    → t2 ≡ t0 ++ set_twice [] after
told_more t0 t1 t2 before after o again told next is more =
    next ∙ ap (λ t. t ++ at_option again o) told
    ∙ append_assoc t0 (set_twice [] before) (at_option again o)
    ∙ ap (λ z. t0 ++ z)
    (ap (λ (b : Bool). set_twice [] before ++ at_option b o) is
    ∙ sym (twice_more [] before o) ∙ ap (set_twice []) (sym more))

pub not_not : (b r : Bool) → r ≡ not b → not r ≡ b
not_not true r e = rw e refl
not_not false r e = rw e refl

or_left : (a b c : Bool) → (a || (b || c)) ≡ (b || (a || c))
or_left true true c = refl
or_left true false c = refl
or_left false true c = refl
or_left false false c = refl

pub stands_in-push : (n x : Bytes) (xs : List Bytes)
    → stands_in n (xs ++ x ∷ []) ≡ (bytes_eq x n || stands_in n xs)
stands_in-push n x [] = refl
stands_in-push n x (y ∷ xs) = ap (λ b. bytes_eq y n || b) (stands_in-push n x xs)
    ∙ or_left (bytes_eq y n) (bytes_eq x n) (stands_in n xs)

cond_or : (b s : Bool) → cond b true s ≡ (b || s)
cond_or true s = refl
cond_or false s = refl

-- whether a name was seen, once one more was
pub seen_more : (new t b r s : Bool) → new ≡ cond t true r → t ≡ b → r ≡ s → new ≡ (b || s)
seen_more new t b r s e p q =
    e ∙ ap (λ z. cond z true r) p ∙ ap (λ z. cond b true z) q ∙ cond_or b s
