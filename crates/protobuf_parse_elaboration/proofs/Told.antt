-- Names that stand twice, each told at its place.
use Rattle.std.proofs.Common.{◌≡◌, ◌∙◌, List, [], ◌∷◌, ◌++◌, map, refl, sym, ap, append_assoc}
use Rattle.std.proofs.Common.{flat_map, append-nil, Bool, true, false, cond, length}
use Rattle.std.proofs.lemmas.List.{length-map, map-append}
use Rattle.std.specs.Prelude.{not, ◌||◌}
use Rattle.protobuf_parse_model.proofs.OrTests.{cond-true_or}
use Rattle.protobuf_parse_lexer.specs.declared.lexer.token.Place.{Place}
use Rattle.protobuf_parse_syntax.specs.Trees.{FieldSyntax, TypeSyntax, map_of}
use Rattle.protobuf_parse_model.specs.Descriptors.{Text}
use Rattle.protobuf_parse_model.specs.Duplicates.{NamedAt, duplicates, fault_when, repeats_after}
use Rattle.protobuf_parse_model.specs.Duplicates.{stands_in}
use Rattle.protobuf_parse_model.specs.Faults.{Fault, placed}
use Rattle.protobuf_parse_model.specs.Environment.{Environment}
use Rattle.protobuf_parse_model.specs.declared.descriptor.FieldType.{FieldType}
use Rattle.protobuf_parse_model.specs.declared.descriptor.FieldType.TheVariants.{Message}
use Rattle.protobuf_parse_model.specs.declared.error.ElabErrorKind.TheVariants.{DuplicateName}
use Rattle.protobuf_parse_elaboration.specs.Fields.{faults_of_options, field_faults, type_faults}

abbrev pub names_of : List NamedAt → List Text
names_of xs = map (λ (n : NamedAt). n.name) xs

-- with a name more
pub repeats_more : (before : List Text) (xs : List NamedAt) (x : NamedAt)
    → repeats_after before (xs ++ x ∷ [])
    ≡ repeats_after before xs
    ++ placed x.place (fault_when (stands_in x.name (before ++ names_of xs)) DuplicateName x.name)
repeats_more before [] x =
    rw (
      append-nil before,
      append-nil (placed x.place (fault_when (stands_in x.name before) DuplicateName x.name)),
    ) refl
repeats_more before (y ∷ xs) x =
    let first = placed y.place (fault_when (stands_in y.name before) DuplicateName y.name) in
    ap (λ z. first ++ z)
    (repeats_more (before ++ y.name ∷ []) xs x
    ∙ ap (λ (z : List Text). repeats_after (before ++ y.name ∷ []) xs
    ++ placed x.place (fault_when (stands_in x.name z) DuplicateName x.name))
    (append_assoc before (y.name ∷ []) (names_of xs)))
    ∙ sym (append_assoc first (repeats_after (before ++ y.name ∷ []) xs)
    (placed x.place
    (fault_when (stands_in x.name (before ++ (y.name ∷ names_of xs))) DuplicateName x.name)))

pub told_more : (f0 f1 f2 : List Fault) (before after : List NamedAt) (x : NamedAt) (again : Bool)
    → f1 ≡ f0 ++ duplicates before
    → f2 ≡ f1 ++ placed x.place (fault_when again DuplicateName x.name)
    → again ≡ stands_in x.name (names_of before) → after ≡ before ++ x ∷ []
    → f2 ≡ f0 ++ duplicates after
told_more f0 f1 f2 before after x again told next is more =
    let fault = placed x.place (fault_when again DuplicateName x.name) in
    next ∙ ap (λ f. f ++ fault) told ∙ append_assoc f0 (duplicates before) fault
    ∙ ap (λ z. f0 ++ z)
    (ap (λ (b : Bool). duplicates before ++ placed x.place (fault_when b DuplicateName x.name)) is
    ∙ sym (repeats_more [] before x) ∙ ap duplicates (sym more))

pub not_not : (b r : Bool) → r ≡ not b → not r ≡ b
not_not true r e = rw e refl
not_not false r e = rw e refl

-- whether a name was seen, once one more was
pub seen_more : (new t b r s : Bool) → new ≡ cond t true r → t ≡ b → r ≡ s → new ≡ (b || s)
seen_more new t b r s e p q =
    e ∙ ap (λ z. cond z true r) p ∙ ap (λ z. cond b true z) q ∙ cond-true_or b s

-- ---- declarations, by their names and their places

head-is : {A : Type 0} {x y : A} {xs ys : List A} → x ∷ xs ≡ y ∷ ys → x ≡ y
head-is h = cc

tail-is : {A : Type 0} {x y : A} {xs ys : List A} → x ∷ xs ≡ y ∷ ys → xs ≡ ys
tail-is h = cc

pub same_declared : (xs ys : List NamedAt)
    → map (λ (d : NamedAt). d.name) xs ≡ map (λ (d : NamedAt). d.name) ys
    → map (λ (d : NamedAt). d.place) xs ≡ map (λ (d : NamedAt). d.place) ys → xs ≡ ys
same_declared [] [] names places = refl
same_declared [] (y ∷ ys) names places = absurd cc
same_declared (x ∷ xs) [] names places = absurd cc
same_declared (x ∷ xs) (y ∷ ys) names places =
    let name : x.name ≡ y.name = head-is names in
    let place : x.place ≡ y.place = head-is places in
    let rest : xs ≡ ys = same_declared xs ys (tail-is names) (tail-is places) in
    let one : record { place = x.place; name = x.name } ≡ y = rw (place, name) refl in
    rw (one, rest) refl

-- as many places as items
pub same_length : {A : Type 0} (name : A → Text) (items : List A) (places : List Place)
    (declared : List NamedAt) → map name items ≡ names_of declared
    → places ≡ map (λ (d : NamedAt). d.place) declared → length places ≡ length items
same_length name items places declared named at =
    ap length at ∙ length-map declared (λ (d : NamedAt). d.place)
    ∙ sym (length-map declared (λ (d : NamedAt). d.name)) ∙ sym (ap length named)
    ∙ length-map items name

-- nothing is told where nothing stands twice
pub told_none : (f0 : List Fault) (declared : List NamedAt) → duplicates declared ≡ []
    → f0 ≡ f0 ++ duplicates declared
told_none f0 declared none = sym (ap (λ fs. f0 ++ fs) none ∙ append-nil f0)

-- the names of what is declared, one by one
pub names_seen : {A : Type 0} (declares : A → NamedAt) (xs : List A)
    → names_of (map declares xs) ≡ map (λ x. (declares x).name) xs
names_seen declares [] = refl
names_seen declares (x ∷ xs) = ap (λ ns. (declares x).name ∷ ns) (names_seen declares xs)

pub each_alone : {A B : Type 0} (declares : B → NamedAt) (view : A → B) (xs : List A)
    → flat_map (λ x. declares (view x) ∷ []) xs ≡ map declares (map view xs)
each_alone declares view [] = refl
each_alone declares view (x ∷ xs) = ap (λ ds. declares (view x) ∷ ds) (each_alone declares view xs)

-- the same where some declare several things, and some none
pub each_among : {A B C : Type 0} (declares : C → NamedAt) (parts : B → List C) (view : A → B)
    (xs : List A) → flat_map (λ x. map declares (parts (view x))) xs
    ≡ map declares (flat_map parts (map view xs))
each_among declares parts view [] = refl
each_among declares parts view (x ∷ xs) =
    ap (λ ds. map declares (parts (view x)) ++ ds) (each_among declares parts view xs)
    ∙ sym (map-append declares (parts (view x)) (flat_map parts (map view xs)))

-- ---- what is told kind by kind

pub four_told : (f0 f1 f2 f3 f4 d1 d2 d3 d4 : List Fault) → f1 ≡ f0 ++ d1 → f2 ≡ f1 ++ d2
    → f3 ≡ f2 ++ d3 → f4 ≡ f3 ++ d4 → f4 ≡ f0 ++ (d1 ++ d2 ++ d3 ++ d4)
four_told f0 f1 f2 f3 f4 d1 d2 d3 d4 e1 e2 e3 e4 =
    e4 ∙ ap (λ f. f ++ d4) (e3 ∙ ap (λ f. f ++ d3) (e2 ∙ ap (λ f. f ++ d2) e1))
    ∙ ap (λ f. (f ++ d3) ++ d4) (append_assoc f0 d1 d2)
    ∙ ap (λ f. f ++ d4) (append_assoc f0 (d1 ++ d2) d3)
    ∙ append_assoc f0 (d1 ++ d2 ++ d3) d4

pub five_told : (f0 f1 f2 f3 f4 f5 d1 d2 d3 d4 d5 : List Fault) → f1 ≡ f0 ++ d1 → f2 ≡ f1 ++ d2
    → f3 ≡ f2 ++ d3 → f4 ≡ f3 ++ d4 → f5 ≡ f4 ++ d5 → f5 ≡ f0 ++ (d1 ++ d2 ++ d3 ++ d4 ++ d5)
five_told f0 f1 f2 f3 f4 f5 d1 d2 d3 d4 d5 e1 e2 e3 e4 e5 =
    e5 ∙ ap (λ f. f ++ d5) (four_told f0 f1 f2 f3 f4 d1 d2 d3 d4 e1 e2 e3 e4)
    ∙ append_assoc f0 (d1 ++ d2 ++ d3 ++ d4) d5

-- what is told of a map's types, and then of its options
pub map_told : (env : Environment) (f : FieldSyntax) (key value : TypeSyntax)
    (f0 f1 f2 : List Fault) (k : FieldType) → f.type_ ≡ map_of key value → k ≡ Message
    → f1 ≡ f0 ++ placed f.place (type_faults env f.name (map_of key value))
    → f2 ≡ f1 ++ faults_of_options env k f.name f.options → f2 ≡ f0 ++ field_faults env f
map_told env f key value f0 f1 f2 k map_is kind_is types options =
    let all : (placed f.place (type_faults env f.name (map_of key value))
    ++ faults_of_options env k f.name f.options) ≡ field_faults env f = rw (map_is, kind_is) refl in
    options ∙ ap (λ fs. fs ++ faults_of_options env k f.name f.options) types
    ∙ append_assoc f0 (placed f.place (type_faults env f.name (map_of key value)))
    (faults_of_options env k f.name f.options) ∙ ap (λ fs. f0 ++ fs) all
