-- Where no number is in use already, the numbers of each message are distinct.
use Rattle.std.proofs.Common.{◌≡◌, ℕ, ℤ, ◌+◌, ◌≤◌, Bool, true, false, cond, ◌&&◌, ◌⊎◌, inl, inr}
use Rattle.std.proofs.Common.{List, [], ◌∷◌}
use Rattle.std.proofs.Common.{◌++◌, map, refl, sym, ap, ◌∙◌, append-nil, arith, Option, Some, None}
use Rattle.std.specs.Prelude.{option_to_list, bytes_eq, filter}
use Rattle.std.specs.List.{flat_map}
use Rattle.std.specs.Option.{option_map_or}
use Rattle.std.specs.Ordering.{int_eq}
use Rattle.std.proofs.lemmas.Slice.Eq.{bytes_eq-Decides}
use Rattle.std.proofs.lemmas.List.{map-append}
use Rattle.std.proofs.lemmas.List.Elements.{filter-append}
use Rattle.std.proofs.lemmas.Grind.{flat_map-append}
use Rattle.protobuf_parse_model.specs.Declarations.{Declared}
use Rattle.protobuf_parse_model.specs.Descriptors.{Text, FieldDescriptor, FileDescriptor}
use Rattle.protobuf_parse_model.specs.Faults.{Among, here, there}
use Rattle.protobuf_parse_wire.specs.Declarations.{Declaration, messages_declared_in, extends}
use Rattle.protobuf_parse_wire.specs.Declarations.{extensions_extending, extensions_declared_in}
use Rattle.protobuf_parse_wire.specs.Declarations.{extensions_within, package_scope}
use Rattle.protobuf_parse_rules.specs.Bodies.{BodyParts, extensions_of, fields_of, file_path}
use Rattle.protobuf_parse_rules.specs.Bodies.{is_proto3, message_body, outer_body, bodies_in}
use Rattle.protobuf_parse_rules.specs.Law.{NumbersAreApart}
use Rattle.protobuf_parse_rules.specs.Claims.{Thing}
use Rattle.protobuf_parse_rules.specs.Numbers.{claim_of, claims, extension_claim}
use Rattle.protobuf_parse_rules.specs.Numbers.{extension_claims, field_claims}
use Rattle.protobuf_parse_rules.specs.Violations.{breaches_after}
use Rattle.protobuf_parse_rules.proofs.Counting.{claimed, claimed-append, distinct, few_after}
use Rattle.protobuf_parse_rules.proofs.Counting.{none_left}
use Rattle.protobuf_parse_rules.proofs.Counting.{numbered, numbered-append, one_if}

-- ---- the claims of a message are its fields and the extensions of it

-- a number of the message of that name
abbrev number_of : (message : Text) → ℤ → Thing
number_of m n = record { number = n; name = m; scope = [] }

same_text : (x y : Text) → bytes_eq x y ≡ bytes_eq y x
same_text x y = at (bytes_eq x y) (bytes_eq y x) refl refl
  where
    at : (a b : Bool) → bytes_eq x y ≡ a → bytes_eq y x ≡ b → a ≡ b
    at true true p q = refl
    at false false p q = refl
    at true false p q = sym ((bytes_eq-Decides y x).1 (sym ((bytes_eq-Decides x y).0 p))) ∙ q
    at false true p q = sym p ∙ (bytes_eq-Decides x y).1 (sym ((bytes_eq-Decides y x).0 q))

and_true : (b : Bool) → (b && true) ≡ b
and_true true = refl
and_true false = refl

and_false : (b : Bool) → ((b && false) && true) ≡ false
and_false true = refl
and_false false = refl

and_trues : (b : Bool) → ((b && true) && true) ≡ b
and_trues true = refl
and_trues false = refl

own_claims : (file m : Text) (n : ℤ) (fs : List FieldDescriptor)
    → claimed (number_of m n) (field_claims file m fs) ≡ numbered n fs
own_claims file m n [] = refl
own_claims file m n (f ∷ fs) =
    let e : one_if ((int_eq f.number n && bytes_eq m m) && true) ≡ one_if (int_eq f.number n) =
    ap (λ b. one_if ((int_eq f.number n && b) && true)) ((bytes_eq-Decides m m).1 refl)
    ∙ ap one_if (and_trues (int_eq f.number n)) in
    omega (arith, e, own_claims file m n fs)

one_extension : (file scope m : Text) (n : ℤ) (e : FieldDescriptor)
    → claimed (number_of m n) (extension_claim file scope e)
    ≡ numbered n (filter (extends m) (e ∷ []))
one_extension file scope m n e = at e.extendee
  where
    by_test : (b : Bool)
        → one_if ((int_eq e.number n && b) && true) + 0 ≡ numbered n (cond b (e ∷ []) [])
    by_test true = ap (λ b. one_if b + 0) (and_trues (int_eq e.number n))
    by_test false = ap (λ b. one_if b + 0) (and_false (int_eq e.number n))

    at : (x : Option Text)
        → claimed (number_of m n) (map (λ (t : Text). claim_of file scope t e) (option_to_list x))
        ≡ numbered n (cond (option_map_or (bytes_eq m) x false) (e ∷ []) [])
    at None = refl
    at (Some x) = by_test (bytes_eq x m)
        ∙ ap (λ b. numbered n (cond b (e ∷ []) [])) (same_text x m)

claims_of_extensions : (file scope m : Text) (n : ℤ) (es : List FieldDescriptor)
    → claimed (number_of m n) (extension_claims file scope es) ≡ numbered n (filter (extends m) es)
claims_of_extensions file scope m n [] = refl
claims_of_extensions file scope m n (e ∷ es) =
    let left = claimed-append (number_of m n) (extension_claim file scope e)
    (extension_claims file scope es) in
    let right = ap (numbered n) (filter-append (extends m) (e ∷ []) es)
    ∙ numbered-append n (filter (extends m) (e ∷ [])) (filter (extends m) es) in
    left
    ∙ ap (λ k. k + claimed (number_of m n) (extension_claims file scope es))
    (one_extension file scope m n e)
    ∙ ap (λ k. numbered n (filter (extends m) (e ∷ [])) + k)
    (claims_of_extensions file scope m n es)
    ∙ sym right

abbrev fields_at : BodyParts → List FieldDescriptor
fields_at p = fields_of p.content

abbrev extensions_at : BodyParts → List FieldDescriptor
extensions_at p = extensions_of p.content

abbrev own_claims_at : Text → ℤ → BodyParts → ℕ
own_claims_at m n p = claimed (number_of m n) (field_claims p.file p.scope (fields_at p))

-- the claims of a body, and those of bodies: of the extensions all, of the fields at least these
claims_at : (m : Text) (n : ℤ) (p : BodyParts)
    → claimed (number_of m n) (claims p)
    ≡ own_claims_at m n p + numbered n (filter (extends m) (extensions_at p))
claims_at m n p =
    claimed-append (number_of m n) (field_claims p.file p.scope (fields_at p))
    (extension_claims p.file p.scope (extensions_at p))
    ∙ ap (λ k. own_claims_at m n p + k)
    (claims_of_extensions p.file p.scope m n (extensions_at p))

numbered-extensions : (m : Text) (n : ℤ) (p : BodyParts) (ps : List BodyParts)
    → numbered n (filter (extends m) (flat_map extensions_at (p ∷ ps)))
    ≡ numbered n (filter (extends m) (extensions_at p))
    + numbered n (filter (extends m) (flat_map extensions_at ps))
numbered-extensions m n p ps =
    ap (numbered n) (filter-append (extends m) (extensions_at p) (flat_map extensions_at ps))
    ∙ numbered-append n (filter (extends m) (extensions_at p))
    (filter (extends m) (flat_map extensions_at ps))

extensions_within_claims : (m : Text) (n : ℤ) (ps : List BodyParts)
    → numbered n (filter (extends m) (flat_map extensions_at ps))
    ≤ claimed (number_of m n) (flat_map claims ps)
extensions_within_claims m n [] = omega arith
extensions_within_claims m n (p ∷ ps) =
    omega (
      arith,
      numbered-extensions m n p ps,
      claims_at m n p,
      claimed-append (number_of m n) (claims p) (flat_map claims ps),
      extensions_within_claims m n ps,
    )

-- the fields of a message of that name, and all extensions of it
within_claims : (m : Text) (n : ℤ) (p : BodyParts) (ps : List BodyParts) → p.scope ≡ m → Among ps p
    → numbered n (fields_at p) + numbered n (filter (extends m) (flat_map extensions_at ps))
    ≤ claimed (number_of m n) (flat_map claims ps)
within_claims m n p [] named h = elim h [ ]
within_claims m n p (q ∷ ps) named here =
    let own : own_claims_at m n p ≡ numbered n (fields_at p) =
    ap (λ (s : Text). claimed (number_of m n) (field_claims p.file s (fields_at p))) named
    ∙ own_claims p.file m n (fields_at p) in
    omega (
      arith,
      numbered-extensions m n p ps,
      claims_at m n p,
      own,
      claimed-append (number_of m n) (claims p) (flat_map claims ps),
      extensions_within_claims m n ps,
    )
within_claims m n p (q ∷ ps) named (there among) =
    omega (
      arith,
      numbered-extensions m n q ps,
      claims_at m n q,
      claimed-append (number_of m n) (claims q) (flat_map claims ps),
      within_claims m n p ps named among,
    )

-- ---- the bodies of files have their messages and extensions

abbrev field_of : Declared FieldDescriptor → FieldDescriptor
field_of e = e.what

fields_within : (scope : Text) (fs : List FieldDescriptor)
    → map field_of (extensions_within scope fs) ≡ fs
fields_within scope [] = refl
fields_within scope (f ∷ fs) = ap (λ (gs : List FieldDescriptor). f ∷ gs) (fields_within scope fs)

fields_inside : (path : Text) (proto3 : Bool) (ds : List Declaration)
    → map field_of (flat_map (λ (d : Declaration). extensions_within d.name d.parts.extension) ds)
    ≡ flat_map extensions_at (map (message_body path proto3) ds)
fields_inside path proto3 [] = refl
fields_inside path proto3 (d ∷ ds) =
    map-append field_of (extensions_within d.name d.parts.extension)
    (flat_map (λ (x : Declaration). extensions_within x.name x.parts.extension) ds)
    ∙ ap (λ (fs : List FieldDescriptor). fs
    ++ map field_of
    (flat_map (λ (x : Declaration). extensions_within x.name x.parts.extension) ds)) (fields_within
    d.name d.parts.extension)
    ∙ ap (λ (fs : List FieldDescriptor). d.parts.extension ++ fs) (fields_inside path proto3 ds)

extensions_are : (file : FileDescriptor)
    → flat_map extensions_at (bodies_in file) ≡ extensions_declared_in file
extensions_are file =
    let ds = messages_declared_in file in
    let path = file_path file in
    let proto3 = is_proto3 file in
    flat_map-append extensions_at (map (message_body path proto3) ds) (outer_body file ∷ [])
    ∙ ap (λ z. flat_map extensions_at (map (message_body path proto3) ds) ++ z)
    (append-nil file.extension)
    ∙ sym (map-append field_of
    (flat_map (λ (d : Declaration). extensions_within d.name d.parts.extension) ds)
    (extensions_within (package_scope file.«package») file.extension)
    ∙ ap (λ (fs : List FieldDescriptor). fs
    ++ map field_of (extensions_within (package_scope file.«package») file.extension))
    (fields_inside path proto3 ds)
    ∙ ap (λ (fs : List FieldDescriptor). flat_map extensions_at (map (message_body path proto3) ds)
    ++ fs)
    (fields_within (package_scope file.«package») file.extension))

all_extensions : (files : List FileDescriptor)
    → flat_map extensions_at (flat_map bodies_in files) ≡ flat_map extensions_declared_in files
all_extensions [] = refl
all_extensions (f ∷ fs) = flat_map-append extensions_at (bodies_in f) (flat_map bodies_in fs)
    ∙ ap (λ z. z ++ flat_map extensions_at (flat_map bodies_in fs)) (extensions_are f)
    ∙ ap (λ z. extensions_declared_in f ++ z) (all_extensions fs)

pub among_left : {X : Type 0} (xs ys : List X) (x : X) → Among xs x → Among (xs ++ ys) x
among_left [] ys x h = elim h [ ]
among_left (y ∷ xs) ys x here = here
among_left (y ∷ xs) ys x (there h) = there (among_left xs ys x h)

pub among_right : {X : Type 0} (xs ys : List X) (x : X) → Among ys x → Among (xs ++ ys) x
among_right [] ys x h = h
among_right (z ∷ xs) ys x h = there (among_right xs ys x h)

pub among_append : {X : Type 0} (xs ys : List X) (x : X) → Among (xs ++ ys) x
    → Among xs x ⊎ Among ys x
among_append [] ys x h = inr h
among_append (y ∷ xs) ys x here = inl here
among_append (y ∷ xs) ys x (there h) = at (among_append xs ys x h)
  where
    at : Among xs x ⊎ Among ys x → Among (y ∷ xs) x ⊎ Among ys x
    at (inl a) = inl (there a)
    at (inr b) = inr b

among_map : {X Y : Type 0} (f : X → Y) (xs : List X) (x : X) → Among xs x → Among (map f xs) (f x)
among_map f [] x h = elim h [ ]
among_map f (y ∷ xs) x here = here
among_map f (y ∷ xs) x (there h) = there (among_map f xs x h)

-- each message that is declared has its body
placed : (files : List FileDescriptor) (d : Declaration)
    → Among (flat_map messages_declared_in files) d
    → (path : Text) × (proto3 : Bool)
    × Among (flat_map bodies_in files) (message_body path proto3 d)
placed [] d h = elim h [ ]
placed (f ∷ fs) d h = at (among_append (messages_declared_in f) _ d h) (placed fs d)
  where
    at : Among (messages_declared_in f) d ⊎ Among (flat_map messages_declared_in fs) d
        → (Among (flat_map messages_declared_in fs) d
        → (path : Text) × (proto3 : Bool)
        × Among (flat_map bodies_in fs) (message_body path proto3 d))
        → (path : Text) × (proto3 : Bool)
        × Among (flat_map bodies_in (f ∷ fs)) (message_body path proto3 d)
    at (inl a) more = (
      file_path f,
      is_proto3 f,
      among_left (bodies_in f) (flat_map bodies_in fs) _
          (among_left (map (message_body (file_path f) (is_proto3 f)) (messages_declared_in f)) _ _
          (among_map (message_body (file_path f) (is_proto3 f)) (messages_declared_in f) d a)),
    )
    at (inr b) more =
        let rest = more b in
        (rest.0, rest.1, among_right (bodies_in f) (flat_map bodies_in fs) _ rest.2)

pub apart : NumbersAreApart
apart files e d among =
    let found = placed files d among in
    let p = message_body found.0 found.1 d in
    let ps = flat_map bodies_in files in
    let few = few_after ps [] ps (none_left (breaches_after ps [] ps) _ e) (λ t. omega arith) in
    distinct (d.parts.field ++ extensions_extending files d.name)
    (λ n.
    let all : filter (extends d.name) (flat_map extensions_at ps)
    ≡ extensions_extending files d.name = ap (filter (extends d.name)) (all_extensions files) in
    omega (
      arith,
      numbered-append n d.parts.field (extensions_extending files d.name),
      ap (numbered n) all,
      within_claims d.name n p ps refl found.2,
      few (number_of d.name n),
    ))
