-- Numbers of fields are distinct whatever options the files have.
use Rattle.std.proofs.Common.{◌≡◌, List, [], ◌∷◌, ◌++◌, map, flat_map, refl, sym, ap, subst, ◌∙◌}
use Rattle.std.proofs.lemmas.List.{map-append}
use Rattle.protobuf_parse_model.specs.Descriptors.{Text, FieldDescriptor, FileDescriptor}
use Rattle.protobuf_parse_model.specs.Faults.{Among, here, there}
use Rattle.protobuf_parse_elaboration.proofs.Orders.{among-map}
use Rattle.protobuf_parse_wire.specs.Declarations.{Declaration, messages_declared_in}
use Rattle.protobuf_parse_wire.specs.Declarations.{extensions_extending, have_distinct_numbers}
use Rattle.protobuf_parse_options.specs.WithoutOptions.{bare_field, bare_file, NumbersIgnoreOptions}
use Rattle.protobuf_parse_options.proofs.BareDeclarations.{bare_declaration, declared-bare}
use Rattle.protobuf_parse_options.proofs.BareDeclarations.{extensions-of-bare}
use Rattle.protobuf_parse_options.proofs.BareReading.{distinct-bare}

-- what stands among what the elements become is what one of them becomes
mapped-among : {A B : Type 0} (f : A → B) (xs : List A) (y : B) → Among (map f xs) y
    → (x : A) × Among xs x × (f x ≡ y)
mapped-among f [] y h = elim h [ ]
mapped-among f (x ∷ xs) _ here = (x, here, refl)
mapped-among f (x ∷ xs) y (there h) =
    let found = mapped-among f xs y h in (found.0, there found.1, found.2)

-- in a message, without the options of its fields and of its extensions
numbers-bare : (files : List FileDescriptor) (d : Declaration)
    → have_distinct_numbers
    (map bare_field d.parts.field ++ extensions_extending (map bare_file files) d.name)
    ≡ have_distinct_numbers (d.parts.field ++ extensions_extending files d.name)
numbers-bare files d =
    ap (λ (es : List FieldDescriptor). have_distinct_numbers (map bare_field d.parts.field ++ es))
    (extensions-of-bare files d.name)
    ∙ ap (λ (fs : List FieldDescriptor). have_distinct_numbers fs)
    (sym (map-append bare_field d.parts.field (extensions_extending files d.name)))
    ∙ distinct-bare (d.parts.field ++ extensions_extending files d.name)

pub numbers_ignore_options : NumbersIgnoreOptions
numbers_ignore_options files files' same distinct d stands =
    let declared : List FileDescriptor → List Declaration = flat_map messages_declared_in in
    let found = mapped-among bare_declaration (declared files) (bare_declaration d)
    (subst (λ (ds : List Declaration). Among ds (bare_declaration d))
    (sym (declared-bare files')
    ∙ ap (λ (fs : List FileDescriptor). flat_map messages_declared_in fs) (sym same)
    ∙ declared-bare files)
    (among-map bare_declaration (declared files') d stands)) in
    let own : Declaration = found.0 in
    let name : own.name ≡ d.name = ap (λ (x : Declaration). x.name) found.2 in
    let fields : map bare_field own.parts.field ≡ map bare_field d.parts.field =
    ap (λ (x : Declaration). x.parts.field) found.2 in
    sym (numbers-bare files' d)
    ∙ ap (λ (fs : List FieldDescriptor). have_distinct_numbers
    (fs ++ extensions_extending (map bare_file files') d.name)) (sym fields)
    ∙ ap (λ (bare : List FileDescriptor). have_distinct_numbers
    (map bare_field own.parts.field ++ extensions_extending bare d.name)) (sym same)
    ∙ ap (λ (n : Text). have_distinct_numbers
    (map bare_field own.parts.field ++ extensions_extending (map bare_file files) n)) (sym name)
    ∙ numbers-bare files own
    ∙ distinct own found.1
