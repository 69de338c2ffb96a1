-- What a file sees, by the table of declarations.
use Rattle.std.proofs.Common.{◌≡◌, ℕ, suc, List, [], ◌∷◌, ◌++◌, Bool, true, false, cond}
use Rattle.std.proofs.Common.{if◌then◌else◌, Option, Some, None, refl, sym, ap, ◌∙◌, bytes_eq}
use Rattle.std.proofs.Common.{map, flat_map, filter, option_map, nat_eq}
use Rattle.std.specs.List.{find, list_any}
use Rattle.std.specs.Option.{option_or}
use Rattle.std.proofs.lemmas.Slice.Eq.{bytes_eq-Decides}
use Rattle.std.proofs.lemmas.List.Folds.{find-append}
use Rattle.std.proofs.Math.Path.{fun_ext}
use Rattle.protobuf_parse_syntax.specs.Trees.{FileSyntax}
use Rattle.protobuf_parse_model.specs.declared.scope.seen.TypeKind.{TypeKind}
use Rattle.protobuf_parse_model.specs.declared.scope.seen.Declaration.{Declaration}
use Rattle.protobuf_parse_model.specs.declared.scope.seen.Seen.{Seen}
use Rattle.protobuf_parse_model.specs.Descriptors.{Text}
use Rattle.protobuf_parse_model.specs.declared.scope.seen.DeclarationKind.{DeclarationKind}
use Rattle.protobuf_parse_model.specs.declared.scope.seen.DeclarationKind.TheVariants as declaration
use Rattle.protobuf_parse_model.specs.DeclaredAt.{DeclaredAt, file_at}
use Rattle.protobuf_parse_model.specs.Declarations.{DeclaredType, a_message, an_enum, file_types}
use Rattle.protobuf_parse_model.specs.Declarations.{MessageOrEnum}
use Rattle.protobuf_parse_model.specs.Environment.{type_named}
use Rattle.protobuf_parse_model.specs.Lookup.{Meanings, declared, meaning}
use Rattle.protobuf_parse_model.specs.Lookup.{meant as meant_by}
use Rattle.protobuf_parse_model.specs.SeenFiles.{name_texts, names_of_context}
use Rattle.protobuf_parse_model.specs.declared.scope.Context.{Context}
use Rattle.protobuf_parse_model.specs.SeenFiles.{declared_type, first_type, seen_types, type_kind}
use Rattle.protobuf_parse_model.specs.Tables.{TableTells, declared_by, declared_in, picked}
use Rattle.protobuf_parse_model.proofs.DeclaredAt.{type_of, type_when, types_are}
use Rattle.protobuf_parse_model.proofs.Picks.{among, picked_among}

module _ (name : Text) where
  abbrev is_named : DeclaredType → Bool
  is_named d = bytes_eq d.name name

  abbrev named : Text → MessageOrEnum → DeclaredType
  named text k = record { name = text; what = k }

  abbrev meant : Option TypeKind → Option DeclaredType
  meant k = option_map (declared_type name) k

  meant-or : (k rest : Option TypeKind)
      → meant (option_or k rest) ≡ option_or (meant k) (meant rest)
  meant-or None rest = refl
  meant-or (Some k) rest = refl

  or-assoc : (a b c : Option DeclaredType)
      → option_or (option_or a b) c ≡ option_or a (option_or b c)
  or-assoc None b c = refl
  or-assoc (Some a) b c = refl

  -- what a declaration is found as among types, before others
  found : (k : DeclarationKind) (text : Text) (b : Bool) → bytes_eq text name ≡ b
      → (ts : List DeclaredType)
      → find is_named (type_when k text ++ ts)
      ≡ (if b then option_or (meant (type_kind k)) (find is_named ts) else find is_named ts)
  found declaration.Message text true e ts =
      ap (λ z. cond z (Some (named text a_message)) (find is_named ts)) e
      ∙ ap (λ x. Some (named x a_message)) ((bytes_eq-Decides text name).0 e)
  found declaration.Message text false e ts =
      ap (λ z. cond z (Some (named text a_message)) (find is_named ts)) e
  found declaration.Enum text true e ts =
      ap (λ z. cond z (Some (named text an_enum)) (find is_named ts)) e
      ∙ ap (λ x. Some (named x an_enum)) ((bytes_eq-Decides text name).0 e)
  found declaration.Enum text false e ts =
      ap (λ z. cond z (Some (named text an_enum)) (find is_named ts)) e
  found declaration.Generated text true e ts = refl
  found declaration.Generated text false e ts = refl
  found declaration.Extension text true e ts = refl
  found declaration.Extension text false e ts = refl

  module _ (sight : List ℕ) (n : ℕ) where
    abbrev is_it : DeclaredAt → Bool
    is_it d = bytes_eq d.name name

    abbrev made : DeclaredAt → Declaration
    made d = record { file = n; kind = d.what.kind }

    -- the types of a file that is seen
    first_of : list_any (nat_eq n) sight ≡ true → (ds : List DeclaredAt) (rest : List Declaration)
        → meant (first_type sight (declared_by name n ds ++ rest))
        ≡ option_or (find is_named (flat_map type_of ds)) (meant (first_type sight rest))
    first_of e [] rest = refl
    first_of e (d ∷ ds) rest = at (is_it d) refl (first_of e ds rest)
      where
        types : List DeclaredType
        types = flat_map type_of ds

        at : (b : Bool) → is_it d ≡ b
            → meant (first_type sight (declared_by name n ds ++ rest))
            ≡ option_or (find is_named types) (meant (first_type sight rest))
            → meant
            (first_type sight (map made (cond b (d ∷ filter is_it ds) (filter is_it ds)) ++ rest))
            ≡ option_or (find is_named (type_of d ++ types)) (meant (first_type sight rest))
        at false h more = more
            ∙ ap (λ o. option_or o (meant (first_type sight rest)))
            (sym (found d.what.kind d.name false h types))
        at true h more =
            let others = first_type sight (declared_by name n ds ++ rest) in
            ap (λ z. meant (if z then option_or (type_kind d.what.kind) others else others)) e
            ∙ meant-or (type_kind d.what.kind) others
            ∙ ap (λ o. option_or (meant (type_kind d.what.kind)) o) more
            ∙ sym (or-assoc (meant (type_kind d.what.kind)) (find is_named types)
            (meant (first_type sight rest)))
            ∙ ap (λ o. option_or o (meant (first_type sight rest)))
            (sym (found d.what.kind d.name true h types))

    -- a file that isn't seen is passed over
    passed : list_any (nat_eq n) sight ≡ false → (ds : List DeclaredAt) (rest : List Declaration)
        → first_type sight (declared_by name n ds ++ rest) ≡ first_type sight rest
    passed e [] rest = refl
    passed e (d ∷ ds) rest = at (is_it d) (passed e ds rest)
      where
        at : (b : Bool)
            → first_type sight (declared_by name n ds ++ rest) ≡ first_type sight rest
            → first_type sight (map made (cond b (d ∷ filter is_it ds) (filter is_it ds)) ++ rest)
            ≡ first_type sight rest
        at false more = more
        at true more =
            let others = first_type sight (declared_by name n ds ++ rest) in
            ap (λ z. if z then option_or (type_kind d.what.kind) others else others) e ∙ more

  sees : (sight : List ℕ) (n : ℕ) (ts : List FileSyntax)
      → meant (first_type sight (declared_in name n ts))
      ≡ find is_named (flat_map file_types (among sight n ts))
  sees sight n [] = refl
  sees sight n (t ∷ ts) = at (list_any (nat_eq n) sight) refl (sees sight (suc n) ts)
    where
      rest : List Declaration
      rest = declared_in name (suc n) ts

      later : List FileSyntax
      later = among sight (suc n) ts

      at : (b : Bool) → list_any (nat_eq n) sight ≡ b
          → meant (first_type sight rest) ≡ find is_named (flat_map file_types later)
          → meant (first_type sight (declared_by name n (file_at t) ++ rest))
          ≡ find is_named
          (flat_map file_types ((if list_any (nat_eq n) sight then t ∷ [] else []) ++ later))
      at true e more =
          first_of sight n e (file_at t) rest
          ∙ ap (λ ds. option_or (find is_named ds) (meant (first_type sight rest))) (types_are t)
          ∙ ap (λ o. option_or (find is_named (file_types t)) o) more
          ∙ sym (find-append is_named (file_types t) (flat_map file_types later))
          ∙ ap (λ b. find is_named (flat_map file_types ((if b then t ∷ [] else []) ++ later)))
          (sym e)
      at false e more =
          ap meant (passed sight n e (file_at t) rest) ∙ more
          ∙ ap (λ b. find is_named (flat_map file_types ((if b then t ∷ [] else []) ++ later)))
          (sym e)

-- Where the table tells of the files, a file sees just the types of those in its sight.
pub seen_types_are : (seen : Seen) (files : List FileSyntax)
    → TableTells seen.declarations.now files
    → seen_types seen ≡ declared (flat_map file_types (picked files seen.sight.now))
seen_types_are seen files tells = fun_ext (λ (name : Text).
    let sight = seen.sight.now in
    ap (λ ds. option_map (declared_type name) (first_type sight ds)) (tells.declares name)
    ∙ sees name sight 0 files
    ∙ ap (λ fs. declared (flat_map file_types fs) name)
    (picked_among files sight seen.sight_ascends))

-- So what a name means is what the types of those files say.
pub named_by_files : (c : Context) (name : Text) (files : List FileSyntax)
    → TableTells c.seen.declarations.now files → (d : Option DeclaredType)
    → d ≡ type_named (names_of_context c) name
    → d ≡ meaning (flat_map file_types (picked files c.seen.sight.now))
    (name_texts c.scope.now) name
named_by_files c name files tells d h =
    h ∙ ap (λ (of : Meanings MessageOrEnum). meant_by of (name_texts c.scope.now) name)
    (seen_types_are c.seen files tells)
