-- Just the names that a file declares have a last declaration with a place.
use Rattle.std.proofs.Common.{◌≡◌, ◌∙◌, Bool, true, false, ◌&&◌, ◌||◌, List, [], ◌∷◌, ◌++◌, map}
use Rattle.std.proofs.Common.{flat_map, length, filter, Option, Some, None, is_some, ℕ, cond, bytes_eq}
use Rattle.std.proofs.Common.{refl, sym, ap, arith, ltb, if◌then◌else◌, ◌<◌}
use Rattle.std.specs.List.{list_any}
use Rattle.std.proofs.lemmas.Bool.{lt-ltb}
use Rattle.std.proofs.lemmas.Slice.Eq.{bytes_eq-Decides}
use Rattle.protobuf_parse_lexer.specs.declared.lexer.token.Place.{Place}
use Rattle.protobuf_parse_syntax.specs.Trees.{FileSyntax}
use Rattle.protobuf_parse_model.specs.Descriptors.{Text}
use Rattle.protobuf_parse_model.specs.DeclarationLaws.{NamesHavePlaces}
use Rattle.protobuf_parse_model.specs.DeclaredAt.{DeclaredAt, file_at}
use Rattle.protobuf_parse_model.specs.Declarations.{DeclaredType, file_types, file_generated}
use Rattle.protobuf_parse_model.specs.LastDeclared.{last_place, last_declared}
use Rattle.protobuf_parse_model.specs.Linking.{occurrences, declares_name, full_names}
use Rattle.protobuf_parse_model.specs.Tables.{is_of}
use Rattle.protobuf_parse_model.specs.declared.scope.seen.DeclarationKind.{DeclarationKind}
use Rattle.protobuf_parse_model.specs.declared.scope.seen.DeclarationKind.TheVariants as kind
use Rattle.protobuf_parse_model.proofs.DeclaredAt.{type_of, behind_of, extension_of, type_when}
use Rattle.protobuf_parse_model.proofs.DeclaredAt.{behind_when, extension_when}
use Rattle.protobuf_parse_model.proofs.DeclaredAt.{types_are, behind_are, extensions_are}

-- it declares the name so
abbrev named : Bool → Text → DeclaredAt → Bool
named extension name d = is_of extension d.what.kind && bytes_eq d.name name

-- the name stands among these
abbrev has : Text → List Text → Bool
has name names = ltb 0 (occurrences name names)

abbrev name_of : DeclaredType → Text
name_of d = d.name

-- ---- places

one_more : (b c : Bool) (before : Option Place) (p : Place)
    → (is_some (if b then Some p else before) || c) ≡ (is_some before || (b || c))
one_more true c None p = refl
one_more true c (Some q) p = refl
one_more false c before p = refl

placed_when : (extension : Bool) (name : Text) (before : Option Place) (ds : List DeclaredAt)
    → is_some (last_place extension name before ds)
    ≡ (is_some before || list_any (named extension name) ds)
placed_when extension name None [] = refl
placed_when extension name (Some p) [] = refl
placed_when extension name before (d ∷ ds) =
    placed_when extension name
    (if named extension name d then Some d.what.place else before) ds
    ∙ one_more (named extension name d) (list_any (named extension name) ds) before d.what.place

-- ---- names

turned : (a b : Text) → bytes_eq a b ≡ bytes_eq b a
turned a b = go (bytes_eq a b) (bytes_eq b a) refl refl
  where
    go : (x y : Bool) → bytes_eq a b ≡ x → bytes_eq b a ≡ y → bytes_eq a b ≡ bytes_eq b a
    go true y p q =
        p ∙ sym ((bytes_eq-Decides b a).1 (sym ((bytes_eq-Decides a b).0 p)))
    go false true p q =
        (bytes_eq-Decides a b).1 (sym ((bytes_eq-Decides b a).0 q)) ∙ sym q
    go false false p q = p ∙ sym q

first_or : (name n : Text) (names : List Text)
    → has name (n ∷ names) ≡ (bytes_eq name n || has name names)
first_or name n names = go (bytes_eq name n)
  where
    go : (b : Bool)
        → ltb 0 (length (cond b (n ∷ filter (bytes_eq name) names) (filter (bytes_eq name) names)))
        ≡ (b || has name names)
    go true = lt-ltb 0 (length (n ∷ filter (bytes_eq name) names)) (omega arith)
    go false = refl

either_has : (name : Text) (xs ys : List Text) → has name (xs ++ ys) ≡ (has name xs || has name ys)
either_has name [] ys = refl
either_has name (x ∷ xs) ys =
    first_or name x (xs ++ ys) ∙ ap (λ b. bytes_eq name x || b) (either_has name xs ys)
    ∙ grouped (bytes_eq name x) (has name xs) (has name ys)
    ∙ ap (λ b. b || has name ys) (sym (first_or name x xs))
  where
    grouped : (a b c : Bool) → (a || (b || c)) ≡ ((a || b) || c)
    grouped true b c = refl
    grouped false b c = refl

-- ---- extensions

extension_named : (name : Text) (ds : List DeclaredAt)
    → has name (flat_map extension_of ds) ≡ list_any (named true name) ds
extension_named name [] = refl
extension_named name (d ∷ ds) = at (extension_named name ds) d.what.kind
  where
    at : has name (flat_map extension_of ds) ≡ list_any (named true name) ds
        → (k : DeclarationKind) → has name (extension_when k d.name ++ flat_map extension_of ds)
        ≡ ((is_of true k && bytes_eq d.name name) || list_any (named true name) ds)
    at more kind.Message = more
    at more kind.Enum = more
    at more kind.Generated = more
    at more kind.Extension =
        first_or name d.name (flat_map extension_of ds)
        ∙ ap (λ b. b || has name (flat_map extension_of ds)) (turned name d.name)
        ∙ ap (λ b. bytes_eq d.name name || b) more

-- ---- messages and enums

first_of_two : (a f g any : Bool) → (f || g) ≡ any → ((a || f) || g) ≡ (a || any)
first_of_two true f g any e = refl
first_of_two false f g any e = e

second_of_two : (a f g any : Bool) → (f || g) ≡ any → (f || (a || g)) ≡ (a || any)
second_of_two true true g any e = refl
second_of_two true false g any e = refl
second_of_two false f g any e = e

type_named : (name : Text) (ds : List DeclaredAt)
    → (has name (map name_of (flat_map type_of ds)) || has name (flat_map behind_of ds))
    ≡ list_any (named false name) ds
type_named name [] = refl
type_named name (d ∷ ds) = at (type_named name ds) d.what.kind
  where
    own : (f : Bool) → (bytes_eq name d.name || f) ≡ (bytes_eq d.name name || f)
    own f = ap (λ b. b || f) (turned name d.name)

    at : (has name (map name_of (flat_map type_of ds)) || has name (flat_map behind_of ds))
        ≡ list_any (named false name) ds
        → (k : DeclarationKind)
        → (has name (map name_of (type_when k d.name ++ flat_map type_of ds))
        || has name (behind_when k d.name ++ flat_map behind_of ds))
        ≡ ((is_of false k && bytes_eq d.name name) || list_any (named false name) ds)
    at more kind.Message =
        ap (λ b. b || has name (flat_map behind_of ds))
        (first_or name d.name (map name_of (flat_map type_of ds))
        ∙ own (has name (map name_of (flat_map type_of ds))))
        ∙ first_of_two (bytes_eq d.name name) (has name (map name_of (flat_map type_of ds)))
        (has name (flat_map behind_of ds)) (list_any (named false name) ds) more
    at more kind.Enum =
        ap (λ b. b || has name (flat_map behind_of ds))
        (first_or name d.name (map name_of (flat_map type_of ds))
        ∙ own (has name (map name_of (flat_map type_of ds))))
        ∙ first_of_two (bytes_eq d.name name) (has name (map name_of (flat_map type_of ds)))
        (has name (flat_map behind_of ds)) (list_any (named false name) ds) more
    at more kind.Generated =
        ap (λ b. has name (map name_of (flat_map type_of ds)) || b)
        (first_or name d.name (flat_map behind_of ds) ∙ own (has name (flat_map behind_of ds)))
        ∙ second_of_two (bytes_eq d.name name) (has name (map name_of (flat_map type_of ds)))
        (has name (flat_map behind_of ds)) (list_any (named false name) ds) more
    at more kind.Extension = more

-- ---- a file

lists_are : (extension : Bool) (name : Text) (t : FileSyntax)
    → has name (full_names extension t) ≡ list_any (named extension name) (file_at t)
lists_are true name t = ap (has name) (sym (extensions_are t)) ∙ extension_named name (file_at t)
lists_are false name t =
    either_has name (map name_of (file_types t)) (file_generated t)
    ∙ ap (λ ts. has name (map name_of ts) || has name (file_generated t)) (sym (types_are t))
    ∙ ap (λ ns. has name (map name_of (flat_map type_of (file_at t))) || has name ns)
    (sym (behind_are t))
    ∙ type_named name (file_at t)

pub names_have_places : NamesHavePlaces
names_have_places extension name t =
    placed_when extension name None (file_at t) ∙ sym (lists_are extension name t)
