-- What is known of a set.
use Rattle.std.proofs.Common.{◌≡◌, ◌∙◌, ℕ, List, Option, map, ap, refl, Bool}
use Rattle.std.specs.Borrow.{Bor}
use Rattle.std.specs.BTreeMap.{BTreeMap}
use Rattle.std.specs.Option.{option_and_then}
use Rattle.std.specs.Prelude.{slice_get}
use Rattle.protobuf_parse_model.specs.Descriptors.{FileDescriptor, Text}
use Rattle.protobuf_parse_set_rules.specs.Positions.{position_in}
use Rattle.protobuf_parse_set_rules.specs.Sights.{Known, Paths, kind_seen, sees, sight_of}
use Rattle.protobuf_parse_set_rules.specs.Types.{DeclaredType, set_types, type_name, type_named}
use Rattle.protobuf_parse_set_rules.specs.Held.{positions_view, type_view, types_view}
use Rattle.protobuf_parse_set_rules.specs.declared.types.TypeName.{TypeName}

-- each part is known
pub known_same : (a b : Paths) (p q : List (List ℕ)) (s t : Text → Option DeclaredType)
    (k l : Known) → k ≡ record { paths = a; publics = p; types = s }
    → l ≡ record { paths = b; publics = q; types = t } → a ≡ b → p ≡ q → s ≡ t → k ≡ l
known_same a b p q s t k l first last e f g = rw (first, last, e, f, g) refl

-- the types by their names
pub types_known : (types : List TypeName) (names : BTreeMap (Bor (List ℕ)) ℕ)
    (files : List FileDescriptor)
    → positions_view names ≡ position_in (map type_name (map type_view types))
    → map type_view types ≡ set_types files
    → types_view types names ≡ type_named (set_types files)
types_known types names files e h =
    (λ i name. option_and_then (slice_get (map type_view types)) (e i name))
    ∙ ap type_named h

-- what a file sees, by the files that it sees
pub sight_same : (k : Known) (n : ℕ) (f : FileDescriptor) (seen : ℕ → Bool)
    → ((to : ℕ) → seen to ≡ sees k n f to)
    → (λ (name : Text). kind_seen seen (k.types name)) ≡ sight_of k n f
sight_same k n f seen h = λ i name. kind_seen (λ to. h to i) (k.types name)
