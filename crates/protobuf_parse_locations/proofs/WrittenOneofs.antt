-- Oneofs that a loop adds, where it leaves synthetic ones out.
use Rattle.std.proofs.Common.{◌≡◌, ◌∙◌, ℕ, ◌+◌, ◌<◌, ◌≤◌, true, false, List, [], ◌++◌, map, drop}
use Rattle.std.proofs.Common.{length, get_or, sym, ap}
use Rattle.std.proofs.Math.ListN.{drop_of_length-le}
use Rattle.protobuf_parse_model.specs.Descriptors.{Text, FieldDescriptor, OneofDescriptor}
use Rattle.protobuf_parse_model.specs.Descriptors.{oneof_view}
use Rattle.protobuf_parse_model.specs.declared.descriptor.OneofDescriptorProto.{OneofDescriptorProto}
use Rattle.protobuf_parse_source_info.specs.Parts.{next, nth}
use Rattle.protobuf_parse_source_info.specs.Walks.{Path}
use Rattle.protobuf_parse_locations.specs.Adds.{Adds}
use Rattle.protobuf_parse_locations.specs.Declarations.{DeclarationAt, is_synthetic, items}
use Rattle.protobuf_parse_locations.specs.Declarations.{oneof_at, written}
use Rattle.protobuf_parse_locations.specs.Views.{declaration_view}
use Rattle.protobuf_parse_locations.specs.declared.declaration.Declaration.{Declaration}
use Rattle.protobuf_parse_locations.proofs.Going.{Going, all_added, drop_more, some_more}
use Rattle.protobuf_parse_locations.proofs.Synthetic.{written_not, written_one}

module _ (fs : List FieldDescriptor) (scope : Text) (p : Path) where
  -- what the oneofs behind so many declare, where so many are written
  abbrev pub behind : ℕ → ℕ → List OneofDescriptorProto → List DeclarationAt
  behind i k os = items (oneof_at scope) p 8 i (written fs k (map oneof_view (drop k os)))

  by : (first now : List Declaration) (i : ℕ) (xs ys : List OneofDescriptor)
      (all : List DeclarationAt) → xs ≡ ys
      → Going first now (items (oneof_at scope) p 8 i xs) all
      → Going first now (items (oneof_at scope) p 8 i ys) all
  by first now i xs ys all same g = record {
    same = ap (λ (z : List OneofDescriptor).
        map declaration_view now ++ items (oneof_at scope) p 8 i z) (sym same)
        ∙ g.same;
  }

  pub oneof_left : (first now : List Declaration) (i k : ℕ) (os : List OneofDescriptorProto)
      (o : OneofDescriptorProto) (all : List DeclarationAt) → k < length os → o ≡ get_or os k o
      → Going first now (behind i k os) all → is_synthetic fs k ≡ true
      → Going first now (behind i (k + 1) os) all
  oneof_left first now i k os o all lt is g synthetic =
      by first now i _ _ all
      (ap (λ (xs : List OneofDescriptorProto). written fs k (map oneof_view xs))
      (drop_more os k o lt is)
      ∙ written_not fs k (oneof_view o) (map oneof_view (drop (k + 1) os)) synthetic) g

  pub oneof_added : (first now new : List Declaration) (i j k : ℕ)
      (os : List OneofDescriptorProto) (o : OneofDescriptorProto) (all : List DeclarationAt)
      → k < length os → o ≡ get_or os k o → Going first now (behind i k os) all
      → is_synthetic fs k ≡ false → Adds now new (oneof_at scope (nth p 8 i) (oneof_view o))
      → j ≡ next i → Going first new (behind j (k + 1) os) all
  oneof_added first now new i j k os o all lt is g written_here a to =
      let rest = λ (m : ℕ). behind m (k + 1) os in
      some_more first now new (oneof_at scope (nth p 8 i) (oneof_view o)) (rest j) all
      (record {
        same = ap (λ (m : ℕ). map declaration_view now
            ++ (oneof_at scope (nth p 8 i) (oneof_view o) ++ rest m)) to
            ∙ (by first now i _ _ all
            (ap (λ (xs : List OneofDescriptorProto). written fs k (map oneof_view xs))
            (drop_more os k o lt is)
            ∙ written_one fs k (oneof_view o) (map oneof_view (drop (k + 1) os)) written_here)
            g).same;
      }) a

  pub oneofs_added : (first now : List Declaration) (i k : ℕ) (os : List OneofDescriptorProto)
      (all : List DeclarationAt) → length os ≤ k → Going first now (behind i k os) all
      → Adds first now all
  oneofs_added first now i k os all past g =
      all_added first now all
      (by first now i _ [] all
      (ap (λ (xs : List OneofDescriptorProto). written fs k (map oneof_view xs))
      (drop_of_length-le os past)) g)
