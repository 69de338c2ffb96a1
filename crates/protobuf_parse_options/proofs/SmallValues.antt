-- What has small numbers is found to have them.
use Rattle.std.proofs.Common.{◌≡◌, ℕ, zero, suc, ℤ, Bool, true, false, List, [], ◌∷◌, ◌++◌, map}
use Rattle.std.proofs.Common.{flat_map, Option, Some, option_map, cond, bytes_eq, refl, sym, subst}
use Rattle.std.proofs.Common.{ap, ◌∙◌}
use Rattle.std.specs.Int.{w32}
use Rattle.std.specs.Int.RustNames.{FitsSigned}
use Rattle.std.specs.Prelude.{option_to_list, slice_get}
use Rattle.std.specs.List.{AllByRecursion, find}
use Rattle.std.specs.Borrow.{Bor}
use Rattle.protobuf_parse_model.specs.declared.descriptor.EnumDescriptorProto.{EnumDescriptorProto}
use Rattle.protobuf_parse_model.specs.declared.descriptor.EnumValueDescriptorProto.{EnumValueDescriptorProto}
use Rattle.protobuf_parse_model.specs.Declarations.{Declared}
use Rattle.protobuf_parse_model.specs.Descriptors.{Text, EnumDescriptor, EnumValueDescriptor}
use Rattle.protobuf_parse_model.specs.Descriptors.{FileDescriptor, enum_value_view, enum_view}
use Rattle.protobuf_parse_options.specs.declared.spots.declared.Spotted.{Spotted}
use Rattle.protobuf_parse_options.specs.HoldingParts.{spotted_by}
use Rattle.protobuf_parse_options.specs.Spots.{spotted_enums}
use Rattle.protobuf_parse_options.specs.Views.{enum_declared, number_among, values_among}
use Rattle.protobuf_parse_options.specs.Views.{values_if_named}
use Rattle.protobuf_parse_options.specs.OptionFields.{declared_enums}
use Rattle.protobuf_parse_options.specs.OptionLaw.{HasSmallValues}
use Rattle.protobuf_parse_options.specs.SmallValues.{AreSmall, HaveSmall}
use Rattle.protobuf_parse_model.specs.Tables.{picked}
use Rattle.protobuf_parse_options.proofs.Spotting.{declared_of, enums_without}
use Rattle.protobuf_parse_options.proofs.SoundSets.{both}

values_small : (vs : List EnumValueDescriptorProto) → AreSmall (map enum_value_view vs)
values_small [] = tt
values_small (v ∷ vs) = (v.fits, values_small vs)

pub enums_small : (es : List (Spotted (Bor EnumDescriptorProto)))
    → HaveSmall (map enum_declared es)
enums_small [] = tt
enums_small (e ∷ es) = (values_small e.what.now.value.items, enums_small es)

abbrev number_of : Option EnumValueDescriptor → Option ℤ
number_of o = option_map (λ (v : EnumValueDescriptor). v.number) o

are_both : (us vs : List EnumValueDescriptor) → AreSmall us → AreSmall vs → AreSmall (us ++ vs)
are_both [] vs p q = q
are_both (u ∷ us) vs p q = (p.0, are_both us vs p.1 q)

if_named : (b : Bool) (vs : List EnumValueDescriptor) → AreSmall vs → AreSmall (cond b vs [])
if_named true vs p = p
if_named false vs p = tt

among_enums : (name : Text) (es : List (Declared EnumDescriptor)) → HaveSmall es
    → AreSmall (values_among name es)
among_enums name [] p = tt
among_enums name (e ∷ es) p = are_both (values_if_named name e) (values_among name es)
    (if_named (bytes_eq e.name name) e.what.value p.0) (among_enums name es p.1)

of_first : (b : Bool) (v : EnumValueDescriptor) (o : Option EnumValueDescriptor) (z : ℤ)
    → FitsSigned w32 v.number
    → (number_of o ≡ Some z → FitsSigned w32 z)
    → number_of (cond b (Some v) o) ≡ Some z → FitsSigned w32 z
of_first true v o z p later e = let q : v.number ≡ z = cc in subst (FitsSigned w32) q p
of_first false v o z p later e = later e

found : (name : Text) (vs : List EnumValueDescriptor) (z : ℤ) → AreSmall vs
    → number_among vs name ≡ Some z → FitsSigned w32 z
found name [] z p e = absurd cc
found name (v ∷ vs) z p e = of_first (bytes_eq v.name name) v
    (find (λ (w : EnumValueDescriptor). bytes_eq w.name name) vs) z p.0 (found name vs z p.1) e

-- where the enums that the files declare have small numbers
pub small_values : (files : List FileDescriptor) (es : List (Declared EnumDescriptor))
    → es ≡ flat_map declared_enums files → HaveSmall es → HasSmallValues files
small_values files es all small enum_name name z e = found name (values_among enum_name es) z
    (among_enums enum_name es small)
    (subst (λ (ds : List (Declared EnumDescriptor)). number_among (values_among enum_name ds) name
    ≡ Some z) (sym all) e)

-- ---- files of which each has small numbers

small_both : (es fs : List (Declared EnumDescriptor)) → HaveSmall es → HaveSmall fs
    → HaveSmall (es ++ fs)
small_both [] fs p q = q
small_both (e ∷ es) fs p q = (p.0, small_both es fs p.1 q)

abbrev pub IsSmallFile : FileDescriptor → Type 0
IsSmallFile f = HaveSmall (declared_enums f)

small_files : (fs : List FileDescriptor) → AllByRecursion IsSmallFile fs
    → HaveSmall (flat_map declared_enums fs)
small_files [] h = tt
small_files (f ∷ fs) h = small_both (declared_enums f) (flat_map declared_enums fs) h.0
    (small_files fs h.1)

small_one : (fs : List FileDescriptor) (n : ℕ) → AllByRecursion IsSmallFile fs
    → AllByRecursion IsSmallFile (option_to_list (slice_get fs n))
small_one [] n h = tt
small_one (f ∷ fs) zero h = (h.0, tt)
small_one (f ∷ fs) (suc n) h = small_one fs n h.1

small_picked : (fs : List FileDescriptor) (ns : List ℕ) → AllByRecursion IsSmallFile fs
    → AllByRecursion IsSmallFile (picked fs ns)
small_picked fs [] h = tt
small_picked fs (n ∷ ns) h = both IsSmallFile (option_to_list (slice_get fs n)) (picked fs ns)
    (small_one fs n h) (small_picked fs ns h)

pub picked_small : (fs : List FileDescriptor) (ns : List ℕ) → AllByRecursion IsSmallFile fs
    → HasSmallValues (picked fs ns)
picked_small fs ns h = small_values (picked fs ns) (flat_map declared_enums (picked fs ns)) refl
    (small_files (picked fs ns) (small_picked fs ns h))

known_without : (ks : List (Spotted (Bor EnumDescriptorProto)))
    → map enum_declared ks ≡ map declared_of (spotted_by enum_view ks)
known_without [] = refl
known_without (k ∷ ks) = ap (λ es. enum_declared k ∷ es) (known_without ks)

-- of a file whose enums were listed
pub small_file : (f : FileDescriptor) (ks : List (Spotted (Bor EnumDescriptorProto)))
    → spotted_by enum_view ks ≡ spotted_enums f → HaveSmall (map enum_declared ks) → IsSmallFile f
small_file f ks is small = subst HaveSmall (known_without ks ∙ ap (map declared_of) is
    ∙ enums_without f) small
