-- The descriptors of a run's files are found in what it hands out.
use Rattle.std.proofs.Common.{◌≡◌, true, inl, inr, List, [], ◌∷◌, map, Option, Some, refl}
use Rattle.std.proofs.Common.{sym, ◌∙◌, ap, subst}
use Rattle.std.specs.Prelude.{bytes_eq, option_to_list}
use Rattle.protobuf_parse_syntax.specs.Trees.{FileSyntax}
use Rattle.protobuf_parse_model.specs.Descriptors as described
use Rattle.protobuf_parse_model.specs.Descriptors.{Text, FileDescriptor}
use Rattle.protobuf_parse_model.specs.Faults.{Among, here, there}
use Rattle.protobuf_parse_model.specs.declared.descriptor.FileDescriptorProto.{FileDescriptorProto}
use Rattle.protobuf_parse_elaboration.specs.FileDescriptor.{file_of}
use Rattle.protobuf_parse_elaboration.proofs.Orders.{among-map}
use Rattle.protobuf_parse_options.specs.DescriptorsByPath.{AreWithin, described_at}
use Rattle.protobuf_parse_options.proofs.Entered.{from_one}
use Rattle.protobuf_parse_run.specs.Walks.{Input, among}
use Rattle.protobuf_parse_run.specs.Run.{Files, AreDescriptors, environment_of}
use Rattle.protobuf_parse_run.specs.Recovered.{handed_out}
use Rattle.protobuf_parse_run.specs.Stability.{order}
use Rattle.protobuf_parse_run.specs.Order.{AreHandedOut, IsHandedOut}
use Rattle.protobuf_parse_run.proofs.Keeping.{false_true, or_cases, or_left, or_right, text-same}
use Rattle.protobuf_parse_run.proofs.Keeping.{text-true}

named : (files : Files) (paths : List Text) (ds : List FileDescriptorProto)
    → AreDescriptors files paths ds
    → map (λ (d : FileDescriptorProto). (described.file_view d).name) ds ≡ map Some paths
named files [] [] h = refl
named files [] (d ∷ ds) h = absurd h
named files (p ∷ paths) [] h = absurd h
named files (p ∷ paths) (d ∷ ds) h =
    ap (λ (z : Option Text). z ∷ map (λ (d : FileDescriptorProto). (described.file_view d).name) ds)
    (ap (λ (z : FileDescriptor). z.name) h.0.2)
    ∙ ap (λ (zs : List (Option Text)). Some p ∷ zs) (named files paths ds h.1)

found : (files : Files) (paths : List Text) (ds : List FileDescriptorProto) (p : Text)
    → AreDescriptors files paths ds → among p paths ≡ true → IsHandedOut files ds p
found files [] ds p h m = absurd (false_true m)
found files (q ∷ paths) [] p h m = absurd h
found files (q ∷ paths) (d ∷ ds) p h m =
    elim (or_cases (bytes_eq p q) (among p paths) m) [
      | inl w ↦ subst (λ (z : Text). IsHandedOut files (d ∷ ds) z) (sym (text-true p q w)) (record {
        tree = h.0.0;
        has_tree = h.0.1;
        descriptor = d;
        stands = here;
        becomes = h.0.2;
      })
      | inr w ↦
          let r = found files paths ds p h.1 w in
          record {
            tree = r.tree;
            has_tree = r.has_tree;
            descriptor = r.descriptor;
            stands = there r.stands;
            becomes = r.becomes;
          }
    ]

-- a path that stands in the list is among its members
member : (p : Text) (ps : List Text) → Among ps p → among p ps ≡ true
member p (_ ∷ ps) here = or_left _ _ (text-same p)
member p (_ ∷ ps) (there h) = or_right _ _ (member p ps h)
member p [] h = elim h [ ]

only-one : (x d : FileDescriptor) → Among (x ∷ []) d → x ≡ d
only-one x d h = first (x ∷ []) h refl
  where
    first : (xs : List FileDescriptor) → Among xs d → xs ≡ x ∷ [] → x ≡ d
    first _ here is = cc
    first _ (there rest) is = later rest (cc)
      where
        later : {xs : List FileDescriptor} → Among xs d → xs ≡ [] → x ≡ d
        later here is = cc
        later (there rest) is = cc

read-by : (files : Files) (paths : List Text) (ds : List FileDescriptorProto)
    → AreDescriptors files paths ds → (some : List Text) → AreWithin some paths
    → (d : FileDescriptor) → Among (handed_out files some) d → Among (map described.file_view ds) d
read-by files paths ds h some within d stands =
    let one = from_one
    (λ (p : Text). map (described_at (environment_of files) p) (option_to_list (files.trees p)))
    some d stands in
    let r = found files paths ds one.one h (within one.one (member one.one some one.stands)) in
    let alone : Among (file_of (environment_of files one.one r.tree) one.one r.tree ∷ []) d =
    subst (λ (o : Option FileSyntax).
    Among (map (described_at (environment_of files) one.one) (option_to_list o)) d)
    r.has_tree one.inside in
    subst (λ (z : FileDescriptor). Among (map described.file_view ds) z)
    (r.becomes ∙ only-one (file_of (environment_of files one.one r.tree) one.one r.tree) d alone)
    (among-map described.file_view ds r.descriptor r.stands)

pub order-handed-out : (files : Files) (inputs : List Input) (ds : List FileDescriptorProto)
    → AreDescriptors files (order files.trees inputs) ds
    → AreHandedOut files (order files.trees inputs) ds
order-handed-out files inputs ds h = record {
  names = named files (order files.trees inputs) ds h;
  each = λ p m. found files (order files.trees inputs) ds p h m;
  read_by = read-by files (order files.trees inputs) ds h;
}
