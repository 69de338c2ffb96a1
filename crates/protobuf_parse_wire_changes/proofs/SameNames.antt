-- Messages of one name go together: pairs are only added, behind those of one name.
use Rattle.std.proofs.Common.{◌≡◌, ℕ, zero, suc, ◌+◌, Bool, true, false, cond, List, [], ◌∷◌, ◌++◌}
use Rattle.std.proofs.Common.{length, Option, Some, None, option_map, refl, sym, ap, ◌∙◌}
use Rattle.std.proofs.Common.{append_assoc}
use Rattle.std.proofs.lemmas.List.{append-nil}
use Rattle.std.specs.Prelude.{◌&&◌, find, not, is_some, bytes_eq, slice_get}
use Rattle.std.specs.List.{flat_map}
use Rattle.std.proofs.lemmas.Slice.Eq.{bytes_eq-Decides}
use Rattle.protobuf_parse_model.specs.Descriptors.{Text, FileDescriptor, FieldDescriptor}
use Rattle.protobuf_parse_model.specs.Descriptors.{MessageDescriptor}
use Rattle.protobuf_parse_index.specs.Lookups.{message_named}
use Rattle.protobuf_parse_index.specs.Walk.{Standing, all_messages}
use Rattle.protobuf_parse_wire_changes.specs.Laws.{SameNamesGoTogether}
use Rattle.protobuf_parse_wire_changes.specs.Partners.{Pair, declares, fields_of, has_partner}
use Rattle.protobuf_parse_wire_changes.specs.Partners.{partner_in, same_names, type_at}
use Rattle.protobuf_parse_wire_changes.specs.Partners.{with_fields, with_itself, with_message}
use Rattle.protobuf_parse_wire_changes.specs.Partners.{with_messages, with_more, with_pair}
use Rattle.protobuf_parse_wire_changes.specs.Partners.{with_types, with_types_at}

-- The second list has the first one in front.
record Grows (ps qs : List Pair) : Type 0 where
  pub more : List Pair
  pub is : qs ≡ ps ++ more

stays : (ps : List Pair) → Grows ps ps
stays ps = record { more = []; is = sym (append-nil ps) }

then : (ps qs rs : List Pair) → Grows ps qs → Grows qs rs → Grows ps rs
then ps qs rs a b = record {
  more = a.more ++ b.more;
  is = b.is ∙ ap (λ (xs : List Pair). xs ++ b.more) a.is ∙ append_assoc ps a.more b.more;
}

module _ (old new : List FileDescriptor) where
  messages_grow : (o n : Text) (ps : List Pair) → Grows ps (with_messages old new o n ps)
  messages_grow o n ps = by_test (not (has_partner ps o) && declares old o && declares new n)
    where
      by_test : (t : Bool) → Grows ps (cond t (ps ++ record { old = o; new = n } ∷ []) ps)
      by_test true = record { more = record { old = o; new = n } ∷ []; is = refl }
      by_test false = stays ps

  types_grow : (o n : Option Text) (ps : List Pair) → Grows ps (with_types old new o n ps)
  types_grow None n ps = stays ps
  types_grow (Some o) None ps = stays ps
  types_grow (Some o) (Some n) ps = messages_grow o n ps

  fields_grow : (p : Pair) (fs : List FieldDescriptor) (ps : List Pair)
      → Grows ps (with_fields old new p fs ps)
  fields_grow p [] ps = stays ps
  fields_grow p (f ∷ fs) ps =
      let next = with_types_at old new p f.number ps in
      then ps next (with_fields old new p fs next)
      (types_grow (type_at old p.old f.number) (type_at new p.new f.number) ps)
      (fields_grow p fs next)

  message_grows : (p : Pair) (o : Option (Standing MessageDescriptor)) (ps : List Pair)
      → Grows ps (with_message old new p o ps)
  message_grows p None ps = stays ps
  message_grows p (Some m) ps = fields_grow p (fields_of m) ps

  pair_grows : (o : Option Pair) (ps : List Pair) → Grows ps (with_pair old new o ps)
  pair_grows None ps = stays ps
  pair_grows (Some p) ps = message_grows p (message_named old p.old) ps

  all_grow : (most at : ℕ) (ps : List Pair) → Grows ps (with_more old new most at ps)
  all_grow zero at ps = stays ps
  all_grow (suc most) at ps =
      let next = with_pair old new (slice_get ps at) ps in
      then ps next (with_more old new most (at + 1) next) (pair_grows (slice_get ps at) ps)
      (all_grow most (at + 1) next)

  -- a partner in front stays
  in_front : (ps more : List Pair) (name b : Text) → partner_in ps name ≡ Some b
      → partner_in (ps ++ more) name ≡ Some b
  in_front [] more name b h = absurd (cc)
  in_front (p ∷ ps) more name b h =
      by_test (bytes_eq name p.old) (λ e. in_front ps more name b e) h
    where
      by_test : (t : Bool)
          → (partner_in ps name ≡ Some b → partner_in (ps ++ more) name ≡ Some b)
          → option_map (λ (p : Pair). p.new)
          (cond t (Some p) (find (λ (p : Pair). bytes_eq name p.old) ps)) ≡ Some b
          → option_map (λ (p : Pair). p.new)
          (cond t (Some p) (find (λ (p : Pair). bytes_eq name p.old) (ps ++ more))) ≡ Some b
      by_test true later e = e
      by_test false later e = later e

  among : (name : Text) → declares new name ≡ true → (ms : List (Standing MessageDescriptor))
      → is_some (find (λ (m : Standing MessageDescriptor). bytes_eq name m.name) ms) ≡ true
      → partner_in (flat_map (with_itself new) ms) name ≡ Some name
  among name there [] h = absurd (cc)
  among name there (m ∷ ms) h =
      by_test (bytes_eq name m.name) refl (declares new m.name) refl
      (λ e. among name there ms e) h
    where
      by_test : (t : Bool) → bytes_eq name m.name ≡ t → (d : Bool) → declares new m.name ≡ d
          → (is_some (find (λ (m : Standing MessageDescriptor). bytes_eq name m.name) ms) ≡ true
          → partner_in (flat_map (with_itself new) ms) name ≡ Some name)
          → is_some (cond t (Some m)
          (find (λ (m : Standing MessageDescriptor). bytes_eq name m.name) ms)) ≡ true
          → partner_in (cond d (record { old = m.name; new = m.name } ∷ []) []
          ++ flat_map (with_itself new) ms) name ≡ Some name
      by_test true e true e' later k =
          rw e (ap (λ (x : Text). Some x) (sym ((bytes_eq-Decides name m.name).0 e)))
      by_test true e false e' later k =
          let same : name ≡ m.name = (bytes_eq-Decides name m.name).0 e in
          let no : true ≡ false = sym there ∙ ap (declares new) same ∙ e' in
          absurd (cc)
      by_test false e true e' later k = rw e (later k)
      by_test false e false e' later k = later k

pub same_names_go_together : SameNamesGoTogether
same_names_go_together old new name here there =
    let all = all_grow old new (length (all_messages old)) 0 (same_names old new) in
    ap (λ (ps : List Pair). partner_in ps name) all.is
    ∙ in_front old new (same_names old new) all.more name name
    (among old new name there (all_messages old) here)
