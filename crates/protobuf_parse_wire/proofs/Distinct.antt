-- Fields whose numbers differ, and those of which two have one number.
use Rattle.std.proofs.Common.{◌≡◌, ℕ, ◌<◌, ◌≤◌, ◌^◌, ℤ, pos, Bool, true, false, cond, List, [], ◌∷◌}
use Rattle.std.proofs.Common.{◌++◌, map, get_or, length, ltb-false, Option, Some, None, Ok, Err}
use Rattle.std.proofs.Common.{option_map, refl, sym, ap, subst, ◌∙◌, arith}
use Rattle.std.specs.Prelude.{nat_lt, not, ◌&&◌, ◌||◌, find}
use Rattle.std.specs.Borrow.{Bor}
use Rattle.std.specs.List.{list_any}
use Rattle.std.specs.Int.{w32}
use Rattle.std.specs.Int.RustNames.{FitsSigned}
use Rattle.std.specs.Map.{update}
use Rattle.std.specs.BTreeMap.{BTreeMap, get}
use Rattle.std.specs.Option.{option_or}
use Rattle.std.specs.Ordering.{int_cmp, int_eq}
use Rattle.std.proofs.Math.Path.{fun_ext}
use Rattle.std.proofs.lemmas.Bool.{false_from_ne_true}
use Rattle.std.proofs.lemmas.Bool.Decides.{Decides-int_eq}
use Rattle.std.proofs.lemmas.Cmp.{int_eq_equiv}
use Rattle.std.proofs.lemmas.Int.{ints}
use Rattle.std.proofs.lemmas.List.Folds.{find-append, list_any-append}
use Rattle.protobuf_parse_model.specs.declared.descriptor.FieldDescriptorProto.{FieldDescriptorProto}
use Rattle.protobuf_parse_model.specs.Descriptors.{Text, FileDescriptor, FieldDescriptor}
use Rattle.protobuf_parse_model.specs.Descriptors.{MessageDescriptor, message_view}
use Rattle.protobuf_parse_model.proofs.Levels.{message_view_is}
use Rattle.protobuf_parse_model.specs.Descriptors.{field_view, parts_seen}
use Rattle.protobuf_parse_model.specs.declared.descriptor.DescriptorProto.{DescriptorProto}
use Rattle.protobuf_parse_model.specs.declared.descriptor.DescriptorProto.{out-DescriptorProto}
use Rattle.protobuf_parse_wire.specs.declared.fault.ReadFault.TheVariants.{AmbiguousNumber}
use Rattle.protobuf_parse_wire.specs.Declarations.{field_numbered, have_distinct_numbers}
use Rattle.protobuf_parse_wire.specs.Reading.{FieldsByNumber, by_number, entered}
use Rattle.protobuf_parse_base.specs.Multimaps.{values_under}
use Rattle.protobuf_parse_wire.specs.declared.reader.index.Index.{Index}
use Rattle.protobuf_parse_wire.specs.Indexed.{entered_by, numbered, IsByNumber, Indexes}

abbrev has : ℤ → FieldDescriptor → Bool
has n f = int_eq n f.number

or_none : {X : Type 0} (o : Option X) → option_or o None ≡ o
or_none None = refl
or_none (Some x) = refl

both : (a b : Bool) → (a && b) ≡ true → (a ≡ true) × (b ≡ true)
both true true e = (refl, refl)
both true false e = (refl, e)
both false b e = absurd (cc)

and_false : (a : Bool) → (a && false) ≡ false
and_false true = refl
and_false false = refl

none_at : {X : Type 0} (b : Bool) (x : X) (o : Option X) → cond b (Some x) o ≡ None
    → (b ≡ false) × (o ≡ None)
none_at true x o e = absurd (cc)
none_at false x o e = (refl, e)

any_at : (p : FieldDescriptor → Bool) (fs : List FieldDescriptor) (f : FieldDescriptor)
    (more : List FieldDescriptor) → p f ≡ true → list_any p (fs ++ f ∷ more) ≡ true
any_at p [] f more h = rw h refl
any_at p (g ∷ fs) f more h = rw (any_at p fs f more h) (or_true (p g))
  where
    or_true : (b : Bool) → (b || true) ≡ true
    or_true true = refl
    or_true false = refl

-- a number that another field has
repeated_at : (fs : List FieldDescriptor) (f old : FieldDescriptor) (more : List FieldDescriptor)
    → find (has f.number) fs ≡ Some old → have_distinct_numbers (fs ++ f ∷ more) ≡ false
repeated_at [] f old more e = absurd (cc)
repeated_at (g ∷ fs) f old more e =
    by_test (int_eq f.number g.number) refl (repeated_at fs f old more)
  where
    by_test : (b : Bool) → int_eq f.number g.number ≡ b
        → (find (has f.number) fs ≡ Some old → have_distinct_numbers (fs ++ f ∷ more) ≡ false)
        → have_distinct_numbers ((g ∷ fs) ++ f ∷ more) ≡ false
    by_test true same inside =
        let again : list_any (has g.number) (fs ++ f ∷ more)
        ≡ true = any_at (has g.number) fs f more (int_eq_equiv.symm g.number f.number ∙ same) in
        rw again refl
    by_test false differs inside =
        let later : find (has f.number) fs
        ≡ Some old =
        subst (λ (b : Bool). cond b (Some g) (find (has f.number) fs) ≡ Some old) differs e in
        rw (inside later) (and_false _)

-- a number that no other field has
distinct_more : (fs : List FieldDescriptor) (f : FieldDescriptor) → find (has f.number) fs ≡ None
    → have_distinct_numbers fs ≡ true → have_distinct_numbers (fs ++ f ∷ []) ≡ true
distinct_more [] f e distinct = refl
distinct_more (g ∷ fs) f e distinct =
    let apart = none_at (int_eq f.number g.number) g (find (has f.number) fs) e in
    let parts = both (not (list_any (has g.number) fs)) (have_distinct_numbers fs) distinct in
    let other : int_eq g.number f.number ≡ false = int_eq_equiv.symm g.number f.number ∙ apart.0 in
    let same : list_any (has g.number) (fs ++ f ∷ [])
    ≡ list_any (has g.number) fs = list_any-append (has g.number) fs (f ∷ [])
    ∙ rw other (or_false (list_any (has g.number) fs)) in
    rw (same, parts.0, distinct_more fs f apart.1 parts.1) refl
  where
    or_false : (b : Bool) → (b || false) ≡ b
    or_false true = refl
    or_false false = refl

found_more : (f : FieldDescriptor) (fs : List FieldDescriptor) (n : ℤ) (b : Bool)
    → int_eq f.number n ≡ b → find (has f.number) fs ≡ None → (got : Option FieldDescriptor)
    → got ≡ find (has n) fs → cond b (Some f) got ≡ find (has n) (fs ++ f ∷ [])
found_more f fs n true same none got is =
    let k : f.number ≡ n = (Decides-int_eq f.number n).0 same in
    let here : find (has f.number) (fs ++ f ∷ []) ≡ Some f = find-append (has f.number) fs (f ∷ [])
    ∙ rw (none, int_eq_equiv.refl f.number) refl in
    subst (λ (m : ℤ). Some f ≡ find (has m) (fs ++ f ∷ [])) k (sym here)
found_more f fs n false same none got is =
    let other : int_eq n f.number ≡ false = int_eq_equiv.symm n f.number ∙ same in
    let past : find (has n) (fs ++ f ∷ []) ≡ find (has n) fs = find-append (has n) fs (f ∷ [])
    ∙ rw other (or_none (find (has n) fs)) in
    is ∙ sym past

large : (z : ℤ) (n : ℕ) → FitsSigned w32 z → 2 ^ 31 ≤ n → int_eq (pos n) z ≡ false
large z n fits le = false_from_ne_true (int_eq (pos n) z)
    (λ e. let same : pos n ≡ z = (Decides-int_eq (pos n) z).0 e in omega (arith, ints))

abbrev pub seen : Bor FieldDescriptorProto → FieldDescriptor
seen r = field_view r.now

module _ (m : BTreeMap ℤ (Bor FieldDescriptorProto)) (fs : List FieldDescriptor)
    (r : Bor FieldDescriptorProto) where
  pub added : (n : BTreeMap ℤ (Bor FieldDescriptorProto)) → IsByNumber m fs
      → FitsSigned w32 r.now.number → get int_cmp m r.now.number ≡ None
      → ((q : ℤ) → get int_cmp n q ≡ update int_eq (get int_cmp m) r.now.number (Some r) q)
      → IsByNumber n (fs ++ field_view r.now ∷ [])
  added n known fits none updates = record {
    found = λ q. ap (option_map seen) (updates q) ∙ mapped q (int_eq r.now.number q)
        ∙ found_more (seen r) fs q (int_eq r.now.number q) refl absent
        (option_map seen (get int_cmp m q)) (known.found q);
    small = λ q le. find-append (has (pos q)) fs (seen r ∷ [])
        ∙ ap (λ o. option_or o (find (has (pos q)) (seen r ∷ []))) (known.small q le)
        ∙ ap (λ (b : Bool). cond b (Some (seen r)) None) (large r.now.number q fits le);
    distinct = distinct_more fs (seen r) absent known.distinct;
  }
    where
      absent : find (has r.now.number) fs ≡ None
      absent = sym (known.found r.now.number) ∙ ap (option_map seen) none

      mapped : (q : ℤ) (b : Bool)
          → option_map seen (cond b (Some r) (get int_cmp m q))
          ≡ cond b (Some (seen r)) (option_map seen (get int_cmp m q))
      mapped q true = refl
      mapped q false = refl

  pub repeated : (old : Bor FieldDescriptorProto) (more : List FieldDescriptor) → IsByNumber m fs
      → get int_cmp m r.now.number ≡ Some old
      → by_number (fs ++ field_view r.now ∷ more) ≡ Err AmbiguousNumber
  repeated old more known some =
      let there : find (has r.now.number) fs ≡ Some (seen old) = sym (known.found r.now.number)
      ∙ ap (option_map seen) some in
      rw (repeated_at fs (seen r) (seen old) more there) refl

module _ (m : BTreeMap ℤ (Bor FieldDescriptorProto)) (fs : List FieldDescriptor) where
  -- the map says which field each number names
  pub numbers_are : IsByNumber m fs → by_number fs ≡ Ok (numbered m)
  numbers_are known =
      ap (λ (b : Bool). cond b (Ok (field_numbered fs)) (Err AmbiguousNumber)) known.distinct
      ∙ ap (λ (f : FieldsByNumber). Ok f) (fun_ext (λ n. named n (nat_lt n (2 ^ 31)) refl))
    where
      named : (n : ℕ) (b : Bool) → nat_lt n (2 ^ 31) ≡ b
          → field_numbered fs n ≡ cond b (option_map seen (get int_cmp m (pos n))) None
      named n true lt = sym (known.found (pos n))
      named n false ge = known.small n (ltb-false n (2 ^ 31) ge)

-- the message of the name that exactly one message has
pub entered_one : (index : Index) (name : Text) (m : Bor DescriptorProto)
    (fs : List FieldDescriptorProto) (es : List (Bor FieldDescriptorProto))
    → values_under index.messages name ≡ m ∷ [] → fs ≡ (out-DescriptorProto m.now).field.items
    → es ≡ values_under index.extensions name
    → entered_by index (Some name) ≡ by_number (map field_view fs ++ map seen es)
entered_one index name m fs es one own others =
    let parts : (parts_seen (message_view m.now)).field
    ≡ map field_view (out-DescriptorProto m.now).field.items =
    ap (λ (x : MessageDescriptor). (parts_seen x).field) (message_view_is m.now) in
    rw (one, parts, own, others) refl

pub one_element : {X : Type 0} (xs : List X) (x : X) → 1 ≤ length xs → length xs < 2
    → x ≡ get_or xs 0 x → xs ≡ x ∷ []
one_element [] x some few is = absurd (omega arith)
one_element (y ∷ []) x some few is = ap (λ z. z ∷ []) (sym is)
one_element (y ∷ z ∷ xs) x some few is = absurd (omega arith)

-- entering by an index of the files
pub entered_is : (files : List FileDescriptor) (index : Index) → Indexes files index
    → entered_by index ≡ entered files
entered_is files index indexes = fun_ext by_name
  where
    by_name : (name : Option Text) → entered_by index name ≡ entered files name
    by_name None = refl
    by_name (Some name) = rw (indexes.messages name, indexes.extensions name) refl
