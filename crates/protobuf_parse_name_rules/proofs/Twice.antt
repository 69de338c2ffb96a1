-- What is given or set again.
use Rattle.std.proofs.Common.{◌≡◌, ◌∙◌, ◌++◌, ◌∷◌, ◌||◌, ◌&&◌, [], ℤ, Bool, not}
use Rattle.std.proofs.Common.{List, Option, None, Some, ap, append_assoc, append-nil, flat_map, map}
use Rattle.std.proofs.Common.{refl, sym}
use Rattle.std.specs.Ordering.{int_eq}
use Rattle.std.proofs.Math.Path.{fun_ext}
use Rattle.protobuf_parse_model.proofs.Levels.{message_view_is}
use Rattle.protobuf_parse_model.specs.Descriptors.{FieldDescriptor, MessageDescriptor, field_view}
use Rattle.protobuf_parse_model.specs.Descriptors.{message_view, parts_seen}
use Rattle.protobuf_parse_model.specs.declared.descriptor.DescriptorProto.{DescriptorProto}
use Rattle.protobuf_parse_model.specs.declared.descriptor.DescriptorProto.{out-DescriptorProto}
use Rattle.std.proofs.lemmas.List.{map-append}
use Rattle.std.specs.Prelude.{option_to_list}
use Rattle.protobuf_parse_lexer.specs.declared.lexer.token.Place.{Place}
use Rattle.protobuf_parse_option_paths.specs.Names.{is_repeated}
use Rattle.protobuf_parse_text_rules.specs.Breaches.{TextBreach, breach_if}
use Rattle.protobuf_parse_text_rules.specs.Options.{stands_in}
use Rattle.protobuf_parse_text_rules.specs.declared.rule.TextRule.TheVariants as rule
use Rattle.protobuf_parse_text_rules.proofs.Twice.{not_not}
use Rattle.protobuf_parse_name_rules.specs.Constants.{Given, again_breaches, given_twice, is_among}
use Rattle.protobuf_parse_name_rules.specs.Constants.{is_of_oneof, missing_breaches, numbers}
use Rattle.protobuf_parse_name_rules.specs.Constants.{oneofs, own_breaches}
use Rattle.protobuf_parse_name_rules.specs.Fields.{CustomOption}
use Rattle.protobuf_parse_name_rules.specs.Lookups.{Viewpoint}
use Rattle.protobuf_parse_name_rules.specs.Options as options
use Rattle.protobuf_parse_name_rules.proofs.Sets.{any_more, any_next, cond_or, or_turn}
use Rattle.protobuf_parse_name_rules.specs.Options.{Path, path_of, paths_set, set_again}

-- ---- fields of constants

-- with a field more
pub twice_more : (place : Place) (before gs : List Given) (g : Given)
    → given_twice place before (gs ++ g ∷ [])
    ≡ given_twice place before gs ++ again_breaches place (before ++ gs) g
twice_more place before [] g =
    append-nil (again_breaches place before g)
    ∙ ap (λ (bs : List Given). again_breaches place bs g) (sym (append-nil before))
twice_more place before (p ∷ gs) g =
    let first = again_breaches place before p in
    ap (λ z. first ++ z)
    (twice_more place (before ++ p ∷ []) gs g
    ∙ ap (λ (z : List Given). given_twice place (before ++ p ∷ []) gs ++ again_breaches place z g)
    (append_assoc before (p ∷ []) gs))
    ∙ sym (append_assoc first (given_twice place (before ++ p ∷ []) gs)
    (again_breaches place (before ++ p ∷ gs) g))

pub of_oneof_same : (f g : ℤ → Bool) (o : Option ℤ) → ((i : ℤ) → f i ≡ g i)
    → is_of_oneof f o ≡ is_of_oneof g o
of_oneof_same f g None e = refl
of_oneof_same f g (Some i) e = e i

-- what is told of it
pub told_more : (place : Place) (t0 t1 t2 : List TextBreach) (before after : List Given)
    (g : Given) (new first : Bool) (among of_oneof : Bool)
    → t1 ≡ t0 ++ given_twice place [] before
    → t2 ≡ t1 ++ (breach_if (not new && not (is_repeated g.field.label)) rule.ConstantFieldTwice
    place g.name ++ breach_if (new && not first) rule.OneofMemberTwice place g.name)
    → new ≡ not among → first ≡ not of_oneof
    → among ≡ is_among g.field.number (numbers before)
    → of_oneof ≡ is_of_oneof (λ i. is_among i (oneofs before)) g.field.oneof_index
    → after ≡ before ++ g ∷ []
    → t2 ≡ t0 ++ given_twice place [] after
told_more place t0 t1 t2 before after g new first among of_oneof told next is_new is_first a o
    more =
    let again = λ (x y z : Bool).
    breach_if (x && not (is_repeated g.field.label)) rule.ConstantFieldTwice place g.name
    ++ breach_if (y && z) rule.OneofMemberTwice place g.name in
    let same : again (not new) new (not first) ≡ again_breaches place before g =
    ap (λ (x : Bool). again x new (not first)) (not_not among new is_new ∙ a)
    ∙ ap (λ (y : Bool). again (is_among g.field.number (numbers before)) y (not first))
    (is_new ∙ ap not a)
    ∙ ap (λ (z : Bool). again (is_among g.field.number (numbers before))
    (not (is_among g.field.number (numbers before))) z) (not_not of_oneof first is_first ∙ o) in
    next ∙ ap (λ t. t ++ again (not new) new (not first)) told
    ∙ append_assoc t0 (given_twice place [] before) (again (not new) new (not first))
    ∙ ap (λ z. t0 ++ z)
    (ap (λ z. given_twice place [] before ++ z) same
    ∙ sym (twice_more place [] before g) ∙ ap (given_twice place []) (sym more))

-- ---- custom options

-- with an option more
pub again_more : (at : Viewpoint) (before : List Path) (os : List CustomOption) (o : CustomOption)
    → set_again at before (os ++ o ∷ [])
    ≡ set_again at before os
    ++ options.again_breaches (λ (p : Path). stands_in p (before ++ flat_map (paths_set at) os)) o
again_more at before [] o =
    append-nil (options.again_breaches (λ (p : Path). stands_in p before) o)
    ∙ ap (λ (bs : List Path). options.again_breaches (λ (p : Path). stands_in p bs) o)
    (sym (append-nil before))
again_more at before (q ∷ os) o =
    let first = options.again_breaches (λ (p : Path). stands_in p before) q in
    let rest = set_again at (before ++ paths_set at q) os in
    ap (λ z. first ++ z)
    (again_more at (before ++ paths_set at q) os o
    ∙ ap (λ (bs : List Path). rest ++ options.again_breaches (λ (p : Path). stands_in p bs) o)
    (append_assoc before (paths_set at q) (flat_map (paths_set at) os)))
    ∙ sym (append_assoc first rest
    (options.again_breaches (λ (p : Path). stands_in p
    (before ++ (paths_set at q ++ flat_map (paths_set at) os))) o))

-- what is told of it
pub again_told : (at : Viewpoint) (t0 t1 t2 : List TextBreach) (before after : List CustomOption)
    (o : CustomOption) (is_set : Path → Bool)
    → t1 ≡ t0 ++ set_again at [] before → t2 ≡ t1 ++ options.again_breaches is_set o
    → is_set (path_of o.fields) ≡ stands_in (path_of o.fields) (flat_map (paths_set at) before)
    → after ≡ before ++ o ∷ []
    → t2 ≡ t0 ++ set_again at [] after
again_told at t0 t1 t2 before after o is_set told next is more =
    next ∙ ap (λ t. t ++ options.again_breaches is_set o) told
    ∙ append_assoc t0 (set_again at [] before) (options.again_breaches is_set o)
    ∙ ap (λ z. t0 ++ z)
    (ap (λ (b : Bool). set_again at [] before
    ++ breach_if (options.is_single o && b) rule.CustomOptionTwice o.place o.name) is
    ∙ sym (again_more at [] before o) ∙ ap (set_again at []) (sym more))

-- ---- sets of numbers

-- the number of one more
pub given_number : (n : ℤ) (before after : List Given) (g : Given) (new old : Bool)
    → new ≡ (int_eq g.field.number n || old) → old ≡ is_among n (numbers before)
    → after ≡ before ++ g ∷ [] → new ≡ is_among n (numbers after)
given_number n before after g new old e is more =
    any_more (λ (m : ℤ). int_eq m n) (numbers before) g.field.number new old
    (e ∙ sym (cond_or (int_eq g.field.number n) old)) is
    ∙ ap (is_among n)
    (sym (ap numbers more ∙ map-append (λ (h : Given). h.field.number) before (g ∷ [])))

-- the oneof of one more
pub given_oneof : (i : ℤ) (before after : List Given) (g : Given) (new old : Bool)
    → new ≡ (is_among i (option_to_list g.field.oneof_index) || old)
    → old ≡ is_among i (oneofs before) → after ≡ before ++ g ∷ [] → new ≡ is_among i (oneofs after)
given_oneof i before after g new old e is more =
    any_next (λ (m : ℤ). int_eq m i) (λ (h : Given). option_to_list h.field.oneof_index) before
    after g new old
    (e ∙ or_turn (is_among i (option_to_list g.field.oneof_index)) old) is more

-- ---- one message

-- the fields of a message
pub fields_are : (m : DescriptorProto)
    → (parts_seen (message_view m)).field ≡ map field_view (out-DescriptorProto m).field.items
fields_are m = ap (λ (k : MessageDescriptor). (parts_seen k).field) (message_view_is m)

-- what is told of the fields that are given to it, and of those that aren't
pub own_told : (place : Place) (m : MessageDescriptor) (given : List Given)
    (fs : List FieldDescriptor) (has : ℤ → Bool) (t0 t1 t2 : List TextBreach)
    → t1 ≡ t0 ++ given_twice place [] given
    → ((n : ℤ) → has n ≡ is_among n (numbers given)) → fs ≡ (parts_seen m).field
    → t2 ≡ t1 ++ flat_map (missing_breaches place has) fs
    → t2 ≡ t0 ++ own_breaches place m given
own_told place m given fs has t0 t1 t2 first known is next =
    let twice = given_twice place [] given in
    next ∙ ap (λ t. t ++ flat_map (missing_breaches place has) fs) first
    ∙ append_assoc t0 twice (flat_map (missing_breaches place has) fs)
    ∙ ap (λ (h : ℤ → Bool). t0 ++ (twice ++ flat_map (missing_breaches place h) fs))
    (fun_ext known)
    ∙ ap (λ (gs : List FieldDescriptor). t0 ++ (twice
    ++ flat_map (missing_breaches place (λ n. is_among n (numbers given))) gs)) is
