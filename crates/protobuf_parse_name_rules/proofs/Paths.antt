-- Sets of paths.
use Rattle.std.proofs.Common.{◌≡◌, ◌∙◌, ◌||◌, ◌++◌, ◌∷◌, [], ℕ, Bool, true, false, List, ap, cond}
use Rattle.std.proofs.Common.{flat_map, subst, sym, ⊎_elim, bytes_eq, Vec}
use Rattle.std.specs.BTreeSet.{BTreeSet, UpdatesBy}
use Rattle.std.specs.Cmp.{eq_by_cmp_equiv}
use Rattle.std.specs.Cmp.Lexicographic.{slice_cmp, bytes_decides, nat_list_cmp_total}
use Rattle.std.specs.Cmp.Lexicographic.{nat_list_eq_equiv, texts_ties}
use Rattle.std.specs.Global.{Global}
use Rattle.std.specs.List.{list_any}
use Rattle.std.specs.Map.{IsKeyTest, AreApart}
use Rattle.std.specs.Set.{KeepsOthers}
use Rattle.std.specs.Ordering.{is_eq, nat_cmp}
use Rattle.std.proofs.lemmas.Bool.{cases_Bool, cond-true, cond-false}
use Rattle.protobuf_parse_base.specs.Names.{fronts}
use Rattle.protobuf_parse_base.proofs.Fronts.{fronts-push}
use Rattle.protobuf_parse_text_rules.specs.Options.{stands_in}
use Rattle.std.proofs.Common.{◌+◌, ◌<◌, get_or, length, take}
use Rattle.std.specs.Borrow.{Bor}
use Rattle.std.specs.Prelude.{nat_abs}
use Rattle.std.proofs.lemmas.List.{map-append}
use Rattle.protobuf_parse_model.specs.Descriptors.{FieldDescriptor, field_view}
use Rattle.protobuf_parse_model.specs.declared.descriptor.FieldDescriptorProto.{FieldDescriptorProto}
use Rattle.std.proofs.Common.{Option, Some, append-nil}
use Rattle.std.specs.Prelude.{option_to_list}
use Rattle.protobuf_parse_model.specs.Descriptors.{Text}
use Rattle.protobuf_parse_syntax.specs.Trees.{ConstantFieldSyntax}
use Rattle.protobuf_parse_name_rules.specs.Fields.{CustomOption, constant_field}
use Rattle.protobuf_parse_name_rules.specs.InnerViews.{fields_view, has_path, paths_by}
use Rattle.protobuf_parse_name_rules.specs.Lookups.{Viewpoint}
use Rattle.protobuf_parse_name_rules.specs.Options.{Path, last_of, path_of, path_to, paths_in}
use Rattle.protobuf_parse_name_rules.specs.Options.{paths_set}
use Rattle.protobuf_parse_name_rules.proofs.Sets.{any_behind, map_item, or_assoc, or_swap}
use Rattle.protobuf_parse_name_rules.proofs.Sets.{or_turn}

apart : (bs cs ks : List ℕ) → bytes_eq bs cs ≡ false → is_eq (slice_cmp nat_cmp bs ks) ≡ true
    → is_eq (slice_cmp nat_cmp cs ks) ≡ false
apart bs cs ks n y =
    sym (texts_ties cs ks) ∙ nat_list_eq_equiv.symm cs ks
    ∙ sym (nat_list_eq_equiv.congr bs ks cs (texts_ties bs ks ∙ y)) ∙ n

others : {K : Type 0} (eq : K → K → Bool) (test : K → Bool) (old new : List K)
    → KeepsOthers eq test old new → (other : K → Bool) → IsKeyTest eq other → AreApart test other
    → list_any other new ≡ list_any other old
unfolding KeepsOthers
others eq test old new h = h

-- at each path, whether it is the new one or was there
pub path_put : (p : Path) (old new : BTreeSet (Vec ℕ Global))
    → UpdatesBy (λ (x y : Vec ℕ Global). slice_cmp nat_cmp x.items y.items)
    (λ (k : Vec ℕ Global). slice_cmp nat_cmp p k.items) old new true
    → (q : Path) → has_path new q ≡ cond (bytes_eq p q) true (has_path old q)
path_put p old new h q =
    ⊎_elim
    (λ y. subst (λ (l : Path). has_path new l ≡ true) ((bytes_decides p q).0 y) h.1
    ∙ sym (cond-true (bytes_eq p q) true (has_path old q) y))
    (λ n. others _ _ _ _ h.3 _
    (λ x y. (eq_by_cmp_equiv nat_list_cmp_total).congr q x.items y.items)
    (λ k. apart p q k.items n)
    ∙ sym (cond-false (bytes_eq p q) true (has_path old q) n))
    (cases_Bool (bytes_eq p q))

-- the paths on the way to one that is longer
pub paths_more : (q : Path) (ts : Path) (n : ℕ) (after front : Path) (new old first : Bool)
    → new ≡ (bytes_eq front q || old) → front ≡ after → after ≡ ts ++ n ∷ []
    → old ≡ (first || stands_in q (fronts ts)) → new ≡ (first || stands_in q (fronts after))
paths_more q ts n after front new old first e is more known =
    e ∙ ap (λ b. bytes_eq front q || b) known
    ∙ or_swap (bytes_eq front q) first (stands_in q (fronts ts))
    ∙ ap (λ (text : Path). first || (bytes_eq text q || stands_in q (fronts ts))) (is ∙ more)
    ∙ ap (λ (all : List Path). first || stands_in q all) (sym (fronts-push ts n))
    ∙ ap (λ (all : Path). first || stands_in q (fronts all)) (sym more)

-- the path of one field more
pub path_next : (fs : List (Bor FieldDescriptorProto)) (i : ℕ) (f : Bor FieldDescriptorProto)
    → i < length fs → f ≡ get_or fs i f
    → path_of (fields_view (take (i + 1) fs))
    ≡ path_of (fields_view (take i fs)) ++ nat_abs (field_view f.now).number ∷ []
path_next fs i f less is =
    ap path_of (map_item (λ (g : Bor FieldDescriptorProto). field_view g.now) fs i f less is)
    ∙ map-append (λ (g : FieldDescriptor). nat_abs g.number) (fields_view (take i fs))
    (field_view f.now ∷ [])

-- what a field of a message constant sets
pub paths_told : (at : Viewpoint) (path : Path) (message : Text) (c : ConstantFieldSyntax)
    (f : FieldDescriptor) (p inner lent : Path) (new mid old : Bool)
    → Some f ≡ constant_field at message c.name → inner ≡ path_to path f → lent ≡ inner
    → mid ≡ (bytes_eq inner p || old) → new ≡ (mid || stands_in p (paths_in at lent f c.value))
    → new ≡ (old || stands_in p (paths_by at path message c))
paths_told at path message c f p inner lent new mid old some is same added next =
    let to = path_to path f in
    let ps = paths_in at to f c.value in
    next ∙ ap (λ (q : Path). mid || stands_in p (paths_in at q f c.value)) (same ∙ is)
    ∙ ap (λ b. b || stands_in p ps)
    (added ∙ ap (λ (q : Path). bytes_eq q p || old) is ∙ or_turn (bytes_eq to p) old)
    ∙ or_assoc old (bytes_eq to p) (stands_in p ps)
    ∙ ap (λ (qs : List Path). old || stands_in p qs) (sym (append-nil (to ∷ ps)))
    ∙ ap (λ (o : Option FieldDescriptor). old || stands_in p (flat_map
    (λ (g : FieldDescriptor). path_to path g ∷ paths_in at (path_to path g) g c.value)
    (option_to_list o))) some

-- what an option sets
pub set_told : (at : Viewpoint) (o : CustomOption) (f : FieldDescriptor) (p lent : Path)
    (new mid old : Bool) → f ∷ [] ≡ last_of o.fields → lent ≡ path_of o.fields
    → mid ≡ (old || stands_in p (fronts (path_of o.fields)))
    → new ≡ (mid || stands_in p (paths_in at lent f o.value))
    → new ≡ (old || stands_in p (paths_set at o))
set_told at o f p lent new mid old last same fronted next =
    let path = path_of o.fields in
    let inside = λ (g : FieldDescriptor). paths_in at path g o.value in
    any_behind (λ (y : Path). bytes_eq y p) (fronts path) (inside f) new mid old
    (next ∙ ap (λ (q : Path). mid || stands_in p (paths_in at q f o.value)) same) fronted
    ∙ ap (λ (qs : List Path). old || stands_in p (fronts path ++ qs))
    (sym (append-nil (inside f)) ∙ ap (flat_map inside) last)
