-- Types by full names, of which the first with a name counts, as a map has them.
use Rattle.std.proofs.Common.{◌≡◌, ℕ, ◌+◌, ◌<◌, Bool, true, false, cond, List, [], ◌∷◌, ◌++◌, map}
use Rattle.std.proofs.Common.{length, take, get_or, refl, sym, ap, ◌∙◌, Option, Some, None}
use Rattle.std.specs.Prelude.{bytes_eq, string_bytes, String}
use Rattle.std.specs.BTreeMap.{BTreeMap, UpdatesBy, get_by_text}
use Rattle.std.specs.Cmp.Lexicographic.{slice_cmp}
use Rattle.std.specs.Global.{Global}
use Rattle.std.specs.Option.{option_or}
use Rattle.std.specs.Ordering.{nat_cmp}
use Rattle.std.specs.String.{string_cmp}
use Rattle.std.proofs.lemmas.List.{map-append, take_more}
use Rattle.std.proofs.lemmas.Map.Text.{btree_map_updates_text}
use Rattle.std.proofs.lemmas.Slice.Eq.{bytes_eq-Decides}
use Rattle.protobuf_parse_model.specs.Descriptors.{Text}
use Rattle.protobuf_parse_model.specs.declared.descriptor.FieldType.{FieldType}
use Rattle.protobuf_parse_set_reader.specs.declared.type_names.TypeName as code
use Rattle.protobuf_parse_set_reader.specs.Bodies.{Puts, type_name_view}
use Rattle.protobuf_parse_set_reader.specs.TypeNames.{TypeName, type_named}

-- ---- one more name

named_last : (ts : List TypeName) (t : TypeName) (q : Text)
    → type_named (ts ++ t ∷ []) q
    ≡ option_or (type_named ts q) (cond (bytes_eq t.name q) (Some t.type_) None)
named_last [] t q = refl
named_last (s ∷ ts) t q =
    at_first (bytes_eq s.name q) s.type_ (type_named (ts ++ t ∷ []) q) (type_named ts q) _
    (named_last ts t q)
  where
    at_first : (b : Bool) (x : FieldType) (all front last : Option FieldType)
        → all ≡ option_or front last → cond b (Some x) all ≡ option_or (cond b (Some x) front) last
    at_first true x all front last e = refl
    at_first false x all front last e = e

-- the first ones, and one more
pub one_more_named : (ts : List code.TypeName) (k : ℕ) (t : code.TypeName) (q : Text)
    → k < length ts → t ≡ get_or ts k t
    → type_named (map type_name_view (take (k + 1) ts)) q
    ≡ option_or (type_named (map type_name_view (take k ts)) q)
    (cond (bytes_eq (string_bytes t.name) q) (Some t.type_) None)
one_more_named ts k t q lt is =
    ap (λ z. type_named (map type_name_view z) q) (take_more ts k t lt)
    ∙ ap (λ z. type_named z q) (map-append type_name_view (take k ts) (get_or ts k t ∷ []))
    ∙ ap (λ (z : code.TypeName). type_named (map type_name_view (take k ts) ++ type_name_view z ∷
    []) q)
    (sym is)
    ∙ named_last (map type_name_view (take k ts)) (type_name_view t) q

-- ---- in a map

if_absent : (o : Option FieldType) (b : Bool) (t : FieldType) → (b ≡ true → o ≡ None)
    → cond b (Some t) o ≡ option_or o (cond b (Some t) None)
if_absent o true t none = ap (λ z. option_or z (Some t)) (sym (none refl))
if_absent None false t none = refl
if_absent (Some x) false t none = refl

-- A name that was absent is put in.
pub put_in : (old new : BTreeMap (String Global) FieldType)
    (key : String Global) (t : code.TypeName)
    → string_bytes key ≡ string_bytes t.name → get_by_text old (string_bytes t.name) ≡ None
    → UpdatesBy string_cmp (λ k. slice_cmp nat_cmp (string_bytes key) (string_bytes k)) old new
    (Some t.type_)
    → Puts old new (type_name_view t)
put_in old new key t is absent updates q =
    btree_map_updates_text (string_bytes key) old new (Some t.type_) updates q
    ∙ ap (λ (z : Text). cond (bytes_eq z q) (Some t.type_) (get_by_text old q)) is
    ∙ if_absent (get_by_text old q) (bytes_eq (string_bytes t.name) q) t.type_
    (λ e. ap (get_by_text old) (sym ((bytes_eq-Decides (string_bytes t.name) q).0 e)) ∙ absent)
