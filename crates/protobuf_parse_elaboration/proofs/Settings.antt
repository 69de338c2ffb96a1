-- What the statements among options set, step by step.
use Rattle.std.proofs.Common.{◌≡◌, ◌==◌, false, ◌∙◌, ℕ, ◌+◌, ◌<◌, List, [], ◌∷◌, ◌++◌, append-nil}
use Rattle.std.proofs.Common.{length, take, string_bytes, bytes_eq, option_map, Option, Some, None}
use Rattle.std.proofs.Common.{refl, sym, ap, Bool, true, cond, ◌||◌}
use Rattle.std.specs.Borrow.{Bor}
use Rattle.std.specs.Prelude.{slice_index_or, String, is_some}
use Rattle.std.specs.Global.{Global}
use Rattle.std.specs.List.{last_or, find}
use Rattle.std.proofs.lemmas.Grind.{flat_map-append}
use Rattle.std.proofs.lemmas.List.{map_more}
use Rattle.protobuf_parse_syntax.specs.Trees.{ConstantSyntax, dotted, constant_syntax, OptionSyntax}
use Rattle.protobuf_parse_syntax.specs.Trees.{option_syntax}
use Rattle.protobuf_parse_syntax.specs.declared.tree.constant.ProtobufConstant.{ProtobufConstant}
use Rattle.protobuf_parse_syntax.specs.declared.tree.constant.ProtobufConstant.TheVariants.{Ident}
use Rattle.protobuf_parse_syntax.specs.declared.tree.option.ProtobufOption.{ProtobufOption}
use Rattle.protobuf_parse_model.specs.Descriptors.{Text}
use Rattle.protobuf_parse_model.specs.BuiltinOptions.{value_if_named, values_named, last_value}
use Rattle.protobuf_parse_model.specs.BuiltinOptions.{under_name, word_said, where_any}
use Rattle.protobuf_parse_model.specs.BuiltinOptions.{options_seen}
use Rattle.protobuf_parse_model.specs.BuiltinOptions as spec
use Rattle.protobuf_parse_model.specs.Duplicates.{stands_in}
use Rattle.protobuf_parse_model.specs.OptionTables.{option_names_in}
use Rattle.protobuf_parse_model.specs.Words.{Words, words_of}
use Rattle.protobuf_parse_model.proofs.TreeViews.{views_ident}
use Rattle.protobuf_parse_elaboration.specs.declared.constructs.options.tables.BuiltinKind.{BuiltinKind}
use Rattle.protobuf_parse_elaboration.specs.OptionViews.{entry_seen, kind_seen, table_seen}
use Rattle.protobuf_parse_elaboration.specs.OptionViews.{words_seen}

last_or-append : {A : Type 0} (o : Option A) (xs ys : List A)
    → last_or o (xs ++ ys) ≡ last_or (last_or o xs) ys
last_or-append o [] ys = refl
last_or-append o (x ∷ xs) ys = last_or-append (Some x) xs ys

-- one more statement
pub last_value_more : (name : Text) (os : List (Bor ProtobufOption)) (i : ℕ)
    (o : Bor ProtobufOption) (last : Option ConstantSyntax) (values : List ConstantSyntax)
    → i < length os → o ≡ slice_index_or os i o → last ≡ last_value name (options_seen (take i os))
    → values ≡ value_if_named name (option_syntax o.now).value (option_syntax o.now).name
    → last_or last values ≡ last_value name (options_seen (take (i + 1) os))
last_value_more name os i o last values lt is before said =
    let of : OptionSyntax → List ConstantSyntax =
    λ (s : OptionSyntax). value_if_named name s.value s.name in
    let more : options_seen (take (i + 1) os) ≡ options_seen (take i os)
    ++ option_syntax (slice_index_or os i o).now ∷ [] =
    map_more (λ (b : Bor ProtobufOption). option_syntax b.now) os i o lt in
    let at : options_seen (take (i + 1) os) ≡ options_seen (take i os) ++ option_syntax o.now
    ∷ [] = more
    ∙ ap (λ (b : Bor ProtobufOption). options_seen (take i os) ++ option_syntax b.now ∷ [])
    (sym is) in
    let e : values_named name (options_seen (take (i + 1) os))
    ≡ values_named name (options_seen (take i os))
    ++ of (option_syntax o.now) = ap (λ (xs : List OptionSyntax). values_named name xs) at
    ∙ flat_map-append of (options_seen (take i os)) (option_syntax o.now ∷ [])
    ∙ ap (λ (xs : List ConstantSyntax). values_named name (options_seen (take i os))
    ++ xs) (append-nil (of (option_syntax o.now))) in
    ap (λ (o : Option ConstantSyntax). last_or o values) before
    ∙ ap (last_or (last_value name (options_seen (take i os)))) said ∙ sym (ap (last_or None) e
    ∙ last_or-append None (values_named name (options_seen (take i os))) (of (option_syntax o.now)))

-- the value that a name says
pub word_found : {A : Type 0} (words : Words A) (value : ProtobufConstant) (said : String Global)
    (text : Text) (result : Option A) → value ≡ Ident said → text ≡ string_bytes said
    → result ≡ under_name words text
    → result ≡ word_said words (constant_syntax value)
word_found words value said text result is same found =
    let view : constant_syntax value ≡ dotted text = ap constant_syntax is ∙ views_ident said
    ∙ ap (λ n. dotted n) (sym same) in
    found ∙ sym (ap (word_said words) view)

-- an options message that is there, since a statement stands
pub set_where_any : {A : Type 0} (os : List (Bor ProtobufOption)) (x y : A)
    → (length os == 0) ≡ false → x ≡ y → Some x ≡ where_any (options_seen os) y
set_where_any [] x y some e = absurd cc
set_where_any (o ∷ os) x y some e = ap (λ z. Some z) e

-- ---- tables

-- what a table of kinds has under a name
pub kind_under : (table : List (Bor (List ℕ) × BuiltinKind)) (name : Text)
    → option_map kind_seen (under_name (words_seen table) name)
    ≡ under_name (table_seen table) name
kind_under [] name = refl
kind_under (e ∷ es) name = at (bytes_eq e.0.now name) (kind_under es name)
  where
    at : (b : Bool) → option_map kind_seen (under_name (words_seen es) name)
        ≡ under_name (table_seen es) name
        → option_map kind_seen (option_map (λ (w : Text × BuiltinKind). w.1)
        (cond b (Some (e.0.now, e.1))
        (find (λ (w : Text × BuiltinKind). bytes_eq w.0 name) (words_seen es))))
        ≡ option_map (λ (w : Text × spec.BuiltinKind). w.1) (cond b (Some (entry_seen e))
        (find (λ (w : Text × spec.BuiltinKind). bytes_eq w.0 name) (table_seen es)))
    at true others = refl
    at false others = others

-- the names of a table, whatever it has under them
pub names_seen : (table : List (Bor (List ℕ) × BuiltinKind))
    → words_of (words_seen table) ≡ option_names_in (table_seen table)
names_seen [] = refl
names_seen (e ∷ es) = ap (λ (ns : List Text). e.0.now ∷ ns) (names_seen es)

-- a name has an entry where it stands among the names
pub is_under : {A : Type 0} (table : Words A) (name : Text)
    → is_some (under_name table name) ≡ stands_in name (words_of table)
is_under [] name = refl
is_under {A = A} (e ∷ es) name = at (bytes_eq e.0 name) (is_under es name)
  where
    at : (b : Bool) → is_some (under_name es name) ≡ stands_in name (words_of es)
        → is_some (option_map (λ (w : Text × A). w.1) (cond b (Some e)
        (find (λ (w : Text × A). bytes_eq w.0 name) es))) ≡ (b || stands_in name (words_of es))
    at true others = refl
    at false others = others
