-- What a statement gives, by the first part of its name.
use Rattle.std.proofs.Common.{◌≡◌, ◌≤◌, ℕ, List, [], ◌∷◌, ◌++◌, map, length, get_or, Result}
use Rattle.std.proofs.Common.{String, string_bytes, refl, sym, ap, subst, ◌∙◌, arith}
use Rattle.std.specs.Global.{Global}
use Rattle.protobuf_parse_base.specs.DeclaredNames.{name_bytes}
use Rattle.protobuf_parse_base.specs.declared.name.Name.{Name}
use Rattle.protobuf_parse_syntax.specs.Trees.{ConstantSyntax, OptionPartSyntax, direct, extension}
use Rattle.protobuf_parse_syntax.specs.Trees.{option_part_syntax}
use Rattle.protobuf_parse_syntax.specs.declared.tree.option.ProtobufOptionNamePart.{ProtobufOptionNamePart}
use Rattle.protobuf_parse_syntax.specs.declared.tree.option.ProtobufOptionNamePart.TheVariants.{Direct}
use Rattle.protobuf_parse_syntax.specs.declared.tree.option.ProtobufOptionNamePart.TheVariants.{Ext}
use Rattle.protobuf_parse_model.specs.declared.customs.Construct.{Construct}
use Rattle.protobuf_parse_options.specs.declared.refuse.OptionFailure.{OptionFailure}
use Rattle.protobuf_parse_model.specs.Descriptors.{Text}
use Rattle.protobuf_parse_model.specs.Environment.{option_path_text}
use Rattle.protobuf_parse_model.specs.Faults.{Wrong}
use Rattle.protobuf_parse_options.specs.Refusals.{Refuses, Gives}
use Rattle.protobuf_parse_model.specs.OptionTables.{table_of}
use Rattle.protobuf_parse_options.specs.CustomFaults.{builtin_step_faults, custom_faults}
use Rattle.protobuf_parse_options.specs.CustomFaults.{path_faults}
use Rattle.protobuf_parse_options.specs.CustomOptions.{path_items}
use Rattle.protobuf_parse_options.specs.Given.{bytes_of_items, path_said}
use Rattle.protobuf_parse_options.specs.OptionFields.{OptionScope, options_message}

abbrev parts_of : List ProtobufOptionNamePart → List OptionPartSyntax
parts_of xs = map option_part_syntax xs

-- a plain part
pub direct_blamed : (e : OptionFailure) (at : OptionScope) (construct : Construct)
    (value : ConstantSyntax) (xs : List ProtobufOptionNamePart) (x : ProtobufOptionNamePart)
    (s : Name) (name : Text) → 1 ≤ length xs → x ≡ get_or xs 0 x → x ≡ Direct s
    → name ≡ name_bytes s
    → Refuses e (builtin_step_faults (table_of construct) name)
    → Refuses e (custom_faults at construct value (map option_part_syntax xs))
direct_blamed e at construct value [] x s name some is plain named h = absurd (omega arith)
direct_blamed e at construct value (y ∷ ys) x s name some is plain named h =
    let first : option_part_syntax y ≡ direct name = ap option_part_syntax (sym is ∙ plain)
    ∙ ap direct (sym named) in
    subst (λ (p : OptionPartSyntax). Refuses e
    (custom_faults at construct value (p ∷ parts_of ys))) (sym first) h

extension_first : (at : OptionScope) (construct : Construct) (value : ConstantSyntax)
    (xs : List ProtobufOptionNamePart) (x : ProtobufOptionNamePart) (s : String Global)
    → 1 ≤ length xs → x ≡ get_or xs 0 x → x ≡ Ext s
    → custom_faults at construct value (parts_of xs)
    ≡ path_faults at (option_path_text (parts_of xs))
    value (options_message construct) (parts_of xs)
extension_first at construct value [] x s some is ext = absurd (omega arith)
extension_first at construct value (y ∷ ys) x s some is ext =
    let first : option_part_syntax y ≡ extension (string_bytes s) = ap option_part_syntax
    (sym is ∙ ext) in
    subst (λ (p : OptionPartSyntax). custom_faults at construct value (p ∷ parts_of ys)
    ≡ path_faults at (option_path_text (p ∷ parts_of ys)) value (options_message construct)
    (p ∷ parts_of ys)) (sym first) refl

-- an extension
pub extension_given : {X : Type 0} (view : X → List ℕ) (r : Result X OptionFailure)
    (at : OptionScope) (construct : Construct) (value : ConstantSyntax)
    (xs : List ProtobufOptionNamePart) (x : ProtobufOptionNamePart) (s : String Global)
    (message : Text) (old : List ℕ) → 1 ≤ length xs → x ≡ get_or xs 0 x → x ≡ Ext s
    → message ≡ options_message construct
    → Gives view r (path_faults at (path_said xs) value message (map option_part_syntax xs))
    (old ++ bytes_of_items (path_items at value message (map option_part_syntax xs)))
    → Gives view r (custom_faults at construct value (map option_part_syntax xs))
    (old ++ bytes_of_items
    (path_items at value (options_message construct) (map option_part_syntax xs)))
extension_given view r at construct value xs x s message old some is ext holds h =
    let ps = parts_of xs in
    let m = options_message construct in
    let bytes = old ++ bytes_of_items (path_items at value m ps) in
    let a = subst (λ (t : Text). Gives view r (path_faults at (path_said xs) value t ps)
    (old ++ bytes_of_items (path_items at value t ps))) holds h in
    subst (λ (faults : List Wrong). Gives view r faults bytes)
    (sym (extension_first at construct value xs x s some is ext)) a
