use Rattle.std.proofs.Common.{◌≡◌, List, ◌++◌, ◌∷◌, [], map, string_bytes, inl, sym, ap, ◌∙◌}
use Rattle.std.proofs.lemmas.Result.{err_from_is_err_and}
use Rattle.protobuf_parse_grammar.specs.Readers.{read}
use Rattle.protobuf_parse_syntax.specs.Trees as tree
use Rattle.protobuf_parse_syntax.specs.Trees.{OptionPartSyntax, option_part_syntax}
use Rattle.protobuf_parse_syntax.specs.Grammar.{option_name}
use Rattle.protobuf_parse_syntax.specs.Code.{left}
use Rattle.protobuf_parse_syntax.proofs.Parts.{name_of_parts, name_of_one, fails_at_first}
use Rattle.protobuf_parse_syntax.proofs.Parts.{fails_at_parts}
use Rattle.protobuf_parse_syntax.specs.declared.tree.option.ProtobufOptionNamePart.TheVariants as part
use Rattle.protobuf_parse_syntax.proofs.parser.option.option_name.Goals as goal

pub returns-then-sees_symbol : goal.returns-then-sees_symbol
returns-then-sees_symbol c =
    name_of_parts (left c.args.tokens.now) (left c.option_part.new.tokens)
    (option_part_syntax c.in_ok-first.first) c.in_ok-first.ensures (left c.parts.new.tokens)
    (map option_part_syntax c.in_ok-parts.field-0.items)
    (sym c.sees_symbol.ensures ∙ c.if-sees_symbol.true) c.in_ok-parts.ensures

pub returns-in-Direct : goal.returns-in-Direct
returns-in-Direct c =
    name_of_one (left c.args.tokens.now) (left c.option_part.new.tokens)
    (option_part_syntax c.in_ok-first.first) c.in_ok-first.ensures
    (sym c.sees_symbol.ensures ∙ c.if-sees_symbol.false)
    ∙ ap (λ (p : OptionPartSyntax). read (option_name p []) (left c.option_part.new.tokens))
    (ap option_part_syntax c.in-Direct.is)

pub returns-in_ok-push-in-Ext : goal.returns-in_ok-push-in-Ext
returns-in_ok-push-in-Ext c =
    let is : option_part_syntax c.in_ok-first.first
    ≡ tree.extension (string_bytes c.in-Ext.field-0) = ap option_part_syntax c.in-Ext.is in
    let e : map option_part_syntax c.push.new.self.items ≡ option_part_syntax c.in_ok-first.first
    ∷ [] = ap (map option_part_syntax)
    (c.in_ok-push-in-Ext.ensures.items
    ∙ ap (λ (v : List _). v ++ part.Ext c.in-Ext.field-0 ∷ []) c.in_ok-parts-in-Ext.ensures.items)
    ∙ ap (λ p. option_part_syntax p ∷ []) (sym c.in-Ext.is) in
    name_of_one (left c.args.tokens.now) (left c.option_part.new.tokens)
    (option_part_syntax c.in_ok-first.first) c.in_ok-first.ensures
    (sym c.sees_symbol.ensures ∙ c.if-sees_symbol.false)
    ∙ ap (λ (p : OptionPartSyntax). read (option_name p []) (left c.option_part.new.tokens)) is
    ∙ ap (λ (v : List OptionPartSyntax). read (tree.custom v) (left c.option_part.new.tokens))
    (ap (λ (p : OptionPartSyntax). p ∷ []) (sym is) ∙ sym e)

pub returns-in_err-first : goal.returns-in_err-first
returns-in_err-first c =
    let p = err_from_is_err_and c.from_residual.result c.from_residual.ensures.1 in
    rw (p.1, p.2)
    (inl (fails_at_first c.in_err-first.field-0.0 (left c.args.tokens.now)
    (left c.option_part.new.tokens) c.in_err-first.ensures))

pub returns-in_err-parts : goal.returns-in_err-parts
returns-in_err-parts c =
    let p = err_from_is_err_and c.from_residual-in_err-parts.result
    c.from_residual-in_err-parts.ensures.1 in
    rw (p.1, p.2)
    (fails_at_parts (left c.args.tokens.now) (left c.option_part.new.tokens)
    (option_part_syntax c.in_ok-first.first) c.in_ok-first.ensures c.in_err-parts.field-0.0
    (left c.parts.new.tokens) c.in_err-parts.ensures)
