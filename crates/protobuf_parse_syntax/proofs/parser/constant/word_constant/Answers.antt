use Rattle.std.proofs.Common.{◌≡◌, sym, ap, ◌∙◌, string_bytes}
use Rattle.protobuf_parse_grammar.specs.Readers.{read}
use Rattle.protobuf_parse_syntax.specs.Trees as tree
use Rattle.protobuf_parse_syntax.specs.Productions.{word_constant_name}
use Rattle.protobuf_parse_syntax.specs.Code.{left}
use Rattle.protobuf_parse_syntax.proofs.Views.{views_ident}
use Rattle.protobuf_parse_syntax.specs.declared.tree.constant.ProtobufConstant.TheVariants.{Ident}
use Rattle.protobuf_parse_syntax.proofs.parser.constant.word_constant.Goals as goal

pub returns : goal.returns
returns c =
    let e : tree.dotted (string_bytes c.in_ok-dotted.field-0)
    ≡ tree.constant_syntax (Ident c.in_ok-dotted.field-0) =
    sym (views_ident c.in_ok-dotted.field-0) in
    word_constant_name (left c.args.tokens.now) (sym c.sees_word.ensures ∙ c.if-sees_word.false)
    (sym c.sees_word-2.ensures ∙ c.if-sees_word-2.false)
    ∙ rw c.in_ok-dotted.ensures
    (ap (λ (v : tree.ConstantSyntax). read v (left c.dotted.new.tokens)) e)
