use Rattle.std.proofs.Common.{◌≡◌, ◌⊎◌, ℕ, refl, inl, inr}
use Rattle.protobuf_parse_grammar.specs.Readers.{Rest, read, stuck}
use Rattle.protobuf_parse_lexer.specs.Tokens.{Lexeme}
use Rattle.protobuf_parse_lexer.specs.declared.error.ParserError.{ParserError}
use Rattle.protobuf_parse_lexer.specs.declared.lexer.token.Place.{Place}
use Rattle.protobuf_parse_syntax.specs.Productions as statement
use Rattle.protobuf_parse_syntax.specs.Nested as nest
use Rattle.protobuf_parse_syntax.specs.Code.{left, Fails, fails_first, FileFails, ToldAs, Unfit}
use Rattle.protobuf_parse_syntax.specs.declared.tree.Syntax.{Syntax}
use Rattle.protobuf_parse_syntax.specs.declared.parser.refusal.Refusal.{Refusal}
use Rattle.protobuf_parse_syntax.specs.declared.parser.refusal.Refusal.TheVariants.{Memory, Fault}
use Rattle.protobuf_parse_syntax.specs.declared.parser.refusal.Refusal.TheVariants.{NoField}
use Rattle.protobuf_parse_syntax.specs.declared.parser.refusal.Refusal.TheVariants.{NoGroupField}
use Rattle.protobuf_parse_syntax.specs.declared.parser.refusal.Refusal.TheVariants.{NoOneofField}
use Rattle.protobuf_parse_syntax.proofs.parser.file.file.Goals as goal

-- a file of which a statement fails, when its fault is told
file_told : (n : ℕ) (syntax : Syntax) (e told : Refusal) (ts us after : Rest Lexeme Place)
    → statement.version_statement.run ts ≡ read syntax us
    → Fails e after ((nest.file_items syntax n).low.run us) → ToldAs syntax e after told
    → Fails told after ((nest.file n).low.run ts)
    ⊎ FileFails ts told after ((nest.file n).low.run ts)
unfolding nest.file
file_told n syntax e told ts us after version h t = go e h t
  where
    unfit : (nest.file_items syntax n).low.run us ≡ stuck after
        → ((x : ParserError) × (told ≡ Fault x) × Unfit syntax x after)
        → Fails told after ((nest.file n).low.run ts)
        ⊎ FileFails ts told after ((nest.file n).low.run ts)
    unfit is (x, same, so) =
        inr (inr (x, same, rw (version, is) refl, (syntax, us, version, so)))

    go : (e : Refusal) → Fails e after ((nest.file_items syntax n).low.run us)
        → ToldAs syntax e after told
        → Fails told after ((nest.file n).low.run ts)
        ⊎ FileFails ts told after ((nest.file n).low.run ts)
    go Memory h t = inl (rw t tt)
    go (Fault x) h t =
        inl (rw (t, version)
        (fails_first (Fault x) after ((nest.file_items syntax n).low.run us) _ h))
    go NoField h t = unfit h t
    go NoGroupField h t = unfit h t
    go NoOneofField h t = unfit h t

pub returns-in-Err : goal.returns-in-Err
returns-in-Err c =
    file_told c.args.levels c.in_ok-syntax.syntax c.in-Err.refusal c.told.result
    (left c.args.tokens.now) (left c.version.new.tokens) (left c.file_statements.new.tokens)
    c.in_ok-syntax.ensures c.in-Err.ensures c.told.ensures
