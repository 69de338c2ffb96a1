use Rattle.std.proofs.Common.{rules, sym, ◌∙◌}
use Rattle.protobuf_parse_listing.proofs.Quoting.{unescaped_text}
use Rattle.protobuf_parse_listing.proofs.pieces.put_escaped.Goals as goal

pub returns-then-is_unescaped : goal.returns-then-is_unescaped
returns-then-is_unescaped c =
    rw (unescaped_text c.args.words.now (sym c.is_unescaped.ensures ∙ c.if-is_unescaped.true))
    (search rules)
