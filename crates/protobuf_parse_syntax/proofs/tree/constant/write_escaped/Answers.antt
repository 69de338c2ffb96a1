-- Each turn writes the next character.
use Rattle.std.specs.Prelude.{encode_utf8_all, encode_utf8}
use Rattle.std.proofs.Common.{◌++◌, ◌==◌, ◌&&◌, not, false, ap, sym, ◌∙◌, rules}
use Rattle.std.proofs.Output.{has_written_append, has_written_of_eq}
use Rattle.std.proofs.lemmas.Iterator.{YieldsList-from_chars}
use Rattle.std.proofs.lemmas.Iterator.Consumers.{YieldsList-end}
use Rattle.protobuf_parse_syntax.specs.Formats.{escape_before, quotes_escaped}
use Rattle.protobuf_parse_syntax.proofs.Formats.{takes_next-more, quotes_escaped-more, encodes-all}
use Rattle.protobuf_parse_syntax.proofs.tree.constant.write_escaped.Goals as goal

pub loop-character-preserved : goal.loop-character-preserved
loop-character-preserved g c =
    let so_far = encode_utf8_all c.loop-character.yielded in
    let character = c.in-Some.character in
    record {
      taken = c.takes_next-taken.ensures
          ∙ (ap (λ t. character == 92 && not t) c.loop-character.invariant.taken
          ∙ sym (takes_next-more c.loop-character.yielded character));
      written = λ plain. has_written_of_eq _ _ _ _ _
          (ap (λ t. quotes_escaped false so_far
          ++ (escape_before t character ++ encode_utf8 character))
          c.loop-character.invariant.taken
          ∙ quotes_escaped-more c.loop-character.yielded character)
          (has_written_append _ _ _ _ _ _ (c.loop-character.invariant.written plain)
          (search rules));
    }

pub returns : goal.returns
returns g c = λ plain ok.
    let end = YieldsList-end (YieldsList-from_chars c.args.piece.now c.utf8.piece (cc))
    c.loop-character.yielded _ c.loop-character.yielded_by _ _ c.in-None.is c.next.ensures.steps
    in
    has_written_of_eq _ _ _ _ _
    (ap (quotes_escaped false)
    (encodes-all c.loop-character.yielded c.args.piece.now c.utf8.piece
    end.0)) (c.loop-character.invariant.written plain)
