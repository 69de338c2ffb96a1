use Rattle.std.proofs.Common.{List, ap, ap₂, map, ◌∙◌}
use Rattle.protobuf_parse_syntax.specs.Trees.{statement_syntax}
use Rattle.protobuf_parse_source_info.specs.Files.{file_walk, front}
use Rattle.protobuf_parse_source_info.specs.InnerViews.{Doing, found_view, spot, ran}
use Rattle.protobuf_parse_source_info.specs.declared.found.Found.{Found}
use Rattle.protobuf_parse_source_info.specs.declared.found.Between.{Between}
use Rattle.protobuf_parse_source_info.proofs.walker.files.found_in.Goals as goal

pub returns : goal.returns
unfolding ran
returns c =
    let start = ap₂ (λ (k : List Between) (f : List Found).
    ran (file_walk (map statement_syntax c.args.statements.now)) (record {
      found = map found_view f;
      ahead = record {
        skipped = k;
        last = front;
        tokens = map spot c.args.tokens.now;
        end = c.args.end;
      };
    })) c.new.ensures.items c.new-2.ensures.items in
    ap (λ (d : Doing). d.found) (c.in_ok-file.ensures.is ∙ start)
