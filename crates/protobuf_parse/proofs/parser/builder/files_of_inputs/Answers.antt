use Rattle.std.proofs.Common.{ap, sym, ◌∙◌, map}
use Rattle.std.specs.Prelude.{filter}
use Rattle.std.proofs.lemmas.Iterator.Consumers.{YieldsList-end}
use Rattle.std.proofs.lemmas.Iterator.Adapters.{YieldsList-from_vec}
use Rattle.protobuf_parse_base.specs.PathViews.{path_buf_text}
use Rattle.protobuf_parse.specs.Parsers.{is_of_input}
use Rattle.protobuf_parse.proofs.Building.{map-same}
use Rattle.protobuf_parse.proofs.parser.builder.files_of_inputs.Goals as goal

pub returns : goal.returns
returns c =
    let end = YieldsList-end
    (YieldsList-from_vec {s = c.into_iter-file-iterator.result} c.args.files.items (cc) (cc))
    c.loop-file.yielded c.loop-file.file-iterator c.loop-file.yielded_by _ c.next.new.self
    c.in-None.is c.next.ensures.steps in
    c.loop-file.invariant
    ∙ ap (filter (is_of_input (map path_buf_text c.args.names.now)))
    (sym (map-same c.loop-file.yielded) ∙ end.0)
