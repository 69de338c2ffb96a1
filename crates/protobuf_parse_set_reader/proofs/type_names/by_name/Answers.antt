use Rattle.std.proofs.Common.{ap, sym, ◌∙◌, Some, None, cond, string_bytes}
use Rattle.std.specs.Option.{option_or}
use Rattle.std.specs.Prelude.{bytes_eq}
use Rattle.protobuf_parse_set_reader.proofs.Naming.{one_more_named}
use Rattle.protobuf_parse_set_reader.proofs.type_names.by_name.Goals as goal

pub loop-each-preserved : goal.loop-each-preserved
loop-each-preserved c = λ q.
    let t = c.each-item.result in
    c.in_ok-put.ensures q
    ∙ ap (λ o. option_or o (cond (bytes_eq (string_bytes t.name) q) (Some t.type_) None))
    (c.loop-each.invariant q)
    ∙ sym (one_more_named c.args.names.now c.loop-each.each-index t q c.loop-each-test.true
    c.each-item.is)
