use Rattle.std.proofs.Common.{refl, sym}
use Rattle.protobuf_parse_run.proofs.Finding.{numbered}
use Rattle.protobuf_parse_run.proofs.Numbers.{numbered-at}
use Rattle.protobuf_parse_run.proofs.loader.placed_at.Goals as goal

pub returns-in-Some : goal.returns-in-Some
returns-in-Some c =
    let loaded = c.args.loaded.now.entries in
    let r = numbered c.args.path.now loaded _ (sym c.in-Some.ensures.number) in
    let there = numbered-at loaded _ r.0 c.args.path.now r.1 r.3 in
    (c.in-Some.file.now, sym c.in-Some.ensures.value, refl, there)
