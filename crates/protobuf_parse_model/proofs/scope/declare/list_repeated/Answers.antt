use Rattle.std.proofs.Common.{◌<◌, ◌-◌, Err, Ok, Result, arith, length}
use Rattle.std.specs.Prelude.{OnOk}
use Rattle.protobuf_parse_model.proofs.Tables.{is_listed, keeps_listed, lists_more, lists_second}
use Rattle.protobuf_parse_model.proofs.scope.declare.list_repeated.Goals as goal

on_ok_both : {T E P Q R : Type 0} (r : Result T E) → (P → Q → R) → OnOk r P → OnOk r Q → OnOk r R
on_ok_both (Ok x) f p q = f p q
on_ok_both (Err e) f p q = tt

pub returns-in_ok-list_name-in-len1-clause-lists :
    goal.returns-in_ok-list_name-in-len1-clause-lists
returns-in_ok-list_name-in-len1-clause-lists c =
    let ds = c.declarations_of.result.now in
    let old = c.args.table.now in
    let name = c.args.name.now in
    let between = c.list_name.new.repeated in
    let some : 0 < length ds = c.in-len1.len_at_least in
    let first = c.in_ok-list_name-in-len1.ensures in
    on_ok_both c.list_next.result
    (lists_second old name ds 0 _ c.declarations_of.ensures some between
    c.list_next.new.repeated c.args.file c.in-len1.len_below
    (keeps_listed old.repeated between _ name first) (is_listed old.repeated between _ name first))
    c.list_next.ensures.kept c.list_next.ensures.listed

pub returns-in-len1-up-clause-lists : goal.returns-in-len1-up-clause-lists
returns-in-len1-up-clause-lists c =
    let ds = c.declarations_of.result.now in
    let more : 1 < length ds = c.in-len1-up.len_at_least in
    let last : length ds - 1 < length ds = omega (arith, more) in
    on_ok_both c.list_next-in-len1-up.result
    (lists_more c.args.table.now c.args.name.now ds (length ds - 1) _ c.declarations_of.ensures last
    c.list_next-in-len1-up.new.repeated c.args.file more)
    c.list_next-in-len1-up.ensures.kept c.list_next-in-len1-up.ensures.listed
