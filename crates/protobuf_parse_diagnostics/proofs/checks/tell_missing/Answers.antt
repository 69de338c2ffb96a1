use Rattle.std.proofs.Common.{◌∙◌, sym}
use Rattle.std.proofs.lemmas.Option.{slice_get_past}
use Rattle.protobuf_parse_diagnostics.proofs.Adding.{got, missing_none, missing_other, missing_told}
use Rattle.protobuf_parse_diagnostics.proofs.checks.tell_missing.Goals as goal

pub returns-in_default : goal.returns-in_default
returns-in_default g c =
    missing_none _ _ _ (slice_get_past c.args.given.now.unread.now c.args.number
    c.in_default.ensures.lookup.3)

pub returns-then-not-is_told_where_asked : goal.returns-then-not-is_told_where_asked
returns-then-not-is_told_where_asked g c =
    missing_other _ _ c.in-Some.file.now _ (got c.args.given.now.unread.now c.args.number
    c.in-Some.file.now (sym c.in-Some.ensures.lookup.0) c.in-Some.ensures.lookup.1)
    (sym c.is_told_where_asked.ensures ∙ c.if-not-is_told_where_asked.true)

pub returns : goal.returns
returns g c =
    let asked = sym c.is_told_where_asked.ensures ∙ c.if-not-is_told_where_asked.false in
    missing_told _ _ c.in-Some.file.now c.in_ok-line.line c.add_reason.new.told _ _
    (got c.args.given.now.unread.now c.args.number c.in-Some.file.now
    (sym c.in-Some.ensures.lookup.0) c.in-Some.ensures.lookup.1)
    asked c.in_ok-line.ensures.code (c.in_ok-line.ensures.place asked) c.in_ok-add_reason.ensures
    c.in_ok-push.ensures.items
