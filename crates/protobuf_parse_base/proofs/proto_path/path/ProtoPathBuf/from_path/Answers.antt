-- What is kept is a proto path unless it is empty.
use Rattle.std.proofs.Common.{◌≡◌, ◌==◌, length, true, false, sym, ap, ◌∙◌, rules}
use Rattle.std.specs.List.{list_any}
use Rattle.std.specs.String.{string_bytes}
use Rattle.protobuf_parse_base.specs.Paths.{has_backslash, is_dot_dot, is_empty, joined, kept_parts}
use Rattle.protobuf_parse_base.specs.Paths.{path_fault, slash_parts, starts_with_slash}
use Rattle.protobuf_parse_base.proofs.PathTexts.{host_path_fault-empty, kept-empty, path_fault-kept}
use Rattle.protobuf_parse_base.proofs.proto_path.path.ProtoPathBuf.from_path.Goals as goal

pub returns-then-is_empty-clause-fault : goal.returns-then-is_empty-clause-fault
returns-then-is_empty-clause-fault c =
    let no_slash : starts_with_slash c.args.text.now ≡ false = search rules in
    let no_backslash : has_backslash c.args.text.now ≡ false = search rules in
    let no_dots : list_any is_dot_dot (slash_parts c.args.text.now) ≡ false = search rules in
    let empty : is_empty (string_bytes c.in-Ok.kept) ≡ true = search rules in
    let kept : string_bytes c.in-Ok.kept ≡ joined (kept_parts c.args.text.now) = search rules in
    let none : (length (kept_parts c.args.text.now) == 0) ≡ true = sym (kept-empty c.args.text.now)
    ∙ (ap is_empty (sym kept) ∙ empty) in
    λ other. host_path_fault-empty c.args.text.now no_slash no_backslash no_dots none

pub invariant_of-result : goal.invariant_of-result
invariant_of-result c =
    let no_backslash : has_backslash c.args.text.now ≡ false = search rules in
    let no_dots : list_any is_dot_dot (slash_parts c.args.text.now) ≡ false = search rules in
    let full : is_empty (string_bytes c.in-Ok.kept) ≡ false = search rules in
    let kept : string_bytes c.in-Ok.kept ≡ joined (kept_parts c.args.text.now) = search rules in
    let some : (length (kept_parts c.args.text.now) == 0) ≡ false = sym (kept-empty c.args.text.now)
    ∙ (ap is_empty (sym kept) ∙ full) in
    record {
      well_formed = ap path_fault kept
          ∙ path_fault-kept c.args.text.now no_backslash no_dots some;
    }
