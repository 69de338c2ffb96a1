use Rattle.std.proofs.Common.{◌≡◌, ◌++◌, ◌∙◌, List, [], ap, map, subst, sym, ℕ}
use Rattle.protobuf_parse_syntax.specs.Trees.{constant_syntax, option_part_syntax}
use Rattle.protobuf_parse_options.specs.CustomFaults.{path_faults}
use Rattle.protobuf_parse_options.specs.CustomOptions.{path_items}
use Rattle.protobuf_parse_options.specs.Given.{bytes_of_items, option_scope_view, path_said}
use Rattle.protobuf_parse_options.specs.OptionFields.{type_name_of}
use Rattle.protobuf_parse_options.proofs.Parts.{no_step_fault, path_given}
use Rattle.protobuf_parse_model.specs.Descriptors.{field_view, Text}
use Rattle.protobuf_parse_options.proofs.paths.+path.Goals as goal

pub push_path-returns : goal.push_path-returns
push_path-returns t c =
    path_given (λ u. c.push_first.new.out.items) c.push_first.result
    (option_scope_view c.args.at.now) (path_said c.args.option.now)
    (constant_syntax c.args.value.now) c.args.message.now c.args.parts.now c.part-item.result
    c.args.out.now.items c.part-item.is
    (sym c.is_empty.ensures ∙ c.if-is_empty.false) c.push_first.ensures

pub push_through-returns : goal.push_through-returns
push_through-returns t c =
    let s = option_scope_view c.args.at.now in
    let f = field_view c.args.field.now in
    let ps = map option_part_syntax c.args.others.now in
    let value = constant_syntax c.args.value.now in
    let option = path_said c.args.option.now in
    let given : (path_faults s option value (type_name_of f) ps ≡ [])
    × (c.push_path.new.out.items ≡ bytes_of_items (path_items s value (type_name_of f) ps)) =
    subst (λ (message : Text). (path_faults s option value message ps ≡ [])
    × (c.push_path.new.out.items ≡ bytes_of_items (path_items s value message ps)))
    c.type_name_of.ensures (
      c.in_ok-push_path.ensures.0,
      c.in_ok-push_path.ensures.1
          ∙ ap (λ (old : List ℕ). old
          ++ bytes_of_items (path_items s value c.type_name_of.result.now ps))
          c.new-inside.ensures.items,
    )
    in (
      no_step_fault f _ _ c.in_ok-check_number.ensures.0 c.in_ok-check_step.ensures given.0,
      c.in_ok-push_inside.ensures _ (c.deref.ensures.value ∙ given.1),
    )
