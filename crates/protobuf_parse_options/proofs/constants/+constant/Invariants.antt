use Rattle.std.proofs.Common.{◌≡◌, ◌++◌, [], map, flat_map, take}
use Rattle.protobuf_parse_syntax.specs.Trees.{constant_syntax}
use Rattle.protobuf_parse_syntax.specs.InnerViews.{constant_field_syntax}
use Rattle.protobuf_parse_model.specs.Descriptors.{field_view}
use Rattle.protobuf_parse_options.specs.CustomFaults.{constant_faults}
use Rattle.protobuf_parse_options.specs.Given.{field_faults_of, given_field_bytes, value_bytes}
use Rattle.protobuf_parse_options.specs.Given.{option_scope_view}
use Rattle.protobuf_parse_options.specs.Given.{path_said}
use Rattle.protobuf_parse_options.proofs.constants.+constant.Given as goal

abbrev pub invariant-push_list-items : goal.invariant-push_list-items
invariant-push_list-items l =
    let s = option_scope_view l.at in
    let cs = map constant_syntax (take l.item-index l.items) in
    record {
      no_fault : flat_map (constant_faults s (path_said l.option) (field_view l.field)) cs ≡ [];
      all : l.out.items ≡ l.fn.out.items ++ flat_map (value_bytes s (field_view l.field)) cs;
    }

abbrev pub invariant-push_fields-fields : goal.invariant-push_fields-fields
invariant-push_fields-fields l =
    let s = option_scope_view l.at in
    let fs = map constant_field_syntax (take l.field-index l.fields) in
    record {
      no_fault : flat_map (field_faults_of s (path_said l.option) l.message) fs ≡ [];
      all : l.out.items ≡ l.fn.out.items ++ flat_map (given_field_bytes s l.message) fs;
    }
