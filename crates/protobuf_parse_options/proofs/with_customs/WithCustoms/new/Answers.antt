use Rattle.std.proofs.Common.{◌∙◌, List, ap, flat_map, map, subst, sym}
use Rattle.protobuf_parse_model.specs.Descriptors.{FileDescriptor, Text, parts_seen}
use Rattle.protobuf_parse_options.specs.ByName.{fields_of_all, values_of_all}
use Rattle.protobuf_parse_wire.specs.Declarations.{declared_extensions}
use Rattle.protobuf_parse_options.specs.Holding.{files_seen}
use Rattle.protobuf_parse_options.specs.HoldingParts.{at_spots, field_there, found_by}
use Rattle.protobuf_parse_options.specs.Holding.{spots_in_files}
use Rattle.protobuf_parse_options.specs.HoldingParts.{number_there}
use Rattle.protobuf_parse_options.specs.Views.{field_among, number_among}
use Rattle.protobuf_parse_options.specs.OptionFields.{declared_enums}
use Rattle.protobuf_parse_options.specs.OptionLaw.{HasSmallValues}
use Rattle.protobuf_parse_options.specs.Spots.{enum_name, enums_inside, extensions_inside}
use Rattle.protobuf_parse_options.specs.Spots.{field_name}
use Rattle.protobuf_parse_options.specs.Spots.{spotted_enums, spotted_extensions}
use Rattle.protobuf_parse_options.specs.SpotsInside.{messages_inside}
use Rattle.protobuf_parse_options.specs.Spots.{spotted_messages}
use Rattle.protobuf_parse_options.specs.Positions.{extension_parts, field_names, value_names}
use Rattle.protobuf_parse_options.proofs.ByName.{values_named}
use Rattle.protobuf_parse_options.proofs.Holding.{all_named, parts_named, seen_is, stands_there}
use Rattle.protobuf_parse_options.proofs.Spotting.{enums_without, extensions_without}
use Rattle.protobuf_parse_options.proofs.Spotting.{messages_stand}
use Rattle.protobuf_parse_options.proofs.Spotting.{placed_stand}
use Rattle.protobuf_parse_options.proofs.Positioning.{all_told, fields_found, numbers_found}
use Rattle.protobuf_parse_options.proofs.SmallValues.{picked_small}
use Rattle.protobuf_parse_options.proofs.with_customs.WithCustoms.new.Goals as goal

pub invariant_of-result : goal.invariant_of-result
invariant_of-result c =
    let k = c.requires.knows in
    let reach = c.args.reach in
    let sight = c.args.sight in
    let enums_stand = placed_stand enum_name enums_inside in
    let all_parts = λ (name : Text). ap (map parts_seen) (stands_there field_names messages_inside
    spotted_messages messages_stand name reach k.files k.reached)
    ∙ parts_named name (files_seen reach) in
    record {
      all_messages = λ name. ap (λ ss. map parts_seen (at_spots messages_inside reach ss))
          (k.holds.messages name) ∙ all_parts name;
      all_fields = λ message name. ap (found_by (field_there reach name)) (k.holds.messages message)
          ∙ fields_found reach name (spots_in_files field_names spotted_messages message 0 k.files)
          (all_told field_names messages_inside spotted_messages messages_stand message reach
          k.files k.reached)
          ∙ ap (λ ps. field_among (fields_of_all ps) name) (all_parts message);
      all_values = λ enum_name name. ap (found_by (number_there reach name))
          (k.holds.enums enum_name)
          ∙ numbers_found reach name (spots_in_files value_names spotted_enums enum_name 0 k.files)
          (all_told value_names enums_inside spotted_enums enums_stand enum_name reach k.files
          k.reached)
          ∙ ap (λ es. number_among (values_of_all es) name) (stands_there value_names enums_inside
          spotted_enums enums_stand enum_name reach k.files k.reached
          ∙ all_named spotted_enums declared_enums enums_without enum_name (files_seen reach))
          ∙ ap (λ vs. number_among vs name)
          (values_named enum_name (flat_map declared_enums (files_seen reach)));
      all_extensions = λ name. ap (at_spots extensions_inside sight) (k.holds.extensions name)
          ∙ stands_there extension_parts extensions_inside spotted_extensions
          (placed_stand field_name extensions_inside) name sight k.files k.seen
          ∙ all_named spotted_extensions declared_extensions extensions_without name
          (files_seen sight);
      small = subst (λ (fs : List FileDescriptor). HasSmallValues fs)
          (sym (seen_is k.files reach k.reached))
          (picked_small k.files reach.numbers.now k.holds.small);
    }
