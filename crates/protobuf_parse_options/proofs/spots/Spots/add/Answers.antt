use Rattle.std.proofs.Common.{◌∙◌, [], ◌∷◌, List, ap, subst}
use Rattle.std.specs.Borrow.{Bor}
use Rattle.std.proofs.lemmas.Result.{on_ok_weaker}
use Rattle.protobuf_parse_model.specs.declared.descriptor.DescriptorProto.{DescriptorProto}
use Rattle.protobuf_parse_model.specs.declared.descriptor.EnumDescriptorProto.{EnumDescriptorProto}
use Rattle.protobuf_parse_model.specs.declared.descriptor.FieldDescriptorProto.{FieldDescriptorProto}
use Rattle.protobuf_parse_model.specs.Descriptors.{Text, enum_view, field_view, file_view}
use Rattle.protobuf_parse_model.specs.Descriptors.{message_view}
use Rattle.protobuf_parse_options.specs.declared.spots.declared.Spotted.{Spotted}
use Rattle.protobuf_parse_options.specs.HoldingParts.{AddsSpots, messages_spotted}
use Rattle.protobuf_parse_options.specs.HoldingParts.{spots_of_list}
use Rattle.protobuf_parse_options.specs.Spots.{spotted_enums, spotted_extensions, spotted_messages}
use Rattle.protobuf_parse_options.specs.Positions.{extension_parts, field_names, value_names}
use Rattle.protobuf_parse_options.proofs.Holding.{more_held}
use Rattle.protobuf_parse_options.proofs.SmallValues.{IsSmallFile, enums_small, small_file}
use Rattle.protobuf_parse_options.proofs.SoundSets.{both}
use Rattle.protobuf_parse_options.proofs.spots.Spots.add.Goals as goal

abbrev parts_of_message : DescriptorProto → List Text
parts_of_message m = field_names (message_view m)

abbrev parts_of_enum : EnumDescriptorProto → List Text
parts_of_enum e = value_names (enum_view e)

abbrev parts_of_extension : FieldDescriptorProto → List Text
parts_of_extension f = extension_parts (field_view f)

pub returns : goal.returns
returns c =
    let f = file_view c.args.descriptor.now in
    let n = c.args.file in
    let old = c.args.self.now in
    let ms = c.in_ok-messages.messages.items in
    let es = c.in_ok-enums.enums.items in
    let xs = c.in_ok-extensions.extensions.items in
    let enums = c.in_ok-enums.ensures (ap messages_spotted c.deref.ensures.value
    ∙ c.in_ok-messages.ensures) in
    let extensions = c.in_ok-extensions.ensures (ap messages_spotted c.deref-2.ensures.value
    ∙ c.in_ok-messages.ensures) in
    let first = subst (λ (ks : List (Spotted (Bor DescriptorProto))). AddsSpots old.messages
    c.put_all.new.spots (λ (name : Text). spots_of_list parts_of_message n name ks))
    c.deref-3.ensures.value
    c.in_ok-put_all.ensures in
    let second = subst (λ (ks : List (Spotted (Bor EnumDescriptorProto))). AddsSpots old.enums
    c.put_all-2.new.spots (λ (name : Text). spots_of_list parts_of_enum n name ks))
    c.deref-4.ensures.value
    c.in_ok-put_all-2.ensures in
    let small = enums_small es in
    on_ok_weaker c.put_all-3.result
    (λ added files len holds. record {
      messages = more_held message_view field_names spotted_messages old.messages
          c.put_all.new.spots files f n ms len c.in_ok-messages.ensures first holds.messages;
      enums = more_held enum_view value_names spotted_enums old.enums c.put_all-2.new.spots files f
          n es len enums second holds.enums;
      extensions = more_held field_view extension_parts spotted_extensions old.extensions
          c.put_all-3.new.spots files f n xs len extensions
          (subst (λ (ks : List (Spotted (Bor FieldDescriptorProto))).
          AddsSpots old.extensions c.put_all-3.new.spots
          (λ (name : Text). spots_of_list parts_of_extension n name ks))
          c.deref-5.ensures.value added) holds.extensions;
      small = both IsSmallFile files (f ∷ []) holds.small (small_file f es enums small, tt);
    })
    c.put_all-3.ensures
