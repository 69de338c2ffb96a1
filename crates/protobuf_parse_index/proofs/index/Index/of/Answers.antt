use Rattle.std.proofs.Common.{◌∙◌, map, ap, subst}
use Rattle.protobuf_parse_model.specs.Descriptors.{enum_view, field_view, message_view}
use Rattle.protobuf_parse_model.specs.Descriptors.{service_view}
use Rattle.protobuf_parse_index.specs.Kept.{HasExtensions, own_fields, own_values}
use Rattle.protobuf_parse_index.specs.Views.{standing_enum, standing_extension, standing_message}
use Rattle.protobuf_parse_index.proofs.Finding.{has_paths, has_positions}
use Rattle.protobuf_parse_index.proofs.index.Index.of.Goals as goal

pub invariant_of-result : goal.invariant_of-result
invariant_of-result c =
    let walks = c.in_ok-declared.ensures in
    record {
      walk = walks;
      messages = has_positions message_view _ _ _ _ c.in_ok-messages_by_name.ensures
          c.deref.ensures.value walks.messages;
      enums = has_positions enum_view _ _ _ _ c.in_ok-enums_by_name.ensures
          c.deref-2.ensures.value walks.enums;
      extensions = has_positions field_view _ _ _ _ c.in_ok-extensions_by_name.ensures
          c.deref-3.ensures.value walks.extensions;
      services = c.in_ok-services.ensures;
      service_names = has_positions service_view _ _ _ _ c.in_ok-services_by_name.ensures
          c.deref-4.ensures.value c.in_ok-services.ensures;
      paths = has_paths _ _ c.in_ok-files_by_path.ensures;
      fields = c.in_ok-fields.ensures
          ∙ ap (λ ms. map own_fields (map standing_message ms)) c.deref-5.ensures.value
          ∙ ap (map own_fields) walks.messages;
      values = c.in_ok-values.ensures
          ∙ ap (λ es. map own_values (map standing_enum es)) c.deref-6.ensures.value
          ∙ ap (map own_values) walks.enums;
      extended = subst (HasExtensions c.in_ok-extensions_by_number.extensions_by_number)
          (ap (map standing_extension) c.deref-7.ensures.value ∙ walks.extensions)
          c.in_ok-extensions_by_number.ensures;
    }
