use Rattle.std.proofs.Common.{◌∙◌, sym}
use Rattle.protobuf_parse_elaboration.proofs.Settings.{set_where_any}
use Rattle.protobuf_parse_elaboration.proofs.constructs.options.sets.file_options.Goals as goal

pub returns : goal.returns
returns c =
    set_where_any c.args.options.now _ _ (sym c.is_empty.ensures ∙ c.if-is_empty.false)
    (λ i. record {
      java_package = c.in_ok-text_option.ensures i;
      java_outer_classname = c.in_ok-text_option-2.ensures i;
      optimize_for = c.word_option.ensures i;
      java_multiple_files = c.truth_option.ensures i;
      go_package = c.in_ok-text_option-3.ensures i;
      cc_generic_services = c.truth_option-2.ensures i;
      java_generic_services = c.truth_option-3.ensures i;
      py_generic_services = c.truth_option-4.ensures i;
      java_generate_equals_and_hash = c.truth_option-5.ensures i;
      deprecated = c.truth_option-6.ensures i;
      java_string_check_utf8 = c.truth_option-7.ensures i;
      cc_enable_arenas = c.truth_option-8.ensures i;
      objc_class_prefix = c.in_ok-text_option-4.ensures i;
      csharp_namespace = c.in_ok-text_option-5.ensures i;
      swift_prefix = c.in_ok-text_option-6.ensures i;
      php_class_prefix = c.in_ok-text_option-7.ensures i;
      php_namespace = c.in_ok-text_option-8.ensures i;
      php_metadata_namespace = c.in_ok-text_option-9.ensures i;
      ruby_package = c.in_ok-text_option-10.ensures i;
      custom = c.args.custom.items;
    })
