use Rattle.std.specs.Prelude.{codes}
use Rattle.protobuf_parse_model.specs.Descriptors.{field_view}
use Rattle.protobuf_parse_listing.specs.Listing.{field_lines_after}
use Rattle.protobuf_parse_listing.specs.Parts.{field_words_is}
use Rattle.protobuf_parse_listing.proofs.Appending.{appended_labelled, on_ok_then}
use Rattle.protobuf_parse_listing.proofs.fields.put_field.Goals as goal

pub returns : goal.returns
unfolding field_lines_after
returns c =
    on_ok_then c.put_field_options.result
    (appended_labelled _ _ (codes "field ") _ _ _ (field_words_is (field_view c.args.field.now))
    c.in_ok-begin_field.ensures c.in_ok-put_after_label.ensures)
    c.put_field_options.ensures
