use Rattle.std.proofs.Common.{◌≡◌, map, take}
use Rattle.std.specs.Prelude.{◌||◌, string_bytes}
use Rattle.std.specs.BTreeSet.{contains_text}
use Rattle.protobuf_parse_base.specs.Names.{absolute_text, fronts}
use Rattle.protobuf_parse_model.specs.Descriptors.{Text}
use Rattle.protobuf_parse_model.specs.SeenFiles.{name_texts}
use Rattle.protobuf_parse_text_rules.specs.Options.{stands_in}
use Rattle.protobuf_parse_name_rules.proofs.files.add_fronts.Given as goal

abbrev pub invariant-parts : goal.invariant-parts
invariant-parts l = record {
  front : string_bytes l.front ≡ absolute_text (name_texts (take l.part-index l.parts));
  packages : (name : Text) → contains_text l.packages name
      ≡ (contains_text l.fn.packages name
      || stands_in name (map absolute_text (fronts (name_texts (take l.part-index l.parts)))));
}
