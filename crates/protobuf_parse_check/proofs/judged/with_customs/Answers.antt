use Rattle.std.proofs.Common.{◌≡◌, ◌∙◌, ◌++◌, List, ap, flat_map, map, refl, subst}
use Rattle.std.specs.Prelude.{option_to_list}
use Rattle.protobuf_parse_syntax.specs.Trees.{file_syntax}
use Rattle.protobuf_parse_model.specs.Descriptors as described
use Rattle.protobuf_parse_model.specs.Descriptors.{FileDescriptor}
use Rattle.protobuf_parse_model.specs.Environment.{Customs}
use Rattle.protobuf_parse_model.specs.Faults.{fault_view, found}
use Rattle.protobuf_parse_model.specs.Tables.{picked}
use Rattle.protobuf_parse_model.specs.declared.error.ElabError.{ElabError}
use Rattle.protobuf_parse_elaboration.specs.FileDescriptor.{environment, file_faults, file_of}
use Rattle.protobuf_parse_options.specs.OptionBytes.{customs_by_files}
use Rattle.protobuf_parse_run.specs.Loading.{customs_over, descriptors_with, picked_descriptors}
use Rattle.protobuf_parse_run.proofs.Catching.{listed, picked-seen}
use Rattle.protobuf_parse_check.proofs.judged.with_customs.Goals as goal

pub returns-clause-judged : goal.returns-clause-judged
returns-clause-judged c files told =
    let t = file_syntax c.args.tree.now in
    let seen = picked files c.args.seen.now.sight.now in
    let plain = described.file_view c.args.plain.now in
    let descriptors = descriptors_with c.args.loaded.now.entries plain in
    let reach = c.args.seen.now.reach.now in
    let sight = c.args.seen.now.sight.now in
    let reached = ap listed c.deref.ensures.value
    ∙ ap (flat_map option_to_list) c.in_ok-reached.ensures ∙ picked-seen descriptors reach in
    let visible = ap listed c.deref-2.ensures.value
    ∙ ap (flat_map option_to_list) c.in_ok-visible.ensures ∙ picked-seen descriptors sight in
    let customs = c.new-customs.ensures
    ∙ ap (λ (ds : List FileDescriptor). customs_by_files ds (listed c.deref-2.result.now)) reached
    ∙ ap (λ (ds : List FileDescriptor). customs_by_files (picked_descriptors descriptors reach) ds)
    visible in
    let added = c.in_ok-descriptor.ensures.faults files told in
    record {
      faulty = refl;
      told =
          subst (λ (k : Customs). found c.elaborate_all.new.faults
          ≡ found c.new-faults.result ++ file_faults (environment seen k t) t) customs added
          ∙ ap (λ (es : List ElabError). map fault_view es
          ++ file_faults (environment seen (customs_over descriptors reach sight) t) t)
          c.new-faults.ensures.items;
      descriptor =
          subst (λ (k : Customs). described.file_view c.in_ok-descriptor.descriptor
          ≡ file_of (environment seen k t) c.args.path.now t) customs
          (c.in_ok-descriptor.ensures.value files told);
    }
