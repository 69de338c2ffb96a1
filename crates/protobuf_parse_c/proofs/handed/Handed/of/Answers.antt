use Rattle.std.proofs.Common.{◌∙◌, ap, sym, [], get_or, take, map}
use Rattle.std.proofs.lemmas.List.{map_more}
use Rattle.protobuf_parse_c.specs.Handed.{content_in, file_bytes}
use Rattle.protobuf_parse_c.proofs.Firsts.{none_of, one_more, one_same, some_of}
use Rattle.protobuf_parse_c.proofs.handed.Handed.of.Goals as goal
use Rattle.protobuf_parse_c.proofs.handed.Handed.of.Goals.{then-not-contains_key+in_ok-insert, else-not-contains_key}

pub files-preserved : goal.files-preserved
files-preserved c = λ path.
    let files = c.args.files.now in
    let at = c.files.file-index in
    let file = get_or files at (record {
      path = record { ref_ptr = (0, 0); now = [] };
      content = record { ref_ptr = (0, 0); now = [] };
    }) in
    let more = sym (ap (λ fs. content_in fs path) (map_more file_bytes files at _ c.files-test.true)) in
    elim c.if-not-contains_key.branch [
      | then-not-contains_key+in_ok-insert w ↦ rw w.by_path-is
          (one_more (map file_bytes (take at files)) file.path file.content c.files.by_path
          w.insert.new.self path
          w.in_ok-insert.ensures.updates (none_of _ w.if-not-contains_key.ensures) c.files.invariant
          ∙ more)
      | else-not-contains_key w ↦ rw w.by_path-is
          (one_same (map file_bytes (take at files)) (file_bytes file) c.files.by_path path
          (some_of _ w.if-not-contains_key.ensures) c.files.invariant ∙ more)
    ]
