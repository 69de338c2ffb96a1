use Rattle.std.proofs.Common.{◌∙◌, ◌++◌, List, ap, map, string_bytes, true, false}
use Rattle.std.specs.Global.{Global}
use Rattle.std.specs.Prelude.{String}
use Rattle.protobuf_parse_syntax.specs.Trees.{file_syntax}
use Rattle.protobuf_parse_model.specs.Faults.{Fault, fault_view, found}
use Rattle.protobuf_parse_model.specs.declared.error.ElabError.{ElabError}
use Rattle.protobuf_parse_check.specs.Judging.{repeats_over}
use Rattle.protobuf_parse_check.proofs.repeats.repeats_of.Goals as goal

pub returns : goal.returns
returns c files tells =
    let loaded = c.args.loaded.now.entries in
    let reach = c.args.seen.now.reach.now in
    let t = file_syntax c.args.tree.now in
    let a = c.in_ok-types.ensures files tells in
    let b = c.in_ok-extensions.ensures files tells in
    let d = c.in_ok-tell_names.ensures files tells in
    let e = c.in_ok-tell_names-2.ensures files tells in
    record {
      types = map string_bytes c.in_ok-types.types.items;
      extensions = map string_bytes c.in_ok-extensions.extensions.items;
      types_are = record {
        listed = c.in_ok-files.files.items;
        beside = c.in_ok-files.ensures;
        brings = (rw (c.deref.ensures.value, c.len-own.ensures.len) at a);
      };
      extensions_are = record {
        listed = c.in_ok-files.files.items;
        beside = c.in_ok-files.ensures;
        brings = (rw (c.deref-2.ensures.value, c.len-own.ensures.len) at b);
      };
      told_are = e
          ∙ ap (λ (es : List (String Global)). found c.tell_names.new.faults
          ++ repeats_over loaded files reach t true (map string_bytes es)) c.deref-4.ensures.value
          ∙ ap (λ (fs : List Fault). fs ++ repeats_over loaded files reach t true
          (map string_bytes c.in_ok-extensions.extensions.items))
          (d ∙ ap (λ (es : List (String Global)). found c.new-faults.result
          ++ repeats_over loaded files reach t false (map string_bytes es)) c.deref-3.ensures.value
          ∙ ap (λ (es : List ElabError). map fault_view es
          ++ repeats_over loaded files reach t false
          (map string_bytes c.in_ok-types.types.items)) c.new-faults.ensures.items);
    }
