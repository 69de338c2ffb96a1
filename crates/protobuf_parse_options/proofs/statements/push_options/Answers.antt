use Rattle.std.proofs.Common.{◌+◌, Bor, take}
use Rattle.protobuf_parse_syntax.specs.declared.tree.option.ProtobufOption.{ProtobufOption}
use Rattle.protobuf_parse_syntax.specs.Trees.{option_syntax}
use Rattle.protobuf_parse_model.specs.BuiltinOptions.{options_seen}
use Rattle.protobuf_parse_model.specs.Faults.{found}
use Rattle.protobuf_parse_options.specs.CustomFaults.{option_faults_at}
use Rattle.protobuf_parse_options.specs.Given.{bytes_of_option, option_scope_view}
use Rattle.protobuf_parse_options.proofs.Refusing.{bytes_more, seen_more, told_more}
use Rattle.protobuf_parse_options.proofs.statements.push_options.Goals as goal

pub options-preserved : goal.options-preserved
options-preserved c =
    let s = option_scope_view c.args.at.now in
    let os = c.args.options.now in
    let k = c.options.option-index in
    let o = option_syntax c.option-item.result.now in
    let tell = option_faults_at s c.args.construct in
    let before = options_seen (take k os) in
    let after = options_seen (take (k + 1) os) in
    let more = seen_more (λ (b : Bor ProtobufOption). option_syntax b.now) os k
    c.option-item.result c.options-test.true c.option-item.is in
    record {
      told = told_more tell (found c.args.faults.now) (found c.options.faults)
          (found c.push_or_tell.new.faults) before o after more c.options.invariant.told
          c.in_ok-push_or_tell.ensures.faults;
      all = λ none. bytes_more tell (bytes_of_option s c.args.construct) c.args.out.now.items
          c.options.out.items c.push_or_tell.new.out.items before o after more
          c.options.invariant.all c.in_ok-push_or_tell.ensures.value none;
    }
