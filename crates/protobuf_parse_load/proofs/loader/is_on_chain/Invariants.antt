use Rattle.std.proofs.Common.{◌≡◌, drop}
use Rattle.protobuf_parse_run.specs.Walks.{among}
use Rattle.protobuf_parse_run.specs.Loading.{chain_texts}
use Rattle.protobuf_parse_load.proofs.loader.is_on_chain.Given as goal

abbrev pub invariant-loop-above : goal.invariant-loop-above
invariant-loop-above l = among l.path (chain_texts (drop l.above-index l.chain))
    ≡ among l.path (chain_texts l.chain)
