use Rattle.std.proofs.Common.{◌≡◌, ◌+◌, ◌*◌, ◌^◌, ◌≤◌, [], length, map, take}
use Rattle.protobuf_parse_run.specs.Walks.{events, import_statements}
use Rattle.protobuf_parse_run.specs.Run.{Files, input_view, rows}
use Rattle.protobuf_parse_run.specs.Loading.{legal_by, AreKnown, GoesOn, Good, IsDecided}
use Rattle.protobuf_parse_run.proofs.loader.load_inputs.Given as goal

abbrev pub invariant-loop-input : goal.invariant-loop-input
invariant-loop-input g l =
    record {
      chain : l.loader.chain.items ≡ [];
      bound : l.loader.meets ≤ l.input-index + length l.loader.reads.items * 2 ^ 64;
      decided : IsDecided (rows l.sources.bundled.now) l.loader.reads.items;
      inside : (files : Files) → GoesOn files (rows l.sources.bundled.now) l.loader.reads.items
          → Good (legal_by g.R.ProtoPathResolver.may_answer g.I.InputReader.may_read l.sources)
          files (events files.trees (map input_view (take l.input-index l.inputs)))
          l.loader.loaded.entries l.loader.reads.items [];
      known : AreKnown l.loader.loaded.entries l.loader.tables l.loader.reads.items;
      count : (files : Files) → GoesOn files (rows l.sources.bundled.now) l.loader.reads.items
          → l.loader.meets ≡ l.input-index + import_statements files.trees
          (events files.trees (map input_view (take l.input-index l.inputs)));
    }
