use Rattle.std.proofs.Common.{◌≡◌, ℕ, [], map, drop}
use Rattle.protobuf_parse_run.specs.Loading.{Grows, IsDecided}
use Rattle.protobuf_parse_run.specs.Run.{input_view, rows}
use Rattle.protobuf_parse_load.specs.Frames.{GoesOn, RemembersReads, StandsAt, raised}
use Rattle.protobuf_parse_load.specs.Loads.{ReadFiles}
use Rattle.protobuf_parse_load.specs.Requests.{legal_by}
use Rattle.protobuf_parse_load.specs.Steps.{At, loads}
use Rattle.protobuf_parse_load.proofs.loader.load_all.Given as goal

abbrev pub invariant-loop-number : goal.invariant-loop-number
invariant-loop-number g l =
    let legal = legal_by g.R.ProtoPathResolver.may_answer g.I.InputReader.may_read l.sources in
    let table = rows l.sources.bundled.now in
    record {
      chain : l.loader.chain.items ≡ [];
      grows : Grows l.fn.loader.reads.items l.loader.reads.items;
      decided : IsDecided table l.loader.reads.items;
      remembers : RemembersReads l.loader;
      inside : (files : ReadFiles) (a : At) → GoesOn files table l.loader.reads.items
          → StandsAt legal files a l.fn.loader
          → (b : At) × StandsAt legal files b l.loader
          × ((k : ℕ) → (h : ℕ) × (loads files.trees 0 (map input_view l.inputs) (raised k a)
          ≡ loads files.trees l.number (map input_view (drop l.number l.inputs)) (raised h b)));
    }
