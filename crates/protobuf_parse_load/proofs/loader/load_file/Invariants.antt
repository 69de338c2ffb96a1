use Rattle.std.proofs.Common.{◌≡◌, ◌+◌, ◌≤◌, [], ◌∷◌, ◌++◌, length}
use Rattle.protobuf_parse_run.specs.Loading.{Grows, IsDecided}
use Rattle.protobuf_parse_run.specs.Run.{input_view, rows}
use Rattle.protobuf_parse_run.specs.Walks.{input_name}
use Rattle.protobuf_parse_load.specs.Frames.{AreLow, GoesOn, IsRunning, RemembersReads, StandsAt}
use Rattle.protobuf_parse_load.specs.Frames.{chain_in, chain_of, frame_path, left_over}
use Rattle.protobuf_parse_load.specs.Loads.{ReadFiles}
use Rattle.protobuf_parse_load.specs.Requests.{legal_by}
use Rattle.protobuf_parse_load.specs.Steps.{At, walks_input}
use Rattle.protobuf_parse_load.proofs.loader.load_file.Given as goal

abbrev pub invariant-files : goal.invariant-files
invariant-files g l =
    let legal = legal_by g.R.ProtoPathResolver.may_answer g.I.InputReader.may_read l.sources in
    let table = rows l.sources.bundled.now in
    record {
      chain : chain_in l.loader ≡ chain_of [] l.stack.items ++ frame_path l.top ∷ [];
      low : AreLow 0 l.stack.items;
      high : length l.stack.items + 1 + l.top.height ≤ 100;
      grows : Grows l.fn.loader.reads.items l.loader.reads.items;
      decided : IsDecided table l.loader.reads.items;
      remembers : RemembersReads l.loader;
      inside : (files : ReadFiles) (a : At) → GoesOn files table l.loader.reads.items
          → StandsAt legal files a l.fn.loader
          → IsRunning legal files (walks_input files.trees l.number (input_view l.input))
          (input_name (input_view l.input)) a l.stack.items l.top l.loader;
    }

abbrev pub decreases-files : goal.decreases-files
decreases-files g l = left_over l.stack.items l.top
