use Rattle.std.proofs.Common.{◌≡◌, ◌+◌, ◌*◌, ◌^◌, ◌<◌, ◌≤◌, false, List, [], ◌∷◌, ◌++◌, length}
use Rattle.std.specs.List.{AllByRecursion}
use Rattle.protobuf_parse_base.specs.PathViews.{path_buf_text}
use Rattle.protobuf_parse_run.specs.Walks.{Event, among, keep, walk}
use Rattle.protobuf_parse_run.specs.Run.{Files, rows}
use Rattle.protobuf_parse_run.specs.Loading.{legal_by, AreKnown, AreUnloaded, GoesOn, Good, Grows}
use Rattle.protobuf_parse_run.specs.Loading.{IsDecided, asked_by, chain_texts}
use Rattle.protobuf_parse_run.specs.Frames.{AreWaiting, IsRunning, IsTaken, chain_of, first_path}
use Rattle.protobuf_parse_run.specs.Frames.{left_in, left_over, frame_path, to_meet}
use Rattle.protobuf_parse_run.proofs.loader.load_file.Given as goal

abbrev pub invariant-files : goal.invariant-files
invariant-files g l =
    let legal = legal_by g.R.ProtoPathResolver.may_answer g.I.InputReader.may_read l.sources in
    record {
      chain : chain_texts l.loader.chain.items ≡ chain_of [] l.stack.items ++ frame_path l.top ∷ [];
      grows : Grows l.fn.loader.reads.items l.loader.reads.items;
      decided : IsDecided (rows l.sources.bundled.now) l.fn.loader.reads.items
          → IsDecided (rows l.sources.bundled.now) l.loader.reads.items;
      known : AreKnown l.loader.loaded.entries l.loader.tables l.loader.reads.items;
      unloaded : AreUnloaded (chain_of [] l.stack.items ++ frame_path l.top ∷ [])
          l.loader.loaded.entries;
      off : among (frame_path l.top) (chain_of [] l.stack.items) ≡ false;
      low : length l.stack.items + l.top.height < 100;
      taken : IsTaken l.loader.loaded.entries l.loader.reads.items l.top;
      below : AllByRecursion (IsTaken l.loader.loaded.entries l.loader.reads.items) l.stack.items;
      waiting : AreWaiting [] l.stack.items (frame_path l.top);
      lowest : first_path l.stack.items (frame_path l.top) ≡ path_buf_text l.input;
      bound : l.loader.meets + (length (left_in l.top) + to_meet l.stack.items) + length
          l.fn.loader.reads.items * 2 ^ 64
          ≤ l.fn.loader.meets + 1 + length l.loader.reads.items * 2 ^ 64;
      inside : (files : Files) (kept : List Event)
          → GoesOn files (rows l.sources.bundled.now) l.loader.reads.items
          → Good legal files kept l.fn.loader.loaded.entries
          l.fn.loader.reads.items []
          → IsRunning legal files kept
          (keep kept
          (walk files.trees (path_buf_text l.input) (asked_by l.fs_path) 100 []
          (path_buf_text l.input))) (path_buf_text l.input) l.fn.loader.meets l.loader.meets
          l.stack.items l.top l.loader.loaded.entries l.loader.reads.items;
    }

abbrev pub decreases-files : goal.decreases-files
decreases-files g l = left_over l.stack.items l.top
