use Rattle.std.proofs.Common.{◌≡◌, Ok, Err, inl, inr, length, arith}
use Rattle.protobuf_parse_load.proofs.Meeting.{misses-moved, opens-moved}
use Rattle.protobuf_parse_load.proofs.loader.read_new.Goals as goal

pub returns-in-Ok : goal.returns-in-Ok
returns-in-Ok g c =
    let count : c.len-read.result ≡ length c.args.loader.now.reads.items =
    omega (arith, c.len-read.ensures, c.args.loader.now.reads.ok.0) in
    record {
      tree = Ok c.in-Ok.tree;
      read = rw c.open.ensures.reads c.in-Ok.ensures;
      leaves = opens-moved c.args.request.now c.len-read.result _ c.in-Ok.tree c.args.loader.now
          c.open.new.loader c.read_tree.new.reads c.open.result count c.open.ensures;
    }

pub returns-then-is_memory : goal.returns-then-is_memory
returns-then-is_memory g c = record {
  tree = Err c.in-Err.fault;
  read = c.in-Err.ensures;
  leaves = inl tt;
}

pub returns-else-is_memory : goal.returns-else-is_memory
returns-else-is_memory g c =
    let count : c.len-read.result ≡ length c.args.loader.now.reads.items =
    omega (arith, c.len-read.ensures, c.args.loader.now.reads.ok.0) in
    record {
      tree = Err c.in-Err.fault;
      read = rw c.miss.ensures.reads c.in-Err.ensures;
      leaves = inr (
        c.is_memory.ensures.other c.if-is_memory.false,
        misses-moved c.args.request.now c.len-read.result _ c.in-Err.fault c.args.loader.now
            c.miss.new.loader c.read_tree.new.reads c.miss.result count c.miss.ensures,
      );
    }
