use Rattle.std.proofs.Common.{◌≡◌, ◌≤◌, ◌<◌, ◌+◌, ◌^◌, suc, ◌++◌, ◌∷◌, [], Some, Ok, Err, length}
use Rattle.std.proofs.Common.{refl, sym, ap, ◌∙◌, append-nil, drop, slice_get, arith, add-one}
use Rattle.std.proofs.Common.{rules}
use Rattle.std.proofs.lemmas.Result.{err_from_is_err_and}
use Rattle.std.proofs.lemmas.List.{length_push}
use Rattle.std.proofs.lemmas.Option.{slice_get_within}
use Rattle.std.specs.Global.{Vec}
use Rattle.protobuf_parse_base.specs.PathViews.{path_buf_text}
use Rattle.protobuf_parse_syntax.specs.declared.tree.FileStatement.TheVariants as file_statement
use Rattle.protobuf_parse_syntax.specs.declared.tree.Import.{Import}
use Rattle.protobuf_parse_run.specs.declared.frame.LoadFrame.{LoadFrame}
use Rattle.protobuf_parse_run.specs.declared.loader.Met.TheVariants as met
use Rattle.protobuf_parse_run.specs.declared.log.ReadEntry.{ReadEntry}
use Rattle.protobuf_parse_run.specs.Walks.{walk}
use Rattle.protobuf_parse_run.specs.Run.{rows}
use Rattle.protobuf_parse_run.specs.Loading.{legal_by, Grows, MoreLoaded, asked_by, chain_texts}
use Rattle.protobuf_parse_run.specs.Frames.{IsAgain, IsOpened, Joined, chain_of, imports_in}
use Rattle.protobuf_parse_run.specs.Frames.{later_in, left_in, frame_path, to_meet}
use Rattle.protobuf_parse_run.proofs.Keeping.{among-last}
use Rattle.protobuf_parse_run.proofs.Steps.{Grows-trans}
use Rattle.protobuf_parse_run.proofs.Leaving.{goes-back, goes-same, texts-length}
use Rattle.protobuf_parse_run.proofs.Deciding.{decided-same}
use Rattle.protobuf_parse_run.proofs.Knowing.{known-grows}
use Rattle.protobuf_parse_run.proofs.Counting.{count-grows}
use Rattle.protobuf_parse_run.proofs.Stacks.{at_get, chain_of-push, first_path-push, frames-pop}
use Rattle.protobuf_parse_run.proofs.Stacks.{frames-push, imports_in-shorter, left-import}
use Rattle.protobuf_parse_run.proofs.Stacks.{left-joined, left-other, length-chain_of, less-close}
use Rattle.protobuf_parse_run.proofs.Stacks.{less-new, less-next, none-left, none-texts, none_of}
use Rattle.protobuf_parse_run.proofs.Stacks.{to_meet-push, waiting-pop, waiting-push}
use Rattle.protobuf_parse_run.proofs.Taking.{all_taken-more, closed-is, taken-joined, taken-more}
use Rattle.protobuf_parse_run.proofs.Taking.{taken-new, taken-other, unloaded-enter, unloaded-first}
use Rattle.protobuf_parse_run.proofs.Meeting.{first-meets, first-stands}
use Rattle.protobuf_parse_run.proofs.Stepping.{closed-breaks, counted-end, counted-next}
use Rattle.protobuf_parse_run.proofs.Stepping.{counted-now, known-breaks, running-breaks}
use Rattle.protobuf_parse_run.proofs.Stepping.{running-close, running-closes, running-end}
use Rattle.protobuf_parse_run.proofs.Stepping.{running-known, running-new, running-other}
use Rattle.protobuf_parse_run.proofs.Stepping.{running-refused, running-start, running-stops}
use Rattle.protobuf_parse_run.proofs.loader.load_file.Goals as goal

pub returns-in_err-first : goal.returns-in_err-first
returns-in_err-first g c = record {
  grows = search rules;
  chain = search rules;
  bound = search rules;
  goes = search rules;
  count = λ files kept go good.
      let p = err_from_is_err_and c.from_residual.result c.from_residual.ensures.1 in
      let m = count-grows files.trees kept
      (walk files.trees (path_buf_text c.args.input.now) (asked_by c.args.fs_path) 100 []
      (path_buf_text c.args.input.now)) in
      rw p.1 (omega (arith, m, c.meet.ensures.meets));
  decided = search rules;
  known = search rules;
}

pub files-init : goal.files-init
files-init g c =
    let none = ap chain_texts c.requires.chain in
    let same = ap (λ m. m.entries) c.meet.ensures.loaded in
    let o = first-stands _ _ _ _ _ _ (Ok (met.Opened c.in-Opened.frame)) none
    (rw c.in-Opened.is at c.in_ok-first.ensures.stands) in
    let empty = c.new-stack.ensures.items in
    let v = c.in-Opened.frame.tree.statements in
    let left : left_in c.in-Opened.frame ≡ imports_in v.items = rw o.next refl in
    let b = ap length left in
    let l = ap length o.reads ∙ length_push c.args.loader.now.reads.items o.entry in
    record {
      chain = rw (empty, o.path_is) o.chain_is;
      grows = c.meet.ensures.grows;
      decided = c.meet.ensures.decided;
      known = known-grows _ _ c.args.loader.now.reads.items _ c.meet.ensures.grows
          (rw (same, c.meet.ensures.tables) c.requires.known);
      unloaded = rw (empty, o.path_is, same) (unloaded-first _ _ o.missing);
      off = rw empty refl;
      low = rw (empty, o.height) (omega arith);
      taken = rw same (taken-new _ _ _ _ _ _ _ o);
      below = rw empty tt;
      waiting = rw empty tt;
      lowest = rw empty o.path_is;
      bound = rw empty
          (omega (
            arith,
            b,
            l,
            imports_in-shorter v.items,
            v.ok.0,
            v.ok.1,
            v.small,
            c.meet.ensures.meets,
          ));
      inside = λ files kept go good.
          let legal = legal_by g.R.ProtoPathResolver.may_answer g.I.InputReader.may_read
          c.args.sources.now in
          let k = first-meets legal files kept
          (path_buf_text c.args.input.now)
          (asked_by c.args.fs_path) _ _ _ _ (Ok (met.Opened c.in-Opened.frame)) none good
          (rw c.in-Opened.is at (c.in_ok-first.ensures.leaves files kept go)) in
          rw (empty, same)
          (running-start legal files kept
          (path_buf_text c.args.input.now)
          (asked_by c.args.fs_path) (path_buf_text c.args.input.now) _ _ _ c.in-Opened.frame _ _
          _ c.meet.ensures.meets k o);
    }

pub meet-requires-in-files-clause-chain : goal.meet-requires-in-files-clause-chain
meet-requires-in-files-clause-chain g c =
    let e = ap length c.files.invariant.chain in
    let f = length_push (chain_of [] c.files.stack.items) (frame_path c.files.top) in
    let h = length-chain_of [] c.files.stack.items in
    let n = texts-length c.files.loader.chain.items in
    omega (arith, e, f, h, n, c.files.invariant.low)

pub returns-in_err-met : goal.returns-in_err-met
returns-in_err-met g c = record {
  grows = Grows-trans _ _ _ c.files.invariant.grows c.meet-in-files.ensures.grows;
  chain = search rules;
  bound = search rules;
  goes = λ files kept go good.
      let at : slice_get c.files.top.tree.statements.items c.files.top.next
      ≡ Some (file_statement.Import c.in-Import.import) =
      at_get c.files.top.tree.statements.items c.files.top.next c.in-Some.statement.now
      (rw c.deref.ensures.value at c.in-Some.ensures.lookup.3.0)
      (rw c.deref.ensures.value at c.in-Some.ensures.lookup.1) ∙ ap Some c.in-Import.is in
      let legal = legal_by g.R.ProtoPathResolver.may_answer g.I.InputReader.may_read
      c.args.sources.now in
      let back = goes-back files _ _ _ c.meet-in-files.ensures.grows go in
      let r = c.files.invariant.inside files kept back good in
      let p = err_from_is_err_and c.from_residual-in_err-met.result
      c.from_residual-in_err-met.ensures.1 in
      rw (p.1, p.2)
      (running-stops legal files kept _
      (path_buf_text c.args.input.now) c.args.loader.now.meets c.files.stack.items c.files.top
      c.in-Import.import _ (chain_texts c.files.loader.chain.items) _ _ _ c.in_err-met.field-0.0 r
      c.files.invariant.chain at (λ x. c.in_err-met.ensures.leaves files r.now go x));
  count = λ files kept go good.
      let at : slice_get c.files.top.tree.statements.items c.files.top.next
      ≡ Some (file_statement.Import c.in-Import.import) =
      at_get c.files.top.tree.statements.items c.files.top.next c.in-Some.statement.now
      (rw c.deref.ensures.value at c.in-Some.ensures.lookup.3.0)
      (rw c.deref.ensures.value at c.in-Some.ensures.lookup.1) ∙ ap Some c.in-Import.is in
      let legal = legal_by g.R.ProtoPathResolver.may_answer g.I.InputReader.may_read
      c.args.sources.now in
      let back = goes-back files _ _ _ c.meet-in-files.ensures.grows go in
      let r = c.files.invariant.inside files kept back good in
      let p = err_from_is_err_and c.from_residual-in_err-met.result
      c.from_residual-in_err-met.ensures.1 in
      rw p.1 (counted-next legal files kept _
      (path_buf_text c.args.input.now) c.args.loader.now.meets c.files.stack.items c.files.top
      c.in-Import.import _ _ _ _ r at c.meet-in-files.ensures.meets);
  decided = λ d. c.meet-in-files.ensures.decided (c.files.invariant.decided d);
  known = search rules;
}

pub files-smaller-in-Continue-branch-5 : goal.files-smaller-in-Continue-branch-5
files-smaller-in-Continue-branch-5 g c =
    let at : slice_get c.files.top.tree.statements.items c.files.top.next
    ≡ Some (file_statement.Import c.in-Import.import) =
    at_get c.files.top.tree.statements.items c.files.top.next c.in-Some.statement.now
    (rw c.deref.ensures.value at c.in-Some.ensures.lookup.3.0)
    (rw c.deref.ensures.value at c.in-Some.ensures.lookup.1) ∙ ap Some c.in-Import.is in
    let j : Joined c.files.top c.in-Loaded-met.placed c.join-in-Loaded-met.new.frame =
    c.in_ok-join-in-Loaded-met.ensures in
    let lt = slice_get_within c.files.top.tree.statements.items c.files.top.next
    (file_statement.Import c.in-Import.import) at in
    less-next c.files.stack.items c.files.top c.join-in-Loaded-met.new.frame j.tree_is j.next lt

pub files-preserved-in-Continue-branch-5 : goal.files-preserved-in-Continue-branch-5
files-preserved-in-Continue-branch-5 g c =
    let at : slice_get c.files.top.tree.statements.items c.files.top.next
    ≡ Some (file_statement.Import c.in-Import.import) =
    at_get c.files.top.tree.statements.items c.files.top.next c.in-Some.statement.now
    (rw c.deref.ensures.value at c.in-Some.ensures.lookup.3.0)
    (rw c.deref.ensures.value at c.in-Some.ensures.lookup.1) ∙ ap Some c.in-Import.is in
    let j : Joined c.files.top c.in-Loaded-met.placed c.join-in-Loaded-met.new.frame =
    c.in_ok-join-in-Loaded-met.ensures in
    let s : IsAgain (chain_texts c.files.loader.chain.items)
    (path_buf_text c.in-Import.import.path) c.files.loader.loaded.entries
    c.files.loader.reads.items (chain_texts c.meet-in-files.new.loader.chain.items)
    c.meet-in-files.new.loader.reads.items c.in-Loaded-met.placed =
    (rw c.in-Loaded-met.is at c.in_ok-met.ensures.stands) in
    let same = ap (λ m. m.entries) c.meet-in-files.ensures.loaded in
    let e = ap length c.files.invariant.chain in
    let f = length_push (chain_of [] c.files.stack.items) (frame_path c.files.top) in
    let h = length-chain_of [] c.files.stack.items in
    let n = texts-length c.files.loader.chain.items in
    let more : MoreLoaded c.files.loader.loaded.entries c.meet-in-files.new.loader.loaded.entries =
    ([], same ∙ sym (append-nil _)) in
    let k = ap length
    (left-import c.files.top.tree.statements.items c.files.top.next c.in-Import.import at) in
    let l = ap length
    (left-joined c.files.top c.join-in-Loaded-met.new.frame c.in-Loaded-met.placed j) in
    let m = ap length s.reads in
    record {
      chain = rw j.path_is (s.chain_is ∙ c.files.invariant.chain);
      grows = Grows-trans _ _ _ c.files.invariant.grows c.meet-in-files.ensures.grows;
      decided = λ d. c.meet-in-files.ensures.decided (c.files.invariant.decided d);
      known = known-grows _ _ c.files.loader.reads.items _ c.meet-in-files.ensures.grows
          (rw (same, c.meet-in-files.ensures.tables) c.files.invariant.known);
      unloaded = rw (j.path_is, same) c.files.invariant.unloaded;
      off = rw j.path_is c.files.invariant.off;
      low = omega (arith, e, f, h, n, j.height, s.low, c.files.invariant.low);
      taken = taken-joined _ _ c.files.top c.join-in-Loaded-met.new.frame c.in-Loaded-met.placed
          c.in-Import.import (path_buf_text c.in-Import.import.path)
          (taken-more _ _ _ _ c.files.top more c.meet-in-files.ensures.grows
          c.files.invariant.taken) at refl (rw same s.number) j;
      below = all_taken-more _ _ _ _ c.files.stack.items more c.meet-in-files.ensures.grows
          c.files.invariant.below;
      waiting = rw j.path_is c.files.invariant.waiting;
      lowest = rw j.path_is c.files.invariant.lowest;
      bound = omega (arith, k, l, m, c.meet-in-files.ensures.meets, c.files.invariant.bound);
      inside = λ files kept go good.
          let legal = legal_by g.R.ProtoPathResolver.may_answer g.I.InputReader.may_read
          c.args.sources.now in
          let back = goes-back files _ _ _ c.meet-in-files.ensures.grows go in
          let r = c.files.invariant.inside files kept back good in
          rw same (running-known legal files kept _
          (path_buf_text c.args.input.now) c.args.loader.now.meets c.files.stack.items
          c.files.top c.join-in-Loaded-met.new.frame c.in-Loaded-met.placed c.in-Import.import _
          _ (chain_texts c.files.loader.chain.items) _ _ _ r c.files.invariant.chain at
          c.meet-in-files.ensures.meets c.meet-in-files.ensures.grows
          (λ x. rw c.in-Loaded-met.is at (c.in_ok-met.ensures.leaves files r.now go x)) j);
    }

pub returns-in_err-join-in-Loaded-met : goal.returns-in_err-join-in-Loaded-met
returns-in_err-join-in-Loaded-met g c = record {
  grows = Grows-trans _ _ _ c.files.invariant.grows c.meet-in-files.ensures.grows;
  chain = search rules;
  bound = search rules;
  goes = λ files kept go good.
      let legal = legal_by g.R.ProtoPathResolver.may_answer g.I.InputReader.may_read
      c.args.sources.now in
      let back = goes-back files _ _ _ c.meet-in-files.ensures.grows go in
      let r = c.files.invariant.inside files kept back good in
      let p = err_from_is_err_and c.from_residual-in_err-join-in-Loaded-met.result
      c.from_residual-in_err-join-in-Loaded-met.ensures.1 in
      rw p.1 (known-breaks legal files kept _
      (path_buf_text c.args.input.now) c.args.loader.now.meets c.files.stack.items c.files.top
      c.in-Loaded-met.placed (path_buf_text c.in-Import.import.path) _
      (chain_texts c.files.loader.chain.items) _ _ _ p.0 r c.files.invariant.chain
      (λ x. rw c.in-Loaded-met.is at (c.in_ok-met.ensures.leaves files r.now go x)) p.2);
  count = λ files kept go good.
      let at : slice_get c.files.top.tree.statements.items c.files.top.next
      ≡ Some (file_statement.Import c.in-Import.import) =
      at_get c.files.top.tree.statements.items c.files.top.next c.in-Some.statement.now
      (rw c.deref.ensures.value at c.in-Some.ensures.lookup.3.0)
      (rw c.deref.ensures.value at c.in-Some.ensures.lookup.1) ∙ ap Some c.in-Import.is in
      let legal = legal_by g.R.ProtoPathResolver.may_answer g.I.InputReader.may_read
      c.args.sources.now in
      let back = goes-back files _ _ _ c.meet-in-files.ensures.grows go in
      let r = c.files.invariant.inside files kept back good in
      let p = err_from_is_err_and c.from_residual-in_err-join-in-Loaded-met.result
      c.from_residual-in_err-join-in-Loaded-met.ensures.1 in
      rw p.1 (counted-next legal files kept _
      (path_buf_text c.args.input.now) c.args.loader.now.meets c.files.stack.items c.files.top
      c.in-Import.import _ _ _ _ r at c.meet-in-files.ensures.meets);
  decided = λ d. c.meet-in-files.ensures.decided (c.files.invariant.decided d);
  known = search rules;
}

pub returns-in_err-push-in-Opened-met : goal.returns-in_err-push-in-Opened-met
returns-in_err-push-in-Opened-met g c = record {
  grows = Grows-trans _ _ _ c.files.invariant.grows c.meet-in-files.ensures.grows;
  chain = search rules;
  bound = search rules;
  goes = λ files kept go good.
      let at : slice_get c.files.top.tree.statements.items c.files.top.next
      ≡ Some (file_statement.Import c.in-Import.import) =
      at_get c.files.top.tree.statements.items c.files.top.next c.in-Some.statement.now
      (rw c.deref.ensures.value at c.in-Some.ensures.lookup.3.0)
      (rw c.deref.ensures.value at c.in-Some.ensures.lookup.1) ∙ ap Some c.in-Import.is in
      let legal = legal_by g.R.ProtoPathResolver.may_answer g.I.InputReader.may_read
      c.args.sources.now in
      let o : IsOpened (chain_texts c.files.loader.chain.items)
      (path_buf_text c.in-Import.import.path) c.files.loader.loaded.entries
      c.files.loader.reads.items (chain_texts c.meet-in-files.new.loader.chain.items)
      c.meet-in-files.new.loader.reads.items c.in-Opened-met.frame =
      (rw c.in-Opened-met.is at c.in_ok-met.ensures.stands) in
      let back = goes-back files _ _ _ c.meet-in-files.ensures.grows go in
      let r = c.files.invariant.inside files kept back good in
      let p = err_from_is_err_and c.from_residual-in_err-push-in-Opened-met.result
      c.from_residual-in_err-push-in-Opened-met.ensures.1 in
      rw p.1 (running-breaks legal files kept _
      (path_buf_text c.args.input.now) c.args.loader.now.meets
      (c.files.stack.items ++ c.files.top ∷ []) c.in-Opened-met.frame _ _ _ p.0
      (running-new legal files kept _
      (path_buf_text c.args.input.now) c.args.loader.now.meets c.files.stack.items c.files.top
      c.in-Opened-met.frame c.in-Import.import _ _
      (chain_texts c.files.loader.chain.items) _ _ _ _ r c.files.invariant.chain at
      c.meet-in-files.ensures.meets c.meet-in-files.ensures.grows
      (λ x. rw c.in-Opened-met.is at (c.in_ok-met.ensures.leaves files r.now go x)) o) p.2);
  count = λ files kept go good.
      let at : slice_get c.files.top.tree.statements.items c.files.top.next
      ≡ Some (file_statement.Import c.in-Import.import) =
      at_get c.files.top.tree.statements.items c.files.top.next c.in-Some.statement.now
      (rw c.deref.ensures.value at c.in-Some.ensures.lookup.3.0)
      (rw c.deref.ensures.value at c.in-Some.ensures.lookup.1) ∙ ap Some c.in-Import.is in
      let legal = legal_by g.R.ProtoPathResolver.may_answer g.I.InputReader.may_read
      c.args.sources.now in
      let back = goes-back files _ _ _ c.meet-in-files.ensures.grows go in
      let r = c.files.invariant.inside files kept back good in
      let p = err_from_is_err_and c.from_residual-in_err-push-in-Opened-met.result
      c.from_residual-in_err-push-in-Opened-met.ensures.1 in
      rw p.1 (counted-next legal files kept _
      (path_buf_text c.args.input.now) c.args.loader.now.meets c.files.stack.items c.files.top
      c.in-Import.import _ _ _ _ r at c.meet-in-files.ensures.meets);
  decided = λ d. c.meet-in-files.ensures.decided (c.files.invariant.decided d);
  known = search rules;
}

pub files-smaller : goal.files-smaller
files-smaller g c =
    let o : IsOpened (chain_texts c.files.loader.chain.items)
    (path_buf_text c.in-Import.import.path) c.files.loader.loaded.entries
    c.files.loader.reads.items (chain_texts c.meet-in-files.new.loader.chain.items)
    c.meet-in-files.new.loader.reads.items c.in-Opened-met.frame =
    (rw c.in-Opened-met.is at c.in_ok-met.ensures.stands) in
    let e = ap length c.files.invariant.chain in
    let f = length_push (chain_of [] c.files.stack.items) (frame_path c.files.top) in
    let h = length-chain_of [] c.files.stack.items in
    let n = texts-length c.files.loader.chain.items in
    let pushed : c.push.new.self.items ≡ c.files.stack.items ++ c.files.top
    ∷ [] = c.in_ok-push-in-Opened-met.ensures.items
    ∙ ap (λ z. c.files.stack.items ++ z ∷ []) c.replace-parent.ensures.value in
    let after : c.replace-parent.new.dest
    ≡ c.in-Opened-met.frame = c.replace-parent.ensures.after in
    let v = c.in-Opened-met.frame.tree.statements in
    let small : length v.items < 2 ^ 64 = omega (arith, v.ok.0, v.ok.1, v.small) in
    let room : length c.files.stack.items + 1 < 100 = omega (arith, e, f, h, n, o.room) in
    rw (pushed, after)
    (less-new c.files.stack.items c.files.top c.in-Opened-met.frame small o.next room)

pub files-preserved : goal.files-preserved
files-preserved g c =
    let at : slice_get c.files.top.tree.statements.items c.files.top.next
    ≡ Some (file_statement.Import c.in-Import.import) =
    at_get c.files.top.tree.statements.items c.files.top.next c.in-Some.statement.now
    (rw c.deref.ensures.value at c.in-Some.ensures.lookup.3.0)
    (rw c.deref.ensures.value at c.in-Some.ensures.lookup.1) ∙ ap Some c.in-Import.is in
    let o : IsOpened (chain_texts c.files.loader.chain.items)
    (path_buf_text c.in-Import.import.path) c.files.loader.loaded.entries
    c.files.loader.reads.items (chain_texts c.meet-in-files.new.loader.chain.items)
    c.meet-in-files.new.loader.reads.items c.in-Opened-met.frame =
    (rw c.in-Opened-met.is at c.in_ok-met.ensures.stands) in
    let same = ap (λ m. m.entries) c.meet-in-files.ensures.loaded in
    let e = ap length c.files.invariant.chain in
    let f = length_push (chain_of [] c.files.stack.items) (frame_path c.files.top) in
    let h = length-chain_of [] c.files.stack.items in
    let n = texts-length c.files.loader.chain.items in
    let pushed : c.push.new.self.items ≡ c.files.stack.items ++ c.files.top
    ∷ [] = c.in_ok-push-in-Opened-met.ensures.items
    ∙ ap (λ z. c.files.stack.items ++ z ∷ []) c.replace-parent.ensures.value in
    let after : c.replace-parent.new.dest
    ≡ c.in-Opened-met.frame = c.replace-parent.ensures.after in
    let more : MoreLoaded c.files.loader.loaded.entries c.meet-in-files.new.loader.loaded.entries =
    ([], same ∙ sym (append-nil _)) in
    let k = length_push c.files.stack.items c.files.top in
    let m = ap length
    (left-import c.files.top.tree.statements.items c.files.top.next c.in-Import.import at) in
    let v = c.in-Opened-met.frame.tree.statements in
    let left : left_in c.in-Opened-met.frame ≡ imports_in v.items = rw o.next refl in
    let b = ap length left in
    let l = ap length o.reads ∙ length_push c.files.loader.reads.items o.entry in
    let t = to_meet-push c.files.stack.items c.files.top in
    let outer : chain_of [] (c.files.stack.items ++ c.files.top ∷ [])
    ≡ chain_of [] c.files.stack.items ++ frame_path c.files.top ∷ [] =
    chain_of-push [] c.files.stack.items c.files.top in
    record {
      chain = rw (pushed, after, outer, o.path_is)
          (o.chain_is
          ∙ ap (λ z. z ++ (path_buf_text c.in-Import.import.path) ∷ []) c.files.invariant.chain);
      grows = Grows-trans _ _ _ c.files.invariant.grows c.meet-in-files.ensures.grows;
      decided = λ d. c.meet-in-files.ensures.decided (c.files.invariant.decided d);
      known = known-grows _ _ c.files.loader.reads.items _ c.meet-in-files.ensures.grows
          (rw (same, c.meet-in-files.ensures.tables) c.files.invariant.known);
      unloaded = rw (pushed, after, outer, o.path_is, same)
          (unloaded-enter _ _ _ c.files.invariant.unloaded o.missing);
      off = rw (pushed, after, outer, o.path_is) (rw c.files.invariant.chain at o.off);
      low = rw (pushed, after) (omega (arith, e, f, h, k, n, o.height, o.room));
      taken = rw (after, same) (taken-new _ _ _ _ _ _ _ o);
      below = rw pushed
          (frames-push _ c.files.stack.items c.files.top
          (all_taken-more _ _ _ _ c.files.stack.items more c.meet-in-files.ensures.grows
          c.files.invariant.below) (taken-more _ _ _ _ c.files.top more
          c.meet-in-files.ensures.grows c.files.invariant.taken));
      waiting =
          rw (pushed, after)
          (waiting-push [] c.files.stack.items c.files.top
          (frame_path c.in-Opened-met.frame) c.files.invariant.waiting
          (record {
            low = omega (arith, h, c.files.invariant.low);
            off = c.files.invariant.off;
            import = c.in-Import.import;
            at = at;
            named = sym o.path_is;
          }));
      lowest =
          rw (pushed, after)
          (first_path-push c.files.stack.items c.files.top (frame_path c.in-Opened-met.frame)
          ∙ c.files.invariant.lowest);
      bound = rw (pushed, after)
          (omega (
            arith,
            b,
            l,
            m,
            t,
            imports_in-shorter v.items,
            v.ok.0,
            v.ok.1,
            v.small,
            c.meet-in-files.ensures.meets,
            c.files.invariant.bound,
          ));
      inside = λ files kept go good.
          let legal = legal_by g.R.ProtoPathResolver.may_answer g.I.InputReader.may_read
          c.args.sources.now in
          let back = goes-back files _ _ _ c.meet-in-files.ensures.grows go in
          let r = c.files.invariant.inside files kept back good in
          rw (pushed, after, same)
          (running-new legal files kept _
          (path_buf_text c.args.input.now) c.args.loader.now.meets c.files.stack.items
          c.files.top c.in-Opened-met.frame c.in-Import.import _ _
          (chain_texts c.files.loader.chain.items) _ _ _ _ r c.files.invariant.chain at
          c.meet-in-files.ensures.meets c.meet-in-files.ensures.grows
          (λ x. rw c.in-Opened-met.is at (c.in_ok-met.ensures.leaves files r.now go x)) o);
    }

pub files-smaller-in_default-statement : goal.files-smaller-in_default-statement
files-smaller-in_default-statement g c =
    let at : slice_get c.files.top.tree.statements.items c.files.top.next
    ≡ Some c.in-Some.statement.now =
    at_get c.files.top.tree.statements.items c.files.top.next c.in-Some.statement.now
    (rw c.deref.ensures.value at c.in-Some.ensures.lookup.3.0)
    (rw c.deref.ensures.value at c.in-Some.ensures.lookup.1) in
    let other : (i : Import) → c.in-Some.statement.now ≡ file_statement.Import i
    → ⊥ = c.in_default-statement.not-Import in
    let next : LoadFrame = record c.files.top { next = c.files.top.next + 1 } in
    less-next c.files.stack.items c.files.top next refl (add-one c.files.top.next)
    (slice_get_within c.files.top.tree.statements.items c.files.top.next c.in-Some.statement.now
    at)

pub files-preserved-in_default-statement : goal.files-preserved-in_default-statement
files-preserved-in_default-statement g c =
    let at : slice_get c.files.top.tree.statements.items c.files.top.next
    ≡ Some c.in-Some.statement.now =
    at_get c.files.top.tree.statements.items c.files.top.next c.in-Some.statement.now
    (rw c.deref.ensures.value at c.in-Some.ensures.lookup.3.0)
    (rw c.deref.ensures.value at c.in-Some.ensures.lookup.1) in
    let other : (i : Import) → c.in-Some.statement.now ≡ file_statement.Import i
    → ⊥ = c.in_default-statement.not-Import in
    let next : LoadFrame = record c.files.top { next = c.files.top.next + 1 } in
    let is : next ≡ record c.files.top { next = suc c.files.top.next } =
    ap (λ n. record c.files.top { next = n }) (add-one c.files.top.next) in
    let k = ap length
    (left-other c.files.top.tree.statements.items c.files.top.next c.in-Some.statement.now at
    other) in
    let l : length (left_in next) ≡ length (later_in c.files.top) =
    ap (λ n. length (imports_in (drop n c.files.top.tree.statements.items)))
    (add-one c.files.top.next) in
    record {
      chain = c.files.invariant.chain;
      grows = c.files.invariant.grows;
      decided = c.files.invariant.decided;
      known = c.files.invariant.known;
      unloaded = c.files.invariant.unloaded;
      off = c.files.invariant.off;
      low = c.files.invariant.low;
      taken = taken-other _ _ c.files.top next c.in-Some.statement.now c.files.invariant.taken at
          other is;
      below = c.files.invariant.below;
      waiting = c.files.invariant.waiting;
      lowest = c.files.invariant.lowest;
      bound = omega (arith, k, l, c.files.invariant.bound);
      inside = λ files kept go good.
          let legal = legal_by g.R.ProtoPathResolver.may_answer g.I.InputReader.may_read
          c.args.sources.now in
          running-other legal files kept _
          (path_buf_text c.args.input.now) c.args.loader.now.meets c.files.stack.items
          c.files.top next c.in-Some.statement.now _ _ _
          (c.files.invariant.inside files kept go good) at other is;
    }

pub returns-in_err-placed : goal.returns-in_err-placed
returns-in_err-placed g c = record {
  grows = search rules;
  chain = search rules;
  bound = search rules;
  goes = λ files kept go good.
      let le : length c.files.top.tree.statements.items
      ≤ c.files.top.next = (rw c.deref.ensures.value at c.in_default.ensures.lookup.3) in
      let reads = ap (λ (w : Vec ReadEntry). w.items) c.elaborate_last.ensures.reads in
      let legal = legal_by g.R.ProtoPathResolver.may_answer g.I.InputReader.may_read
      c.args.sources.now in
      let none = c.files.invariant.unloaded (frame_path c.files.top)
      (among-last (frame_path c.files.top) (chain_of [] c.files.stack.items)) in
      let back = goes-same files _ _ _ reads go in
      let r = c.files.invariant.inside files kept back good in
      let k = running-closes legal files kept _
      (path_buf_text c.args.input.now) c.args.loader.now.meets c.files.stack.items c.files.top _ _
      c.elaborate_last.new.loader.loaded.entries _ c.elaborate_last.new.loader.tables _
      (Err c.in_err-placed.field-0.0) r _ _ go c.files.invariant.known c.files.invariant.taken
      none c.files.invariant.off le (omega (arith, c.files.invariant.low))
      (c.in_err-placed.ensures.elaborates c.files.invariant.known.tells) in
      let p = err_from_is_err_and c.from_residual-in_err-placed.result
      c.from_residual-in_err-placed.ensures.1 in
      rw (p.1, p.2, reads)
      (running-refused legal files kept _
      (path_buf_text c.args.input.now) c.args.loader.now.meets c.files.stack.items c.files.top _ _
      _ c.in_err-placed.field-0.0 r le k);
  count = λ files kept go good.
      let reads = ap (λ (w : Vec ReadEntry). w.items) c.elaborate_last.ensures.reads in
      let legal = legal_by g.R.ProtoPathResolver.may_answer g.I.InputReader.may_read
      c.args.sources.now in
      let back = goes-same files _ _ _ reads go in
      let r = c.files.invariant.inside files kept back good in
      let p = err_from_is_err_and c.from_residual-in_err-placed.result
      c.from_residual-in_err-placed.ensures.1 in
      rw (p.1, c.elaborate_last.ensures.meets)
      (counted-now legal files kept _
      (path_buf_text c.args.input.now) c.args.loader.now.meets c.files.stack.items c.files.top _ _
      _ r);
  decided = λ d.
      let reads = ap (λ (w : Vec ReadEntry). w.items) c.elaborate_last.ensures.reads in
      decided-same (rows c.args.sources.now.bundled.now) _ _ reads (c.files.invariant.decided d);
  known = search rules;
}

pub returns-in_default-pop : goal.returns-in_default-pop
returns-in_default-pop g c = record {
  grows = search rules;
  chain =
      let zero_left : length c.files.stack.items
      ≡ 0 = omega (arith, c.in_default-pop.ensures.cases.0, c.files.stack.ok.0) in
      let empty : c.files.stack.items ≡ [] = none_of c.files.stack.items zero_left in
      none-texts _
      (c.elaborate_last.ensures.chain [] (c.files.invariant.chain
      ∙ ap (λ z. chain_of [] z ++ frame_path c.files.top ∷ []) empty));
  bound = search rules;
  goes = λ files kept go good.
      let le : length c.files.top.tree.statements.items
      ≤ c.files.top.next = (rw c.deref.ensures.value at c.in_default.ensures.lookup.3) in
      let reads = ap (λ (w : Vec ReadEntry). w.items) c.elaborate_last.ensures.reads in
      let zero_left : length c.files.stack.items
      ≡ 0 = omega (arith, c.in_default-pop.ensures.cases.0, c.files.stack.ok.0) in
      let empty : c.files.stack.items ≡ [] = none_of c.files.stack.items zero_left in
      let legal = legal_by g.R.ProtoPathResolver.may_answer g.I.InputReader.may_read
      c.args.sources.now in
      let none = c.files.invariant.unloaded (frame_path c.files.top)
      (among-last (frame_path c.files.top) (chain_of [] c.files.stack.items)) in
      let back = goes-same files _ _ _ reads go in
      let r = c.files.invariant.inside files kept back good in
      let k = running-closes legal files kept _
      (path_buf_text c.args.input.now) c.args.loader.now.meets c.files.stack.items c.files.top _ _
      c.elaborate_last.new.loader.loaded.entries _ c.elaborate_last.new.loader.tables _
      (Ok c.in_ok-placed.placed) r _ _ go c.files.invariant.known c.files.invariant.taken none
      c.files.invariant.off le (omega (arith, c.files.invariant.low))
      (c.in_ok-placed.ensures.elaborates c.files.invariant.known.tells) in
      rw reads
      (running-end legal files kept _
      (path_buf_text c.args.input.now) c.args.loader.now.meets c.files.stack.items c.files.top
      c.in_ok-placed.placed _ _ _ _ r empty le k);
  count = λ files kept go good.
      let le : length c.files.top.tree.statements.items
      ≤ c.files.top.next = (rw c.deref.ensures.value at c.in_default.ensures.lookup.3) in
      let reads = ap (λ (w : Vec ReadEntry). w.items) c.elaborate_last.ensures.reads in
      let zero_left : length c.files.stack.items
      ≡ 0 = omega (arith, c.in_default-pop.ensures.cases.0, c.files.stack.ok.0) in
      let empty : c.files.stack.items ≡ [] = none_of c.files.stack.items zero_left in
      let legal = legal_by g.R.ProtoPathResolver.may_answer g.I.InputReader.may_read
      c.args.sources.now in
      let back = goes-same files _ _ _ reads go in
      let r = (rw empty at (c.files.invariant.inside files kept back good)) in
      rw c.elaborate_last.ensures.meets
      (counted-end legal files kept _
      (path_buf_text c.args.input.now) c.args.loader.now.meets c.files.top _ _ _ r le);
  decided = λ d.
      let reads = ap (λ (w : Vec ReadEntry). w.items) c.elaborate_last.ensures.reads in
      decided-same (rows c.args.sources.now.bundled.now) _ _ reads (c.files.invariant.decided d);
  known =
      let le : length c.files.top.tree.statements.items
      ≤ c.files.top.next = (rw c.deref.ensures.value at c.in_default.ensures.lookup.3) in
      let reads = ap (λ (w : Vec ReadEntry). w.items) c.elaborate_last.ensures.reads in
      let cl = closed-is c.files.top _ _ _ _ _
      (chain_of [] c.files.stack.items) c.in_ok-placed.placed c.files.invariant.known
      c.files.invariant.taken c.files.invariant.unloaded c.files.invariant.off le
      (c.in_ok-placed.ensures.elaborates c.files.invariant.known.tells) in
      rw reads cl.known;
}

pub join-requires : goal.join-requires
join-requires g c =
    let s : c.files.stack.items ≡ c.pop.new.self.items ++ c.in-Some-pop.parent
    ∷ [] = c.in-Some-pop.ensures.items in
    let w = waiting-pop [] c.pop.new.self.items c.in-Some-pop.parent (frame_path c.files.top)
    (rw s at c.files.invariant.waiting) in
    slice_get_within c.in-Some-pop.parent.tree.statements.items c.in-Some-pop.parent.next
    (file_statement.Import w.1.import) w.1.at

pub files-smaller-in_default : goal.files-smaller-in_default
files-smaller-in_default g c =
    let s : c.files.stack.items ≡ c.pop.new.self.items ++ c.in-Some-pop.parent
    ∷ [] = c.in-Some-pop.ensures.items in
    let w = waiting-pop [] c.pop.new.self.items c.in-Some-pop.parent (frame_path c.files.top)
    (rw s at c.files.invariant.waiting) in
    let j : Joined c.in-Some-pop.parent c.in_ok-placed.placed c.join.new.frame =
    c.in_ok-join.ensures in
    let lt = slice_get_within c.in-Some-pop.parent.tree.statements.items c.in-Some-pop.parent.next
    (file_statement.Import w.1.import) w.1.at in
    rw s (less-close c.pop.new.self.items c.files.top c.in-Some-pop.parent c.join.new.frame
    c.in_ok-placed.placed j lt)

pub files-preserved-in_default : goal.files-preserved-in_default
files-preserved-in_default g c =
    let le : length c.files.top.tree.statements.items
    ≤ c.files.top.next = (rw c.deref.ensures.value at c.in_default.ensures.lookup.3) in
    let reads = ap (λ (w : Vec ReadEntry). w.items) c.elaborate_last.ensures.reads in
    let cl = closed-is c.files.top _ _ _ _ _
    (chain_of [] c.files.stack.items) c.in_ok-placed.placed c.files.invariant.known
    c.files.invariant.taken c.files.invariant.unloaded c.files.invariant.off le
    (c.in_ok-placed.ensures.elaborates c.files.invariant.known.tells) in
    let s : c.files.stack.items ≡ c.pop.new.self.items ++ c.in-Some-pop.parent
    ∷ [] = c.in-Some-pop.ensures.items in
    let w = waiting-pop [] c.pop.new.self.items c.in-Some-pop.parent (frame_path c.files.top)
    (rw s at c.files.invariant.waiting) in
    let j : Joined c.in-Some-pop.parent c.in_ok-placed.placed c.join.new.frame =
    c.in_ok-join.ensures in
    let still : Grows c.files.loader.reads.items c.files.loader.reads.items =
    ([], sym (append-nil _)) in
    let b = frames-pop _ c.pop.new.self.items c.in-Some-pop.parent
    (rw s at (all_taken-more _ _ _ _ c.files.stack.items cl.more still c.files.invariant.below))
    in
    let e = ap length s in
    let k = length_push c.pop.new.self.items c.in-Some-pop.parent in
    let h = length-chain_of [] c.pop.new.self.items in
    let x = ap length (none-left c.files.top le) in
    let y = ap length (left-joined c.in-Some-pop.parent c.join.new.frame c.in_ok-placed.placed j) in
    let z = ap to_meet s ∙ to_meet-push c.pop.new.self.items c.in-Some-pop.parent in
    let q = ap (λ (w : Vec ReadEntry). length w.items) c.elaborate_last.ensures.reads in
    record {
      chain = rw j.path_is
          (c.elaborate_last.ensures.chain (chain_of [] c.files.stack.items) c.files.invariant.chain
          ∙ (ap (chain_of []) s ∙ chain_of-push [] c.pop.new.self.items c.in-Some-pop.parent));
      grows = rw reads c.files.invariant.grows;
      decided = λ d. decided-same (rows c.args.sources.now.bundled.now) _ _ reads
          (c.files.invariant.decided d);
      known = rw reads cl.known;
      unloaded =
          rw j.path_is
          (rw (chain_of-push [] c.pop.new.self.items c.in-Some-pop.parent) at
          (rw s at cl.unloaded));
      off = rw j.path_is w.1.off;
      low = omega (
        arith,
        e,
        k,
        h,
        j.height,
        w.1.low,
        c.in_ok-placed.ensures.height,
        c.files.invariant.low,
      );
      taken = rw reads
          (taken-joined _ _ c.in-Some-pop.parent c.join.new.frame c.in_ok-placed.placed w.1.import
          (frame_path c.files.top) b.1 w.1.at w.1.named cl.number j);
      below = rw reads b.0;
      waiting = rw j.path_is w.0;
      lowest =
          rw j.path_is
          (sym (first_path-push c.pop.new.self.items c.in-Some-pop.parent (frame_path c.files.top))
          ∙ (rw s at c.files.invariant.lowest));
      bound = omega (arith, x, y, z, q, c.elaborate_last.ensures.meets, c.files.invariant.bound);
      inside = λ files kept go good.
          let legal = legal_by g.R.ProtoPathResolver.may_answer g.I.InputReader.may_read
          c.args.sources.now in
          let none = c.files.invariant.unloaded (frame_path c.files.top)
          (among-last (frame_path c.files.top) (chain_of [] c.files.stack.items)) in
          let back = goes-same files _ _ _ reads go in
          let r = c.files.invariant.inside files kept back good in
          let k = running-closes legal files kept _
          (path_buf_text c.args.input.now) c.args.loader.now.meets c.files.stack.items
          c.files.top _ _ c.elaborate_last.new.loader.loaded.entries _
          c.elaborate_last.new.loader.tables _
          (Ok c.in_ok-placed.placed) r _ _ go c.files.invariant.known c.files.invariant.taken
          none c.files.invariant.off le (omega (arith, c.files.invariant.low))
          (c.in_ok-placed.ensures.elaborates c.files.invariant.known.tells) in
          rw (reads, c.elaborate_last.ensures.meets)
          (running-close legal files kept _
          (path_buf_text c.args.input.now) c.args.loader.now.meets c.pop.new.self.items
          c.files.stack.items c.files.top c.in-Some-pop.parent c.join.new.frame
          c.in_ok-placed.placed w.1.import _ _ _ _ r s le k w.1.at w.1.named j);
    }

pub returns-in_err-join : goal.returns-in_err-join
returns-in_err-join g c = record {
  grows = search rules;
  chain = search rules;
  bound = search rules;
  goes = λ files kept go good.
      let le : length c.files.top.tree.statements.items
      ≤ c.files.top.next = (rw c.deref.ensures.value at c.in_default.ensures.lookup.3) in
      let reads = ap (λ (w : Vec ReadEntry). w.items) c.elaborate_last.ensures.reads in
      let legal = legal_by g.R.ProtoPathResolver.may_answer g.I.InputReader.may_read
      c.args.sources.now in
      let none = c.files.invariant.unloaded (frame_path c.files.top)
      (among-last (frame_path c.files.top) (chain_of [] c.files.stack.items)) in
      let back = goes-same files _ _ _ reads go in
      let r = c.files.invariant.inside files kept back good in
      let k = running-closes legal files kept _
      (path_buf_text c.args.input.now) c.args.loader.now.meets c.files.stack.items c.files.top _ _
      c.elaborate_last.new.loader.loaded.entries _ c.elaborate_last.new.loader.tables _
      (Ok c.in_ok-placed.placed) r _ _ go c.files.invariant.known c.files.invariant.taken none
      c.files.invariant.off le (omega (arith, c.files.invariant.low))
      (c.in_ok-placed.ensures.elaborates c.files.invariant.known.tells) in
      let p = err_from_is_err_and c.from_residual-in_err-join.result
      c.from_residual-in_err-join.ensures.1 in
      rw (p.1, reads)
      (closed-breaks legal files kept _
      (path_buf_text c.args.input.now) c.args.loader.now.meets c.files.stack.items c.files.top
      c.in_ok-placed.placed _ _ _ _ p.0 r le k p.2);
  count = λ files kept go good.
      let reads = ap (λ (w : Vec ReadEntry). w.items) c.elaborate_last.ensures.reads in
      let legal = legal_by g.R.ProtoPathResolver.may_answer g.I.InputReader.may_read
      c.args.sources.now in
      let back = goes-same files _ _ _ reads go in
      let r = c.files.invariant.inside files kept back good in
      let p = err_from_is_err_and c.from_residual-in_err-join.result
      c.from_residual-in_err-join.ensures.1 in
      rw (p.1, c.elaborate_last.ensures.meets)
      (counted-now legal files kept _
      (path_buf_text c.args.input.now) c.args.loader.now.meets c.files.stack.items c.files.top _ _
      _ r);
  decided = λ d.
      let reads = ap (λ (w : Vec ReadEntry). w.items) c.elaborate_last.ensures.reads in
      decided-same (rows c.args.sources.now.bundled.now) _ _ reads (c.files.invariant.decided d);
  known = search rules;
}
