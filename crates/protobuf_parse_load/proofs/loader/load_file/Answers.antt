use Rattle.std.proofs.Common.{◌≡◌, ◌≤◌, ◌<◌, ◌+◌, [], ◌∷◌, ◌++◌, Some, Ok, Err, List, refl, sym}
use Rattle.std.proofs.Common.{◌∙◌, ◌^◌, ap, subst, max, length, arith, slice_get}
use Rattle.std.specs.Prelude.{string_bytes}
use Rattle.std.proofs.lemmas.List.{length_push}
use Rattle.std.proofs.lemmas.Result.{err_from_is_err_and}
use Rattle.protobuf_parse_base.specs.PathViews.{path_buf_text}
use Rattle.protobuf_parse_syntax.specs.declared.tree.FileStatement.TheVariants as file_statement
use Rattle.protobuf_parse_run.specs.Loading.{chain_texts}
use Rattle.protobuf_parse_run.specs.Run.{input_view, rows}
use Rattle.protobuf_parse_run.specs.Walks.{Trees, asked_of, input_name, the_resolver}
use Rattle.protobuf_parse_load.specs.declared.loader.LoadFrame.{LoadFrame}
use Rattle.protobuf_parse_load.specs.declared.loader.Met.TheVariants as met
use Rattle.protobuf_parse_load.specs.declared.log.LoadedFile.{LoadedFile}
use Rattle.protobuf_parse_load.specs.Frames.{AreLow, chain_in, chain_of, frame_path, imports_left}
use Rattle.protobuf_parse_load.specs.Frames.{left_over}
use Rattle.protobuf_parse_load.specs.Requests.{legal_by}
use Rattle.protobuf_parse_load.specs.Steps.{At, by_import, by_input, walks_input}
use Rattle.protobuf_parse_load.proofs.Adding.{texts-length}
use Rattle.protobuf_parse_load.proofs.Looping.{close-remembers, goes-back, grows-trans}
use Rattle.protobuf_parse_load.proofs.Looping.{loads-broken}
use Rattle.protobuf_parse_load.proofs.Looping.{meets-first, meets-named, none-texts}
use Rattle.protobuf_parse_load.proofs.Stacks.{at_get, chain_of-push, length-chain_of, less-close}
use Rattle.protobuf_parse_load.proofs.Stacks.{less-new, less-next, low-pop, low-push, none-left}
use Rattle.protobuf_parse_load.proofs.Stacks.{none_of}
use Rattle.protobuf_parse_load.proofs.Turning.{closed-end, closed-pop, running-broken}
use Rattle.protobuf_parse_load.proofs.Turning.{running-close}
use Rattle.protobuf_parse_load.proofs.Turning.{running-cut, running-joined, running-opened}
use Rattle.protobuf_parse_load.proofs.Turning.{running-other, running-start}
use Rattle.protobuf_parse_load.proofs.loader.load_file.Goals as goal

pub returns-in_err-first : goal.returns-in_err-first
returns-in_err-first g c =
    let legal = legal_by g.R.ProtoPathResolver.may_answer g.I.InputReader.may_read
    c.args.sources.now in
    let input = input_view c.args.input.now in
    let p = err_from_is_err_and c.from_residual.result c.from_residual.ensures.1 in
    let m = c.in_err-first.ensures in
    loads-broken _ _ c.args.sources.now (λ trees. walks_input trees c.args.number input)
    c.args.loader.now c.meet.new.loader c.from_residual.result p.0 p.1 m.grows m.decided
    (λ files a go stands. meets-first legal files c.path_of-name.result.now (input_name input)
    (asked_of input) (chain_in c.args.loader.now) (by_input c.args.number) (input_name input) a
    c.meet.new.loader (Err c.in_err-first.field-0.0) c.path_of-name.ensures
    (ap chain_texts c.requires.chain) (m.goes files a go stands))

pub returns-in-Joined : goal.returns-in-Joined
returns-in-Joined g c =
    let legal = legal_by g.R.ProtoPathResolver.may_answer g.I.InputReader.may_read
    c.args.sources.now in
    let input = input_view c.args.input.now in
    let none = ap chain_texts c.requires.chain in
    let h = c.in-Joined.field-0 in
    let m = (rw c.in-Joined.is at c.in_ok-first.ensures) in
    record {
      grows = m.grows;
      decided = m.decided;
      chain = none-texts c.meet.new.loader.chain.items (m.chain.0 ∙ none);
      remembers = m.chain.2;
      goes = λ files a go stands.
          let k = meets-first legal files c.path_of-name.result.now (input_name input)
          (asked_of input) (chain_in c.args.loader.now) (by_input c.args.number) (input_name input)
          a
          c.meet.new.loader (Ok (met.Joined h)) c.path_of-name.ensures none
          (m.goes files a go stands) in
          (k.0, k.1, λ n. (max h n, k.2 n));
    }

pub files-init : goal.files-init
files-init g c =
    let legal = legal_by g.R.ProtoPathResolver.may_answer g.I.InputReader.may_read
    c.args.sources.now in
    let input = input_view c.args.input.now in
    let none = ap chain_texts c.requires.chain in
    let empty = c.new-stack.ensures.items in
    let top = c.opened-top.result in
    let m = (rw c.in-Opened.is at c.in_ok-first.ensures) in
    let named : frame_path top ≡ input_name input =
    ap (λ (z : LoadedFile). string_bytes z.path) c.opened-top.ensures.file ∙ m.chain.3 in
    record {
      chain = rw empty (m.chain.0 ∙ ap (λ z. z ++ input_name input ∷ []) none
          ∙ ap (λ z. z ∷ []) (sym named));
      low = rw empty tt;
      high = omega (arith, ap length empty, c.opened-top.ensures.height);
      grows = m.grows;
      decided = m.decided;
      remembers = m.chain.2;
      inside = λ files a go stands.
          let k = meets-first legal files c.path_of-name.result.now (input_name input)
          (asked_of input) (chain_in c.args.loader.now) (by_input c.args.number) (input_name input)
          a
          c.meet.new.loader (Ok (met.Opened c.in-Opened.file)) c.path_of-name.ensures none
          (m.goes files a go stands) in
          rw empty (running-start legal files (walks_input files.trees c.args.number input)
          (input_name input) a [] (asked_of input) (by_input c.args.number) (input_name input)
          c.meet.new.loader c.in-Opened.file top refl (λ b. refl) k c.opened-top.ensures.file
          c.opened-top.ensures.next c.opened-top.ensures.height);
    }

pub returns-in_err-height : goal.returns-in_err-height
returns-in_err-height g c =
    let legal = legal_by g.R.ProtoPathResolver.may_answer g.I.InputReader.may_read
    c.args.sources.now in
    let input = input_view c.args.input.now in
    let p = err_from_is_err_and c.from_residual-in_err-height.result
    c.from_residual-in_err-height.ensures.1 in
    let same = c.close.ensures.reads in
    loads-broken _ _ c.args.sources.now (λ trees. walks_input trees c.args.number input)
    c.args.loader.now c.close.new.loader c.from_residual-in_err-height.result p.0 p.1
    (rw same c.files.invariant.grows) (rw same c.files.invariant.decided)
    (λ files a go stands. running-cut legal files (walks_input files.trees c.args.number input)
    (input_name input) a c.files.stack.items c.files.top c.files.loader
    c.close.new.loader.reads.items (c.files.invariant.inside files a (rw same at go) stands)
    (ap (λ v. v.items) same))

pub returns-in_default-pop : goal.returns-in_default-pop
returns-in_default-pop g c =
    let legal = legal_by g.R.ProtoPathResolver.may_answer g.I.InputReader.may_read
    c.args.sources.now in
    let input = input_view c.args.input.now in
    let closing = c.in_ok-height.ensures in
    let same = closing.reads in
    let top = c.files.top in
    let le : length top.file.tree.statements.items ≤ top.next =
    (rw c.deref.ensures.value at c.in_default.ensures.lookup.3) in
    let none : imports_left top ≡ [] = none-left top le in
    let count : length c.files.stack.items ≡ 0 =
    omega (arith, c.in_default-pop.ensures.cases.0, c.files.stack.ok.0) in
    let empty : c.files.stack.items ≡ [] = none_of c.files.stack.items count in
    let chain : chain_in c.files.loader ≡ [] ++ frame_path top ∷ [] = c.files.invariant.chain
    ∙ ap (λ z. chain_of [] z ++ frame_path top ∷ []) empty in
    record {
      grows = rw same c.files.invariant.grows;
      decided = rw same c.files.invariant.decided;
      chain = none-texts c.close.new.loader.chain.items (closing.chain [] chain);
      remembers = close-remembers top c.files.loader c.close.new.loader c.in_ok-height.height []
          closing chain c.files.invariant.remembers;
      goes = λ files a go stands.
          closed-end legal files (walks_input files.trees c.args.number input) (input_name input) a
          c.files.stack.items top c.close.new.loader (Ok tt)
          (running-close legal files (walks_input files.trees c.args.number input)
          (input_name input) a c.files.stack.items top c.files.loader c.close.new.loader
          c.in_ok-height.height (c.files.invariant.inside files a (rw same at go) stands) none
          closing) empty refl;
    }

pub files-smaller-in_default : goal.files-smaller-in_default
files-smaller-in_default g c =
    let rest = c.pop.new.self.items in
    let parent = c.in-Some-pop.parent in
    let new : LoadFrame = record {
      file = parent.file;
      next = parent.next;
      height = c.larger.result;
    } in
    subst (λ (z : List LoadFrame). left_over rest new < left_over z c.files.top)
    (sym c.in-Some-pop.ensures.items) (less-close rest c.files.top parent new refl refl)

pub files-preserved-in_default : goal.files-preserved-in_default
files-preserved-in_default g c =
    let legal = legal_by g.R.ProtoPathResolver.may_answer g.I.InputReader.may_read
    c.args.sources.now in
    let input = input_view c.args.input.now in
    let closing = c.in_ok-height.ensures in
    let same = closing.reads in
    let top = c.files.top in
    let rest = c.pop.new.self.items in
    let parent = c.in-Some-pop.parent in
    let new : LoadFrame = record {
      file = parent.file;
      next = parent.next;
      height = c.larger.result;
    } in
    let s : c.files.stack.items ≡ rest ++ parent ∷ [] = c.in-Some-pop.ensures.items in
    let le : length top.file.tree.statements.items ≤ top.next =
    (rw c.deref.ensures.value at c.in_default.ensures.lookup.3) in
    let none : imports_left top ≡ [] = none-left top le in
    let chain : chain_in c.files.loader
    ≡ (chain_of [] rest ++ frame_path parent ∷ []) ++ frame_path top ∷ [] =
    c.files.invariant.chain ∙ ap (λ z. chain_of [] z ++ frame_path top ∷ []) s
    ∙ ap (λ z. z ++ frame_path top ∷ []) (chain_of-push [] rest parent) in
    let low = low-pop rest parent (subst (λ (z : List LoadFrame). AreLow 0 z) s
    c.files.invariant.low) in
    let n = ap length s in
    let l = length_push rest parent in
    record {
      chain = closing.chain (chain_of [] rest ++ frame_path parent ∷ []) chain;
      low = low.0;
      high = omega (arith, n, l, low.1, closing.height, c.larger.ensures, c.files.invariant.high);
      grows = rw same c.files.invariant.grows;
      decided = rw same c.files.invariant.decided;
      remembers = close-remembers top c.files.loader c.close.new.loader c.in_ok-height.height
          (chain_of [] rest ++ frame_path parent ∷ []) closing chain c.files.invariant.remembers;
      inside = λ files a go stands.
          closed-pop legal files (walks_input files.trees c.args.number input) (input_name input) a
          c.files.stack.items rest top parent new c.close.new.loader c.in_ok-height.height
          (running-close legal files (walks_input files.trees c.args.number input)
          (input_name input) a c.files.stack.items top c.files.loader c.close.new.loader
          c.in_ok-height.height (c.files.invariant.inside files a (rw same at go) stands) none
          closing) s refl refl closing.height c.larger.ensures;
    }

pub files-smaller-in_default-statement : goal.files-smaller-in_default-statement
files-smaller-in_default-statement g c =
    less-next c.files.stack.items c.files.top (record {
      file = c.files.top.file;
      next = c.files.top.next + 1;
      height = c.files.top.height;
    }) refl refl (rw c.deref.ensures.value at c.in-Some.ensures.lookup.3.0)

pub files-preserved-in_default-statement : goal.files-preserved-in_default-statement
files-preserved-in_default-statement g c =
    let legal = legal_by g.R.ProtoPathResolver.may_answer g.I.InputReader.may_read
    c.args.sources.now in
    let input = input_view c.args.input.now in
    let top = c.files.top in
    let at : slice_get top.file.tree.statements.items top.next ≡ Some c.in-Some.statement.now =
    at_get top.file.tree.statements.items top.next c.in-Some.statement.now
    (rw c.deref.ensures.value at c.in-Some.ensures.lookup.3.0)
    (rw c.deref.ensures.value at c.in-Some.ensures.lookup.1) in
    record {
      chain = c.files.invariant.chain;
      low = c.files.invariant.low;
      high = c.files.invariant.high;
      grows = c.files.invariant.grows;
      decided = c.files.invariant.decided;
      remembers = c.files.invariant.remembers;
      inside = λ files a go stands.
          running-other legal files (walks_input files.trees c.args.number input)
          (input_name input) a c.files.stack.items top _ c.in-Some.statement.now c.files.loader
          (c.files.invariant.inside files a go stands) refl refl refl at
          c.in_default-statement.not-Import;
    }

pub meet-requires-in-files-clause-chain : goal.meet-requires-in-files-clause-chain
meet-requires-in-files-clause-chain g c =
    let e = ap length c.files.invariant.chain in
    let f = length_push (chain_of [] c.files.stack.items) (frame_path c.files.top) in
    let h = length-chain_of [] c.files.stack.items in
    let n = texts-length c.files.loader.chain.items in
    omega (arith, e, f, h, n, c.files.invariant.high)

pub returns-in_err-met : goal.returns-in_err-met
returns-in_err-met g c =
    let legal = legal_by g.R.ProtoPathResolver.may_answer g.I.InputReader.may_read
    c.args.sources.now in
    let table = rows c.args.sources.now.bundled.now in
    let input = input_view c.args.input.now in
    let top = c.files.top in
    let import = c.in-Import.import in
    let at : slice_get top.file.tree.statements.items top.next
    ≡ Some (file_statement.Import import) =
    at_get top.file.tree.statements.items top.next c.in-Some.statement.now
    (rw c.deref.ensures.value at c.in-Some.ensures.lookup.3.0)
    (rw c.deref.ensures.value at c.in-Some.ensures.lookup.1) ∙ ap Some c.in-Import.is in
    let by = by_import c.as_str.result.now import.place in
    let p = err_from_is_err_and c.from_residual-in_err-met.result
    c.from_residual-in_err-met.ensures.1 in
    let m = c.in_err-met.ensures in
    let chain = chain_in c.files.loader in
    let walk : Trees → At → At = λ trees. walks_input trees c.args.number input in
    loads-broken _ _ c.args.sources.now walk c.args.loader.now c.meet-in-files.new.loader
    c.from_residual-in_err-met.result p.0 p.1
    (grows-trans _ _ _ c.files.invariant.grows m.grows) m.decided
    (λ files a go stands.
    let r = c.files.invariant.inside files a
    (goes-back files table c.files.loader.reads.items c.meet-in-files.new.loader.reads.items m.grows
    go) stands in
    running-broken legal files (walk files.trees) (input_name input) a c.files.stack.items top
    import
    c.files.loader c.meet-in-files.new.loader chain by c.in_err-met.field-0.0 r
    c.files.invariant.chain (ap (λ z. by_import z import.place) c.as_str.ensures.value) at
    (meets-named legal files c.path_of-name.result.now (input_name input) the_resolver chain by
    (path_buf_text import.path) r.now c.meet-in-files.new.loader (Err c.in_err-met.field-0.0)
    c.path_of-name.ensures (m.goes files r.now go r.stands)))

pub files-smaller-in-Joined-met : goal.files-smaller-in-Joined-met
files-smaller-in-Joined-met g c =
    less-next c.files.stack.items c.files.top (record {
      file = c.files.top.file;
      next = c.files.top.next + 1;
      height = c.larger-in-Joined-met.result;
    }) refl refl (rw c.deref.ensures.value at c.in-Some.ensures.lookup.3.0)

pub files-preserved-in-Joined-met : goal.files-preserved-in-Joined-met
files-preserved-in-Joined-met g c =
    let legal = legal_by g.R.ProtoPathResolver.may_answer g.I.InputReader.may_read
    c.args.sources.now in
    let table = rows c.args.sources.now.bundled.now in
    let input = input_view c.args.input.now in
    let top = c.files.top in
    let import = c.in-Import.import in
    let at : slice_get top.file.tree.statements.items top.next
    ≡ Some (file_statement.Import import) =
    at_get top.file.tree.statements.items top.next c.in-Some.statement.now
    (rw c.deref.ensures.value at c.in-Some.ensures.lookup.3.0)
    (rw c.deref.ensures.value at c.in-Some.ensures.lookup.1) ∙ ap Some c.in-Import.is in
    let by = by_import c.as_str.result.now import.place in
    let chain = chain_in c.files.loader in
    let new_loader = c.meet-in-files.new.loader in
    let m = (rw c.in-Joined-met.is at c.in_ok-met.ensures) in
    let e = ap length c.files.invariant.chain in
    let f = length_push (chain_of [] c.files.stack.items) (frame_path top) in
    let h = length-chain_of [] c.files.stack.items in
    record {
      chain = m.chain.0 ∙ c.files.invariant.chain;
      low = c.files.invariant.low;
      high = omega (
        arith,
        e,
        f,
        h,
        m.chain.1,
        c.larger-in-Joined-met.ensures,
        c.files.invariant.high,
      );
      grows = grows-trans _ _ _ c.files.invariant.grows m.grows;
      decided = m.decided;
      remembers = m.chain.2;
      inside = λ files a go stands.
          let r = c.files.invariant.inside files a (goes-back files table c.files.loader.reads.items
          new_loader.reads.items m.grows go) stands in
          running-joined legal files (walks_input files.trees c.args.number input)
          (input_name input) a c.files.stack.items top _ import c.files.loader new_loader chain by
          c.in-Joined-met.height r c.files.invariant.chain
          (ap (λ z. by_import z import.place) c.as_str.ensures.value) at
          (meets-named legal files c.path_of-name.result.now (input_name input) the_resolver chain
          by
          (path_buf_text import.path) r.now new_loader (Ok (met.Joined c.in-Joined-met.height))
          c.path_of-name.ensures (m.goes files r.now go r.stands)) refl refl
          c.larger-in-Joined-met.ensures;
    }

pub files-smaller : goal.files-smaller
files-smaller g c =
    let top = c.files.top in
    let m = (rw c.in-Opened-met.is at c.in_ok-met.ensures) in
    let e = ap length c.files.invariant.chain in
    let f = length_push (chain_of [] c.files.stack.items) (frame_path top) in
    let h = length-chain_of [] c.files.stack.items in
    let parent : LoadFrame = record {
      file = top.file;
      next = top.next + 1;
      height = top.height;
    } in
    let frame = c.opened.result in
    let stack = c.files.stack.items in
    let pushed : c.push.new.self.items ≡ stack ++ parent ∷ [] =
    c.in_ok-push-in-Opened-met.ensures.items
    ∙ ap (λ z. stack ++ z ∷ []) c.replace-parent.ensures.value in
    let after : c.replace-parent.new.dest ≡ frame = c.replace-parent.ensures.after in
    let v = frame.file.tree.statements in
    let small : length v.items < 2 ^ 64 = omega (arith, v.ok.0, v.ok.1, v.small) in
    let room : length stack + 1 < 100 = omega (arith, e, f, h, m.chain.1) in
    rw (pushed, after)
    (less-new stack top parent frame refl refl
    (rw c.deref.ensures.value at c.in-Some.ensures.lookup.3.0) small c.opened.ensures.next room)

pub files-preserved : goal.files-preserved
files-preserved g c =
    let legal = legal_by g.R.ProtoPathResolver.may_answer g.I.InputReader.may_read
    c.args.sources.now in
    let table = rows c.args.sources.now.bundled.now in
    let input = input_view c.args.input.now in
    let top = c.files.top in
    let import = c.in-Import.import in
    let at : slice_get top.file.tree.statements.items top.next
    ≡ Some (file_statement.Import import) =
    at_get top.file.tree.statements.items top.next c.in-Some.statement.now
    (rw c.deref.ensures.value at c.in-Some.ensures.lookup.3.0)
    (rw c.deref.ensures.value at c.in-Some.ensures.lookup.1) ∙ ap Some c.in-Import.is in
    let by = by_import c.as_str.result.now import.place in
    let chain = chain_in c.files.loader in
    let new_loader = c.meet-in-files.new.loader in
    let m = (rw c.in-Opened-met.is at c.in_ok-met.ensures) in
    let e = ap length c.files.invariant.chain in
    let f = length_push (chain_of [] c.files.stack.items) (frame_path top) in
    let h = length-chain_of [] c.files.stack.items in
    let parent : LoadFrame = record {
      file = top.file;
      next = top.next + 1;
      height = top.height;
    } in
    let frame = c.opened.result in
    let stack = c.files.stack.items in
    let pushed : c.push.new.self.items ≡ stack ++ parent ∷ [] =
    c.in_ok-push-in-Opened-met.ensures.items
    ∙ ap (λ z. stack ++ z ∷ []) c.replace-parent.ensures.value in
    let after : c.replace-parent.new.dest ≡ frame = c.replace-parent.ensures.after in
    let p = path_buf_text import.path in
    let called : frame_path frame ≡ p =
    ap (λ (z : LoadedFile). string_bytes z.path) c.opened.ensures.file ∙ m.chain.3 in
    let longer = length_push stack parent in
    record {
      chain = rw (pushed, after)
          (m.chain.0
          ∙ ap (λ z. z ++ p ∷ []) (c.files.invariant.chain ∙ sym (chain_of-push [] stack parent))
          ∙ ap (λ z. chain_of [] (stack ++ parent ∷ []) ++ z ∷ []) (sym called));
      low = rw pushed (low-push stack parent c.files.invariant.low c.files.invariant.high);
      high = rw (pushed, after)
          (omega (arith, e, f, h, longer, m.chain.1, c.opened.ensures.height));
      grows = grows-trans _ _ _ c.files.invariant.grows m.grows;
      decided = m.decided;
      remembers = m.chain.2;
      inside = λ files a go stands.
          let r = c.files.invariant.inside files a (goes-back files table c.files.loader.reads.items
          new_loader.reads.items m.grows go) stands in
          rw (pushed, after) (running-opened legal files (walks_input files.trees c.args.number
          input)
          (input_name input) a stack top parent frame import c.files.loader new_loader chain by
          c.in-Opened-met.file r c.files.invariant.chain
          (ap (λ z. by_import z import.place) c.as_str.ensures.value) at
          (meets-named legal files c.path_of-name.result.now (input_name input) the_resolver chain
          by
          (path_buf_text import.path) r.now new_loader (Ok (met.Opened c.in-Opened-met.file))
          c.path_of-name.ensures (m.goes files r.now go r.stands)) refl refl refl
          c.opened.ensures.file c.opened.ensures.next c.opened.ensures.height);
    }

pub returns-in_err-push-in-Opened-met : goal.returns-in_err-push-in-Opened-met
returns-in_err-push-in-Opened-met g c =
    let legal = legal_by g.R.ProtoPathResolver.may_answer g.I.InputReader.may_read
    c.args.sources.now in
    let table = rows c.args.sources.now.bundled.now in
    let input = input_view c.args.input.now in
    let top = c.files.top in
    let import = c.in-Import.import in
    let at : slice_get top.file.tree.statements.items top.next
    ≡ Some (file_statement.Import import) =
    at_get top.file.tree.statements.items top.next c.in-Some.statement.now
    (rw c.deref.ensures.value at c.in-Some.ensures.lookup.3.0)
    (rw c.deref.ensures.value at c.in-Some.ensures.lookup.1) ∙ ap Some c.in-Import.is in
    let by = by_import c.as_str.result.now import.place in
    let chain = chain_in c.files.loader in
    let new_loader = c.meet-in-files.new.loader in
    let m = (rw c.in-Opened-met.is at c.in_ok-met.ensures) in
    let parent : LoadFrame = record {
      file = top.file;
      next = top.next + 1;
      height = top.height;
    } in
    let frame = c.opened.result in
    let stack = c.files.stack.items in
    let p = err_from_is_err_and c.from_residual-in_err-push-in-Opened-met.result
    c.from_residual-in_err-push-in-Opened-met.ensures.1 in
    let walk : Trees → At → At = λ trees. walks_input trees c.args.number input in
    loads-broken _ _ c.args.sources.now walk c.args.loader.now new_loader
    c.from_residual-in_err-push-in-Opened-met.result p.0 p.1
    (grows-trans _ _ _ c.files.invariant.grows m.grows) m.decided
    (λ files a go stands.
    let r = c.files.invariant.inside files a
    (goes-back files table c.files.loader.reads.items new_loader.reads.items m.grows go) stands in
    running-cut legal files (walk files.trees) (input_name input) a (stack ++ parent ∷ []) frame
    new_loader new_loader.reads.items (running-opened legal files (walks_input files.trees
    c.args.number input)
    (input_name input) a stack top parent frame import c.files.loader new_loader chain by
    c.in-Opened-met.file r c.files.invariant.chain
    (ap (λ z. by_import z import.place) c.as_str.ensures.value) at
    (meets-named legal files c.path_of-name.result.now (input_name input) the_resolver chain by
    (path_buf_text import.path) r.now new_loader (Ok (met.Opened c.in-Opened-met.file))
    c.path_of-name.ensures (m.goes files r.now go r.stands)) refl refl refl
    c.opened.ensures.file c.opened.ensures.next c.opened.ensures.height) refl)
