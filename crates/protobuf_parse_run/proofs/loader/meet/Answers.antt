use Rattle.std.proofs.Common.{◌≡◌, ◌++◌, ◌∷◌, [], Ok, Err, None, true, false, refl, sym, ap, ◌∙◌}
use Rattle.std.proofs.Common.{arith, rules, subst, append-nil, inl, inr}
use Rattle.std.specs.Prelude.{String}
use Rattle.std.specs.Global.{Global, Vec}
use Rattle.std.proofs.lemmas.Result.{err_from_is_err_and}
use Rattle.protobuf_parse_base.specs.PathViews.{path_buf_text}
use Rattle.protobuf_parse_model.specs.Descriptors.{Text}
use Rattle.protobuf_parse_run.specs.Walks.{among}
use Rattle.protobuf_parse_run.specs.Run.{rows}
use Rattle.protobuf_parse_run.specs.Loading.{legal_by, IsNumbered, asked_by, file_at, named_trees}
use Rattle.protobuf_parse_run.specs.Loading.{chain_texts}
use Rattle.protobuf_parse_run.proofs.Deciding.{decided-file}
use Rattle.protobuf_parse_run.proofs.Leaving.{chain-told, texts-length, texts-push, leaves-cycle}
use Rattle.protobuf_parse_run.proofs.Leaving.{leaves-tall, leaves-full, leaves-read}
use Rattle.protobuf_parse_run.proofs.Meeting.{met-breaks, met-known, met-new}
use Rattle.protobuf_parse_run.proofs.Reading.{few_statements}
use Rattle.protobuf_parse_run.proofs.loader.meet.Goals as goal

pub returns-then-is_on_chain : goal.returns-then-is_on_chain
returns-then-is_on_chain g c = record {
  loaded = refl;
  tables = refl;
  meets = search rules;
  grows = ([], sym (append-nil _));
  decided = λ d. d;
  stands = tt;
  leaves = λ files kept go good.
      let text_is : c.to_str-text.result.now
      ≡ path_buf_text c.args.path.now = c.to_str-text.ensures.text ∙ c.as_path.ensures in
      let on : among c.to_str-text.result.now (chain_texts c.args.loader.now.chain.items)
      ≡ true =
      chain-told _ _ _ _ c.is_on_chain.result true refl c.deref.ensures.value
      c.is_on_chain.ensures c.if-is_on_chain.true in
      leaves-cycle _ files kept _ _ _ (path_buf_text c.args.input.now)
      (asked_by c.args.fs_path) _ _ _ _ text_is good on c.cycle.ensures;
}

pub returns-then-placed-len : goal.returns-then-placed-len
returns-then-placed-len g c = record {
  loaded = refl;
  tables = refl;
  meets = search rules;
  grows = ([], sym (append-nil _));
  decided = λ d. d;
  stands = tt;
  leaves = λ files kept go good.
      let text_is : c.to_str-text.result.now
      ≡ path_buf_text c.args.path.now = c.to_str-text.ensures.text ∙ c.as_path.ensures in
      let n = texts-length c.args.loader.now.chain.items in
      leaves-tall _ files kept _ _ _ (path_buf_text c.args.input.now)
      (asked_by c.args.fs_path) _ _ _ c.in-Some.placed _ text_is good c.in-Some.ensures
      (omega (arith, n, c.if-placed-len.true, c.len.ensures)) c.too_long.ensures;
}

pub returns-in-Some : goal.returns-in-Some
returns-in-Some g c = record {
  loaded = refl;
  tables = refl;
  meets = search rules;
  grows = ([], sym (append-nil _));
  decided = λ d. d;
  stands =
      let text_is : c.to_str-text.result.now
      ≡ path_buf_text c.args.path.now = c.to_str-text.ensures.text ∙ c.as_path.ensures in
      let n = texts-length c.args.loader.now.chain.items in
      record {
        chain_is = refl;
        reads = refl;
        low = omega (arith, n, c.if-placed-len.false, c.len.ensures, c.requires.chain);
        number =
            subst (λ (z : Text). IsNumbered
            (named_trees c.args.loader.now.loaded.entries) c.in-Some.placed.number z) text_is
            c.in-Some.ensures.3;
      };
  leaves = λ files kept go good.
      let text_is : c.to_str-text.result.now
      ≡ path_buf_text c.args.path.now = c.to_str-text.ensures.text ∙ c.as_path.ensures in
      let n = texts-length c.args.loader.now.chain.items in
      met-known _ files kept _ _ _ (path_buf_text c.args.input.now)
      (asked_by c.args.fs_path) _ _ c.in-Some.placed text_is good c.in-Some.ensures
      (omega (arith, n, c.if-placed-len.false, c.len.ensures));
}

pub returns-then-len-eq-MAX_CHAIN : goal.returns-then-len-eq-MAX_CHAIN
returns-then-len-eq-MAX_CHAIN g c = record {
  loaded = refl;
  tables = refl;
  meets = search rules;
  grows = ([], sym (append-nil _));
  decided = λ d. d;
  stands = tt;
  leaves = λ files kept go good.
      let text_is : c.to_str-text.result.now
      ≡ path_buf_text c.args.path.now = c.to_str-text.ensures.text ∙ c.as_path.ensures in
      let n = texts-length c.args.loader.now.chain.items in
      let off : among c.to_str-text.result.now (chain_texts c.args.loader.now.chain.items)
      ≡ false =
      chain-told _ _ _ _ c.is_on_chain.result false refl c.deref.ensures.value
      c.is_on_chain.ensures c.if-is_on_chain.false in
      leaves-full _ files kept _ _ _ (path_buf_text c.args.input.now)
      (asked_by c.args.fs_path) _ _ _ _ text_is
      (omega (arith, n, c.if-len-eq-MAX_CHAIN.true, c.len-2.ensures)) good off
      c.too_long-then-len-eq-MAX_CHAIN.ensures;
}

pub returns-in_err-tree : goal.returns-in_err-tree
returns-in_err-tree g c = record {
  loaded = search rules;
  tables = search rules;
  meets = search rules;
  grows =
      elim c.in_err-tree.ensures.read
      [ inl r ↦ (r.0 ∷ [], r.1) | inr r ↦ ([], r.1 ∙ sym (append-nil _)) ];
  decided = λ d.
      let legal = legal_by g.R.ProtoPathResolver.may_answer g.I.InputReader.may_read
      c.args.sources.now in
      decided-file legal (rows c.args.sources.now.bundled.now) (asked_by c.args.fs_path)
      (path_buf_text c.args.path.now) _ _
      (Err c.in_err-tree.field-0.0) c.in_err-tree.ensures.read d;
  stands =
      let p = err_from_is_err_and c.from_residual.result c.from_residual.ensures.1 in
      rw p.1 tt;
  leaves = λ files kept go good.
      let text_is : c.to_str-text.result.now
      ≡ path_buf_text c.args.path.now = c.to_str-text.ensures.text ∙ c.as_path.ensures in
      let n = texts-length c.args.loader.now.chain.items in
      let off : among (path_buf_text c.args.path.now) (chain_texts c.args.loader.now.chain.items)
      ≡ false =
      chain-told _ _ _ _ c.is_on_chain.result false text_is c.deref.ensures.value
      c.is_on_chain.ensures c.if-is_on_chain.false in
      let none : file_at (path_buf_text c.args.path.now) c.args.loader.now.loaded.entries
      ≡ None =
      subst (λ (z : Text). file_at z c.args.loader.now.loaded.entries ≡ None) text_is
      c.in_default.ensures in
      let p = err_from_is_err_and c.from_residual.result c.from_residual.ensures.1 in
      rw (p.1, p.2)
      (leaves-read _ files _ kept _ _ _ _ (path_buf_text c.args.input.now)
      (asked_by c.args.fs_path) _ c.in_err-tree.field-0.0 go good off none
      (omega (arith, n, c.if-len-eq-MAX_CHAIN.false, c.len-2.ensures, c.requires.chain))
      c.in_err-tree.ensures.read);
}

pub returns-in_err-enter : goal.returns-in_err-enter
returns-in_err-enter g c = record {
  loaded = search rules;
  tables = search rules;
  meets = search rules;
  grows = search rules;
  decided = λ d.
      let legal = legal_by g.R.ProtoPathResolver.may_answer g.I.InputReader.may_read
      c.args.sources.now in
      decided-file legal (rows c.args.sources.now.bundled.now) (asked_by c.args.fs_path)
      (path_buf_text c.args.path.now) _ _ (Ok c.in_ok-tree.tree) c.in_ok-tree.ensures.read d;
  stands =
      let p = err_from_is_err_and c.from_residual-in_err-enter.result
      c.from_residual-in_err-enter.ensures.1 in rw p.1 tt;
  leaves = λ files kept go good.
      let text_is : c.to_str-text.result.now
      ≡ path_buf_text c.args.path.now = c.to_str-text.ensures.text ∙ c.as_path.ensures in
      let n = texts-length c.args.loader.now.chain.items in
      let off : among (path_buf_text c.args.path.now) (chain_texts c.args.loader.now.chain.items)
      ≡ false =
      chain-told _ _ _ _ c.is_on_chain.result false text_is c.deref.ensures.value
      c.is_on_chain.ensures c.if-is_on_chain.false in
      let none : file_at (path_buf_text c.args.path.now) c.args.loader.now.loaded.entries
      ≡ None =
      subst (λ (z : Text). file_at z c.args.loader.now.loaded.entries ≡ None) text_is
      c.in_default.ensures in
      let p = err_from_is_err_and c.from_residual-in_err-enter.result
      c.from_residual-in_err-enter.ensures.1 in
      rw p.1 (met-breaks _ files _ kept _ _ _ _
      (asked_by c.args.fs_path) _ c.in_ok-tree.tree go good off none c.in_ok-tree.ensures.read
      (path_buf_text c.args.input.now) p.0
      (omega (arith, n, c.if-len-eq-MAX_CHAIN.false, c.len-2.ensures, c.requires.chain)) p.2);
}

pub returns-in_err-from_str : goal.returns-in_err-from_str
returns-in_err-from_str g c = record {
  loaded = search rules;
  tables = search rules;
  meets = search rules;
  grows = search rules;
  decided = λ d.
      let legal = legal_by g.R.ProtoPathResolver.may_answer g.I.InputReader.may_read
      c.args.sources.now in
      decided-file legal (rows c.args.sources.now.bundled.now) (asked_by c.args.fs_path)
      (path_buf_text c.args.path.now) _ _ (Ok c.in_ok-tree.tree) c.in_ok-tree.ensures.read d;
  stands =
      let p = err_from_is_err_and c.from_residual-in_err-from_str.result
      c.from_residual-in_err-from_str.ensures.1 in rw p.1 tt;
  leaves = λ files kept go good.
      let text_is : c.to_str-text.result.now
      ≡ path_buf_text c.args.path.now = c.to_str-text.ensures.text ∙ c.as_path.ensures in
      let n = texts-length c.args.loader.now.chain.items in
      let off : among (path_buf_text c.args.path.now) (chain_texts c.args.loader.now.chain.items)
      ≡ false =
      chain-told _ _ _ _ c.is_on_chain.result false text_is c.deref.ensures.value
      c.is_on_chain.ensures c.if-is_on_chain.false in
      let none : file_at (path_buf_text c.args.path.now) c.args.loader.now.loaded.entries
      ≡ None =
      subst (λ (z : Text). file_at z c.args.loader.now.loaded.entries ≡ None) text_is
      c.in_default.ensures in
      let p = err_from_is_err_and c.from_residual-in_err-from_str.result
      c.from_residual-in_err-from_str.ensures.1 in
      rw p.1 (met-breaks _ files _ kept _ _ _ _
      (asked_by c.args.fs_path) _ c.in_ok-tree.tree go good off none c.in_ok-tree.ensures.read
      (path_buf_text c.args.input.now) p.0
      (omega (arith, n, c.if-len-eq-MAX_CHAIN.false, c.len-2.ensures, c.requires.chain)) p.2);
}

pub returns : goal.returns
returns g c = record {
  loaded = search rules;
  tables = search rules;
  meets = search rules;
  grows = search rules;
  decided = λ d.
      let legal = legal_by g.R.ProtoPathResolver.may_answer g.I.InputReader.may_read
      c.args.sources.now in
      decided-file legal (rows c.args.sources.now.bundled.now) (asked_by c.args.fs_path)
      (path_buf_text c.args.path.now) _ _ (Ok c.in_ok-tree.tree) c.in_ok-tree.ensures.read d;
  stands =
      let text_is : c.to_str-text.result.now
      ≡ path_buf_text c.args.path.now = c.to_str-text.ensures.text ∙ c.as_path.ensures in
      let n = texts-length c.args.loader.now.chain.items in
      let off : among (path_buf_text c.args.path.now) (chain_texts c.args.loader.now.chain.items)
      ≡ false =
      chain-told _ _ _ _ c.is_on_chain.result false text_is c.deref.ensures.value
      c.is_on_chain.ensures c.if-is_on_chain.false in
      let none : file_at (path_buf_text c.args.path.now) c.args.loader.now.loaded.entries
      ≡ None =
      subst (λ (z : Text). file_at z c.args.loader.now.loaded.entries ≡ None) text_is
      c.in_default.ensures in
      let s = c.in_ok-enter.ensures in
      let r = c.in_ok-tree.ensures.read in
      record {
        chain_is =
            ap chain_texts
            (s.1 ∙ ap (λ (v : Vec (String Global)). v.items ++ s.0 ∷ []) c.read_tree.ensures.chain)
            ∙ texts-push c.args.loader.now.chain.items s.0 _ (s.2 ∙ text_is);
        room = omega (arith, n, c.if-len-eq-MAX_CHAIN.false, c.len-2.ensures, c.requires.chain);
        off = off;
        missing = none;
        path_is = c.in_ok-from_str.ensures.ok ∙ text_is;
        next = refl;
        height = refl;
        below = c.new.ensures.items;
        public = c.new-2.ensures.items;
        entry = r.0;
        reads = r.1;
        named = r.2;
        few = few_statements _ _ r.4;
      };
  leaves = λ files kept go good.
      let text_is : c.to_str-text.result.now
      ≡ path_buf_text c.args.path.now = c.to_str-text.ensures.text ∙ c.as_path.ensures in
      let off : among (path_buf_text c.args.path.now) (chain_texts c.args.loader.now.chain.items)
      ≡ false =
      chain-told _ _ _ _ c.is_on_chain.result false text_is c.deref.ensures.value
      c.is_on_chain.ensures c.if-is_on_chain.false in
      let none : file_at (path_buf_text c.args.path.now) c.args.loader.now.loaded.entries
      ≡ None =
      subst (λ (z : Text). file_at z c.args.loader.now.loaded.entries ≡ None) text_is
      c.in_default.ensures in
      met-new _ files _ kept _ _ _ _
      (asked_by c.args.fs_path) _ c.in_ok-tree.tree go good off none
      c.in_ok-tree.ensures.read _ (c.in_ok-from_str.ensures.ok ∙ text_is) refl
      (omega (arith, c.len-read.ensures, c.args.loader.now.reads.ok.0)) refl refl;
}
