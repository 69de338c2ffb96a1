use Rattle.std.proofs.Common.{inr}
use Rattle.std.proofs.lemmas.Result.{err_from_is_err_and}
use Rattle.protobuf_parse_lexer.specs.Cut.{stream}
use Rattle.protobuf_parse_lexer.specs.AheadViews.{lies_ahead}
use Rattle.protobuf_parse_lexer.proofs.Refusals.{read_not_refused, one_error}
use Rattle.protobuf_parse_syntax.specs.Trees.{file_syntax}
use Rattle.protobuf_parse_syntax.proofs.Texts.{its_tokens, shallow_or, read_ahead, reads_ahead}
use Rattle.protobuf_parse_syntax.proofs.Texts.{refused_none, refused_none_or, only_of}
use Rattle.protobuf_parse_syntax.proofs.Texts.{none_of, fault_of}
use Rattle.protobuf_parse_syntax.proofs.Nesting.{tree_shallow}
use Rattle.protobuf_parse_syntax.proofs.Sizes.{tree_size}
use Rattle.protobuf_parse_syntax.proofs.parser.parse_file.Goals as goal

-- ---- a text that is too long

pub returns-in_err-tokens-clause-none : goal.returns-in_err-tokens-clause-none
returns-in_err-tokens-clause-none c =
    let p = err_from_is_err_and c.from_residual.result c.from_residual.ensures.1 in
    let e = c.in_err-tokens.field-0.0 in
    rw (p.1, p.2) (inr (refused_none c.args.text.now e c.in_err-tokens.ensures.refused))

pub returns-in_err-tokens-clause-tells : goal.returns-in_err-tokens-clause-tells
returns-in_err-tokens-clause-tells c = λ x at is.
    let p = err_from_is_err_and c.from_residual.result c.from_residual.ensures.1 in
    let e = c.in_err-tokens.field-0.0 in
    rw (p.1, p.2) (inr (one_error c.args.text.now e x at c.in_err-tokens.ensures.refused is))

-- ---- the tokens

pub tree_of-requires : goal.tree_of-requires
tree_of-requires c = shallow_or c.args.text.now (lies_ahead c.in_ok-tokens.tokens)
    (read_ahead c.args.text.now c.in_ok-tokens.tokens c.in_ok-tokens.ensures.read)

-- ---- a tree

pub returns-in-Ok-clause-found : goal.returns-in-Ok-clause-found
returns-in-Ok-clause-found c =
    let s = lies_ahead c.in_ok-tokens.tokens in
    record {
      stream = s;
      tokens = its_tokens c.args.text.now s
          (read_ahead c.args.text.now c.in_ok-tokens.tokens c.in_ok-tokens.ensures.read)
          c.in-Ok.ensures.whole;
      file = c.in-Ok.ensures.found;
    }

pub returns-in-Ok-clause-only : goal.returns-in-Ok-clause-only
returns-in-Ok-clause-only c =
    only_of c.args.text.now (lies_ahead c.in_ok-tokens.tokens)
    (reads_ahead c.args.text.now c.in_ok-tokens.tokens c.in_ok-tokens.ensures.reads)
    (file_syntax c.in-Ok.tree) c.in-Ok.ensures.only

pub returns-in-Ok-clause-few : goal.returns-in-Ok-clause-few
returns-in-Ok-clause-few c =
    let s = lies_ahead c.in_ok-tokens.tokens in
    tree_size c.args.text.now (file_syntax c.in-Ok.tree)
    (record {
      stream = s;
      tokens = its_tokens c.args.text.now s
          (read_ahead c.args.text.now c.in_ok-tokens.tokens c.in_ok-tokens.ensures.read)
          c.in-Ok.ensures.whole;
      file = c.in-Ok.ensures.found;
    })

pub returns-in-Ok-clause-shallow : goal.returns-in-Ok-clause-shallow
returns-in-Ok-clause-shallow c =
    let s = lies_ahead c.in_ok-tokens.tokens in
    tree_shallow c.args.text.now (file_syntax c.in-Ok.tree)
    (record {
      stream = s;
      tokens = its_tokens c.args.text.now s
          (read_ahead c.args.text.now c.in_ok-tokens.tokens c.in_ok-tokens.ensures.read)
          c.in-Ok.ensures.whole;
      file = c.in-Ok.ensures.found;
    })

pub returns-in-Ok-clause-tells : goal.returns-in-Ok-clause-tells
returns-in-Ok-clause-tells c = λ e at is.
    let s = lies_ahead c.in_ok-tokens.tokens in
    read_not_refused c.args.text.now s e at
    (its_tokens c.args.text.now s
    (read_ahead c.args.text.now c.in_ok-tokens.tokens c.in_ok-tokens.ensures.read)
    c.in-Ok.ensures.whole) is

-- ---- a fault of the tokens

pub returns-in_err-tokenize-in-Err-clause-none : goal.returns-in_err-tokenize-in-Err-clause-none
returns-in_err-tokenize-in-Err-clause-none c =
    let r = c.from_residual-in_err-tokenize-in-Err in
    let p = err_from_is_err_and r.result r.ensures.1 in
    rw (p.1, p.2)
    (refused_none_or c.args.text.now c.in_err-tokenize-in-Err.field-0.0
    c.in_err-tokenize-in-Err.ensures.refused)

-- ---- a fault of the grammar

pub returns-in_ok-tokenize-in-Err-clause-none : goal.returns-in_ok-tokenize-in-Err-clause-none
returns-in_ok-tokenize-in-Err-clause-none c =
    none_of c.args.text.now (lies_ahead c.in_ok-tokens.tokens)
    (reads_ahead c.args.text.now c.in_ok-tokens.tokens c.in_ok-tokens.ensures.reads)
    (stream c.in_ok-tokenize-in-Err.field-0) c.in_ok-tokenize-in-Err.ensures.read c.in-Err.error
    c.in-Err.ensures.refused

pub returns-in_ok-tokenize-in-Err-clause-refused : goal.returns-in_ok-tokenize-in-Err-clause-refused
returns-in_ok-tokenize-in-Err-clause-refused c =
    fault_of c.args.text.now (lies_ahead c.in_ok-tokens.tokens)
    (reads_ahead c.args.text.now c.in_ok-tokens.tokens c.in_ok-tokens.ensures.reads)
    (stream c.in_ok-tokenize-in-Err.field-0) c.in_ok-tokenize-in-Err.ensures.read c.in-Err.error
    c.in-Err.ensures.refused
