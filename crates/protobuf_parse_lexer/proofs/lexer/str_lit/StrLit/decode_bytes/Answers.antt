use Rattle.std.proofs.Common.{[], map, sym, subst, inl, inr, arith, string_bytes}
use Rattle.std.proofs.lemmas.Result.{err_from_is_err_and}
use Rattle.protobuf_parse_lexer.specs.Tokens.{DecodesAll, none}
use Rattle.protobuf_parse_lexer.proofs.Escapes.{next_piece, wrong_piece}
use Rattle.protobuf_parse_lexer.proofs.lexer.str_lit.StrLit.decode_bytes.Goals as goal

pub loop-piece-init : goal.loop-piece-init
loop-piece-init c = subst (DecodesAll []) (sym c.in_ok-bytes.ensures.items) none

pub loop-piece-preserved : goal.loop-piece-preserved
loop-piece-preserved c =
    let made = c.in_ok-push_piece.ensures in
    next_piece string_bytes c.deref-piece-items.result.now c.loop-piece.piece-index
    c.piece-item.result c.as_bytes.result.now c.loop-piece.bytes.items
    c.push_piece.new.bytes.items made.0
    (omega arith) c.piece-item.is c.as_bytes.ensures.value c.loop-piece.invariant made.1 made.2

pub returns-in_err-push_piece-clause-refused : goal.returns-in_err-push_piece-clause-refused
returns-in_err-push_piece-clause-refused c =
    let p = err_from_is_err_and c.from_residual-in_err-push_piece.result
    c.from_residual-in_err-push_piece.ensures.1 in
    let h = c.in_err-push_piece.ensures in
    let items = c.deref-piece-items.result.now in
    rw (p.1, p.2)
    (elim h [
      | inl e ↦ inl e
      | inr b ↦ inr (
        b.0,
        λ v d.
            wrong_piece string_bytes items c.loop-piece.piece-index c.piece-item.result
            c.as_bytes.result.now (omega arith) c.piece-item.is c.as_bytes.ensures.value b.1 v
            (subst (λ xs. DecodesAll (map string_bytes xs) v)
            (sym c.deref-piece-items.ensures.value) d),
      )
    ])
