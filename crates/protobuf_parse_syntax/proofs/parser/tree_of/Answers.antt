use Rattle.std.proofs.Common.{◌≡◌, ◌⊎◌, ℕ, arith, ap, sym, subst, ◌∙◌, inl, inr}
use Rattle.protobuf_parse_grammar.specs.Readers.{read}
use Rattle.protobuf_parse_lexer.specs.AheadViews.{lies_ahead}
use Rattle.protobuf_parse_lexer.specs.declared.error.ParserError.TheVariants.{IncorrectInput}
use Rattle.protobuf_parse_lexer.specs.declared.lexer.token.Place.{Place}
use Rattle.protobuf_parse_syntax.specs.Trees.{file_syntax}
use Rattle.protobuf_parse_syntax.specs.Nested as nest
use Rattle.protobuf_parse_syntax.specs.Code.{left, Fails, FileFails, RefusesFile}
use Rattle.protobuf_parse_syntax.specs.declared.parser.refusal.Refusal.TheVariants.{Fault}
use Rattle.protobuf_parse_syntax.proofs.File.{found, only, ends_there, leftover, refused, told_or}
use Rattle.protobuf_parse_syntax.proofs.Levels.{enough_levels}
use Rattle.protobuf_parse_syntax.proofs.parser.tree_of.Goals as goal
use Rattle.protobuf_parse_syntax.proofs.parser.tree_of.Goals.{else-is_empty-via-then-is_empty+else-end-gt0}
use Rattle.protobuf_parse_syntax.proofs.parser.tree_of.Goals.{else-is_empty-via-else-is_empty}

pub returns-then-end-gt0-clause-found : goal.returns-then-end-gt0-clause-found
returns-then-end-gt0-clause-found c =
    let s = lies_ahead c.args.tokens in
    let h = subst (λ v. (nest.file 101).low.run v
    ≡ read (file_syntax c.in-Ok.tree) (left c.file.new.tokens)) c.new-left.ensures c.in-Ok.ensures
    in
    found s.tokens s.end 101 (file_syntax c.in-Ok.tree) (left c.file.new.tokens) h
    (sym c.is_empty.ensures ∙ c.if-is_empty.true)

pub returns-then-end-gt0-clause-whole : goal.returns-then-end-gt0-clause-whole
returns-then-end-gt0-clause-whole c = λ none.
    let s = lies_ahead c.args.tokens in
    let h = subst (λ v. (nest.file 101).low.run v
    ≡ read (file_syntax c.in-Ok.tree) (left c.file.new.tokens)) c.new-left.ensures c.in-Ok.ensures
    in
    let there = c.place-end.ensures
    ∙ ends_there s.tokens s.end 101 (file_syntax c.in-Ok.tree) (left c.file.new.tokens) h
    (sym c.is_empty.ensures ∙ c.if-is_empty.true) in
    omega (arith, c.if-end-gt0.true, ap (λ (p : Place). p.line) there, none)

pub returns-then-end-gt0-clause-only : goal.returns-then-end-gt0-clause-only
returns-then-end-gt0-clause-only c = λ u w.
    let s = lies_ahead c.args.tokens in
    let h = subst (λ v. (nest.file 101).low.run v
    ≡ read (file_syntax c.in-Ok.tree) (left c.file.new.tokens)) c.new-left.ensures c.in-Ok.ensures
    in
    elim c.requires [
      | inl none ↦ absurd (returns-then-end-gt0-clause-whole c none)
      | inr shallow ↦
          only s.tokens s.end 101 (enough_levels 101 (omega arith) s.tokens s.end shallow)
          (file_syntax c.in-Ok.tree) u (left c.file.new.tokens) h
          (sym c.is_empty.ensures ∙ c.if-is_empty.true) w
    ]

pub returns-clause-refused : goal.returns-clause-refused
returns-clause-refused c =
    let s = lies_ahead c.args.tokens in
    let h = subst (λ v. (nest.file 101).low.run v
    ≡ read (file_syntax c.in-Ok.tree) (left c.file.new.tokens)) c.new-left.ensures c.in-Ok.ensures
    in
    elim c.else-is_empty.branch [
      | else-is_empty-via-then-is_empty+else-end-gt0 w ↦
          let there = c.place-end.ensures
          ∙ ends_there s.tokens s.end 101 (file_syntax c.in-Ok.tree)
          (left c.file.new.tokens) h (sym c.is_empty.ensures ∙ w.if-is_empty.true) in
          inr (inl (omega (arith, w.if-end-gt0.false, ap (λ (p : Place). p.line) there)))
      | else-is_empty-via-else-is_empty w ↦
          told_or s.tokens s.end (Fault IncorrectInput) c.place-end.result c.located-2.result
          (subst (λ v. RefusesFile s.tokens s.end (Fault IncorrectInput) v)
          (sym c.place-end.ensures)
          (leftover s.tokens s.end 101 (file_syntax c.in-Ok.tree)
          (left c.file.new.tokens) h (sym c.is_empty.ensures ∙ w.if-is_empty.false)))
          c.located-2.ensures
    ]

pub returns-in-Err-clause-refused : goal.returns-in-Err-clause-refused
returns-in-Err-clause-refused c =
    let s = lies_ahead c.args.tokens in
    let n : ℕ = 101 in
    let h = subst (λ v. Fails c.in-Err.refusal (left c.file.new.tokens) ((nest.file n).low.run v)
    ⊎ FileFails v c.in-Err.refusal (left c.file.new.tokens) ((nest.file n).low.run v))
    c.new-left.ensures c.in-Err.ensures in
    elim c.requires [
      | inl none ↦ inr (inl none)
      | inr shallow ↦
          told_or s.tokens s.end c.in-Err.refusal c.place.result c.located.result
          (subst (λ v. RefusesFile s.tokens s.end c.in-Err.refusal v) (sym c.place.ensures)
          (refused s.tokens s.end n (enough_levels n (omega arith) s.tokens s.end shallow)
          c.in-Err.refusal (left c.file.new.tokens) h))
          c.located.ensures
    ]
