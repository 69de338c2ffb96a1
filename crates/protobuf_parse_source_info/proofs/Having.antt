-- A text with tokens has one list of them with their points.
use Rattle.std.proofs.Common.{◌≡◌, ◌≤◌, ℕ, List, [], ◌∷◌, length, drop, Some, refl, sym, ap, ap₂}
use Rattle.std.proofs.Common.{◌∙◌, arith, inl}
use Rattle.protobuf_parse_source_info.proofs.Cutting.{drop_short}
use Rattle.protobuf_parse_lexer.specs.Behind.{BehindIn}
use Rattle.protobuf_parse_lexer.specs.Cut.{mark_len}
use Rattle.protobuf_parse_lexer.specs.Text.{Bytes}
use Rattle.protobuf_parse_lexer.specs.Tokens.{Lexeme}
use Rattle.protobuf_parse_lexer.specs.declared.lexer.token.TokenKind.TheVariants as kind
use Rattle.protobuf_parse_lexer.specs.declared.lexer.tokenizer.Tokenizer.{Tokenizer}
use Rattle.protobuf_parse_lexer.proofs.BehindRelations.{one_lies_behind}
use Rattle.protobuf_parse_lexer.proofs.Unique.{one_cut}
use Rattle.protobuf_parse_source_info.specs.Spots.{spots_in, HasOneListOfSpots}

-- a tokenizer behind whose token this text stands
behind_of : (z : Bytes) → length z ≤ 2147483647 → Tokenizer
behind_of z h = record {
  next = Some (record {
    kind = kind.Ident;
    text = record { ref_ptr = (0, 0); now = z };
    place = record { line = 1; col = 1 };
  });
  after = record { line = 1; col = 1 };
  rest = record { ref_ptr = (0, 0); now = z };
  brackets = record { opened = 0; closed = 0 };
  lines = omega (arith, h);
  cols = omega (arith, h);
  opens = omega (arith, h);
  closes = omega (arith, h);
}

behind_in : (z : Bytes) → length z ≤ 2147483647 → (ns : List ℕ) × BehindIn 0 0 z ns
unfolding behind_of
behind_in z h = let l = (one_lies_behind (behind_of z h)).1 in (l.0, l.1)

behind_only : (z : Bytes) → length z ≤ 2147483647 → (ns ms : List ℕ) → BehindIn 0 0 z ns
    → BehindIn 0 0 z ms → ms ≡ ns
unfolding behind_of
behind_only z h ns ms b c =
    let only = (one_lies_behind (behind_of z h)).2 in
    ap (λ (x : List ℕ). drop 1 x)
    (only (length z ∷ ms) (ms, c, refl) ∙ sym (only (length z ∷ ns) (ns, b, refl)))

pub one_list_of_spots : HasOneListOfSpots
one_list_of_spots text s has =
    let z : Bytes = drop (mark_len text) text in
    let h : length z ≤ 2147483647 = omega (arith, drop_short (mark_len text) text, has.short) in
    let b = behind_in z h in (
      spots_in text s.tokens b.0,
      (s, b.0, has, b.1, refl),
      λ others o.
          o.4
          ∙ ap₂ (λ (ts : List Lexeme) (ns : List ℕ). spots_in text ts ns)
          (one_cut text o.0.tokens s.tokens o.0.end s.end [] [] o.2.cut (inl refl) has.cut
          (inl refl)).0
          (behind_only z h b.0 o.1 b.1 o.3),
    )
