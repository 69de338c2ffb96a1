-- How many bytes stand behind each token: the function gives what the relation says, and nothing
-- else does.
use Rattle.std.proofs.Common.{◌≡◌, ◌↔◌, ℕ, zero, suc, ◌<◌, true, false, List, [], ◌∷◌, length, drop}
use Rattle.std.specs.Option.{IfSome}
use Rattle.std.proofs.Common.{Option, Some, None, refl, sym, ap, ◌∙◌, subst, arith, inl, inr}
use Rattle.protobuf_parse_lexer.specs.Ahead.{deepens, counted}
use Rattle.protobuf_parse_lexer.specs.Behind.{BehindIn, at_end, past_blank, past_token, at_bracket}
use Rattle.protobuf_parse_lexer.specs.Behind.{at_fault, first, EachIsFound, EachStands}
use Rattle.protobuf_parse_lexer.specs.BehindOf.{behind_piece, behind_within, behinds}
use Rattle.protobuf_parse_lexer.specs.BehindTokenizers.{behinds_ahead, next_behind}
use Rattle.protobuf_parse_lexer.specs.BehindViews.{LiesBehind, OneLiesBehind, StandBehind}
use Rattle.protobuf_parse_lexer.specs.Cut.{mark_len}
use Rattle.protobuf_parse_lexer.specs.Scan.{Stands}
use Rattle.protobuf_parse_lexer.specs.Text.{Bytes}
use Rattle.protobuf_parse_lexer.specs.Tokens.{is_opening, is_closing}
use Rattle.protobuf_parse_lexer.specs.Total.{total, true_or_false}
use Rattle.protobuf_parse_lexer.specs.declared.lexer.front.Piece.{Piece}
use Rattle.protobuf_parse_lexer.specs.declared.lexer.front.Piece.TheVariants as piece
use Rattle.protobuf_parse_lexer.specs.declared.lexer.tokenizer.Brackets.{Brackets}
use Rattle.protobuf_parse_lexer.specs.declared.lexer.tokenizer.NextToken.{NextToken}
use Rattle.protobuf_parse_lexer.specs.declared.lexer.tokenizer.Tokenizer.{Tokenizer}
use Rattle.protobuf_parse_lexer.proofs.Ahead.{blank_some, less}
use Rattle.protobuf_parse_lexer.proofs.BehindSteps.{behinds_is, each_stands}
use Rattle.protobuf_parse_lexer.proofs.Cuts.{token_some}

in_step : (f : ℕ → ℕ → Bytes → List ℕ) (o c : ℕ) (z : Bytes) (r : Piece) → Stands z r
    → ((o' c' : ℕ) (y : Bytes) → length y < length z → BehindIn o' c' y (f o' c' y))
    → BehindIn o c z (behind_piece f o c z r)
in_step f o c z piece.End is all = at_end is
in_step f o c z (piece.Blank n) is all =
    past_blank n is (all o c (drop n z) (less z n (blank_some z n is)))
in_step f o c z (piece.Token n k) is all = elim (true_or_false (deepens o c k)) [
  | inl deep ↦
      let stops : behind_piece f o c z (piece.Token n k) ≡ [] = rw deep refl in
      subst (BehindIn o c z) (sym stops) (at_bracket n k is deep)
  | inr flat ↦
      let o' = counted (is_opening k) o in
      let c' = counted (is_closing k) c in
      let goes : behind_piece f o c z (piece.Token n k) ≡ length (drop n z) ∷ f o' c' (drop n z) =
      rw flat refl in
      subst (BehindIn o c z) (sym goes)
      (past_token n k is flat (all o' c' (drop n z) (less z n (token_some z n k is))))
]
in_step f o c z (piece.Fault e) is all = at_fault e is

in_within : (n o c : ℕ) (z : Bytes) → length z < n → BehindIn o c z (behind_within n o c z)
unfolding behind_within
in_within zero o c z h = absurd (omega arith)
in_within (suc n) o c z h =
    in_step (behind_within n) o c z (total z).0 (total z).1
    (λ o' c' y l. in_within n o' c' y (omega arith))

behind_in : (o c : ℕ) (z : Bytes) → BehindIn o c z (behinds o c z)
unfolding behinds
behind_in o c z = in_within (suc (length z)) o c z (omega arith)

behind_only : {o c : ℕ} {z : Bytes} {ns : List ℕ} → BehindIn o c z ns → behinds o c z ≡ ns
behind_only {o} {c} {z} (at_end is) = behinds_is o c z piece.End is
behind_only {o} {c} {z} (past_blank n is more) =
    behinds_is o c z (piece.Blank n) is ∙ behind_only more
behind_only {o} {c} {z} (past_token n k is flat more) =
    behinds_is o c z (piece.Token n k) is
    ∙ (let go : behind_piece behinds o c z (piece.Token n k) ≡ length (drop n z)
    ∷ behinds (counted (is_opening k) o) (counted (is_closing k) c) (drop n z) = rw flat refl in go)
    ∙ ap (λ (ns : List ℕ). length (drop n z) ∷ ns) (behind_only more)
behind_only {o} {c} {z} (at_bracket n k is deep) =
    behinds_is o c z (piece.Token n k) is ∙ rw deep refl
behind_only {o} {c} {z} (at_fault e is) = behinds_is o c z (piece.Fault e) is

stand : (n : Option NextToken) (b : Brackets) (z : Bytes) → StandBehind n b z (next_behind n b z)
stand None b z = refl
stand (Some t) b z = (behinds b.opened b.closed z, behind_in b.opened b.closed z, refl)

stand_only : (n : Option NextToken) (b : Brackets) (z : Bytes) (ns : List ℕ)
    → StandBehind n b z ns → next_behind n b z ≡ ns
stand_only None b z ns h = sym h
stand_only (Some t) b z ns h =
    ap (λ (others : List ℕ). length z ∷ others) (behind_only h.1) ∙ sym h.2

lies_behind_is : (t : Tokenizer) → LiesBehind t (behinds_ahead t)
lies_behind_is t = stand t.next t.brackets t.rest.now

lies_behind_only : (t : Tokenizer) (ns : List ℕ) → LiesBehind t ns → behinds_ahead t ≡ ns
lies_behind_only t ns h = stand_only t.next t.brackets t.rest.now ns h

pub one_lies_behind : OneLiesBehind
one_lies_behind t = (behinds_ahead t, lies_behind_is t, λ ms h. sym (lies_behind_only t ms h))

pub text_behind : (t : Tokenizer) (o c : ℕ) (z : Bytes) → behinds_ahead t ≡ behinds o c z
    → (ns : List ℕ) → LiesBehind t ns ↔ BehindIn o c z ns
text_behind t o c z e ns = (
  λ h. subst (BehindIn o c z) (sym e ∙ lies_behind_only t ns h) (behind_in o c z),
  λ h. subst (LiesBehind t) (e ∙ behind_only h) (lies_behind_is t),
)

pub gone_behind : (before later : Tokenizer) → behinds_ahead later ≡ drop 1 (behinds_ahead before)
    → (ns : List ℕ) → LiesBehind before ns → LiesBehind later (drop 1 ns)
gone_behind before later e ns h =
    subst (LiesBehind later) (e ∙ ap (drop 1) (lies_behind_only before ns h)) (lies_behind_is later)

first_of_them : (n : Option NextToken) (b : Brackets) (z : Bytes)
    → IfSome n (λ t. (ns : List ℕ) → StandBehind n b z ns → first ns ≡ Some (length z))
first_of_them None b z = tt
first_of_them (Some t) b z = λ ns h. ap first h.2

pub first_behind : (t : Tokenizer)
    → IfSome t.next (λ n. (ns : List ℕ) → LiesBehind t ns → first ns ≡ Some (length t.rest.now))
first_behind t = first_of_them t.next t.brackets t.rest.now

pub each_is_found : EachIsFound
each_is_found text s ns has behind =
    subst (EachStands text s.tokens) (behind_only behind) (each_stands text s has)
