-- A parse error that isn't want of memory stands in the text.
use Rattle.std.proofs.Common.{◌≡◌, ◌⊎◌, inl, inr, ap}
use Rattle.protobuf_parse_lexer.specs.Cut.{out_of_memory}
use Rattle.protobuf_parse_lexer.specs.declared.error.ParserError.TheVariants.{Memory}
use Rattle.protobuf_parse_lexer.specs.declared.error.ParserErrorWithLocation.{ParserErrorWithLocation}

pub but_memory : {P : Type 0} (e : ParserErrorWithLocation) → (e.error ≡ Memory → ⊥)
    → (e ≡ out_of_memory) ⊎ P → P
but_memory e other (inl p) = absurd (other (ap (λ (x : ParserErrorWithLocation). x.error) p))
but_memory e other (inr h) = h
