-- The range of a kind is what the code's conversions take, in the words that they have for it.
use Rattle.std.proofs.Common.{ℤ, pos, negsuc, arith}
use Rattle.std.specs.Int.{FitsUnsigned}
use Rattle.std.specs.Int.RustNames.{FitsSigned}
use Rattle.std.proofs.Math.Facts.{yes_ltb, ltb_yes, yes_leb}
use Rattle.std.proofs.lemmas.Bool.{ltb-true, lt-ltb}
use lib.Signed.{le_z_yes, lt_z_yes}
use Rattle.protobuf_parse_wire.specs.Kinds.{unsigned, twos_complement, zigzag, KindShape, whole}
use Rattle.protobuf_parse_wire.specs.Kinds.{truth}
use Rattle.protobuf_parse_wire.specs.Kinds.{text, octets, message, InRange}

abbrev pub Converts : KindShape → ℤ → Type 0
Converts (whole word w unsigned) v = FitsUnsigned w v
Converts (whole word w twos_complement) v = FitsSigned w v
Converts (whole word w zigzag) v = FitsSigned w v
Converts truth v = ⊥
Converts text v = ⊥
Converts octets v = ⊥
Converts message v = ⊥

pub converts : (s : KindShape) (v : ℤ) → InRange s v → Converts s v
converts (whole word w unsigned) (pos n) e =
    (le_z_yes (yes_leb (omega arith)), lt_z_yes (yes_ltb (ltb-true _ _ e)))
converts (whole word w unsigned) (negsuc n) e = absurd cc
converts (whole word w twos_complement) (pos n) e = record { sfits = ltb-true _ _ e }
converts (whole word w twos_complement) (negsuc n) e = record { sfits = ltb-true _ _ e }
converts (whole word w zigzag) (pos n) e = record { sfits = ltb-true _ _ e }
converts (whole word w zigzag) (negsuc n) e = record { sfits = ltb-true _ _ e }
converts truth v e = absurd cc
converts text v e = absurd cc
converts octets v e = absurd cc
converts message v e = absurd cc

pub in_range : (s : KindShape) (v : ℤ) → Converts s v → InRange s v
in_range (whole word w unsigned) (pos n) p = lt-ltb _ _ (ltb_yes p.1.lt)
in_range (whole word w unsigned) (negsuc n) p = absurd p.0.le
in_range (whole word w twos_complement) (pos n) p = lt-ltb _ _ p.sfits
in_range (whole word w twos_complement) (negsuc n) p = lt-ltb _ _ p.sfits
in_range (whole word w zigzag) (pos n) p = lt-ltb _ _ p.sfits
in_range (whole word w zigzag) (negsuc n) p = lt-ltb _ _ p.sfits
in_range truth v p = absurd p
in_range text v p = absurd p
in_range octets v p = absurd p
in_range message v p = absurd p
