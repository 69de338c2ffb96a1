-- The table is held against the definition at each of the 256 bytes, by computing.
use Rattle.std.proofs.Common.{not, nat_eq, get_or, refl, arith}
use Rattle.std.proofs.lemmas.Bool.{agree_below_at}
use Rattle.protobuf_parse_listing.specs.declared.pieces.TheConstants.{UNESCAPED_MAP}
use Rattle.protobuf_parse_listing.specs.Unescaped.{is_unescaped_byte}
use Rattle.protobuf_parse_listing.proofs.pieces.is_unescaped_byte.Goals as goal

pub returns : goal.returns
returns c =
    agree_below_at (λ k. not (nat_eq (get_or UNESCAPED_MAP k 0) 39)) is_unescaped_byte 256
    c.args.byte refl (omega arith)
