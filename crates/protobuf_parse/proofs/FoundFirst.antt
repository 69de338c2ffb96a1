-- What is found first among includes, as they are gone through.
use Rattle.std.proofs.Common.{◌≡◌, ℕ, ◌+◌, ◌<◌, List, ◌∷◌, map, drop, length, get_or}
use Rattle.std.proofs.Common.{Option, None, Result, Ok, inr, refl, subst, sym}
use Rattle.std.proofs.Common.{String, Global, string_bytes, drop-cons, add-one}
use Rattle.protobuf_parse_model.specs.Descriptors.{Text}
use Rattle.protobuf_parse_run.specs.declared.fault.ResolveFault.{ResolveFault}
use Rattle.protobuf_parse_run.specs.declared.source.ResolvedProtoFile.{ResolvedProtoFile}
use Rattle.protobuf_parse.specs.Folders.{IsFirstFound}

-- the includes from this one on
from_here : (includes : List (String Global)) (i : ℕ) (include : String Global) (name : Text)
    → i < length includes → include ≡ get_or includes i include → name ≡ string_bytes include
    → map string_bytes (drop i includes) ≡ name ∷ map string_bytes (drop (i + 1) includes)
from_here includes i include name lt is named =
    rw (add-one, drop-cons includes i include lt, ← is, named) refl

-- This include has no such file: what the rest find is found.
pub found_later : (May : Text → Result (Option ResolvedProtoFile) ResolveFault → Type 0)
    (includes : List (String Global)) (i : ℕ) (include : String Global) (name : Text)
    → i < length includes → include ≡ get_or includes i include → name ≡ string_bytes include
    → May name (Ok None) → (answer : Result (Option ResolvedProtoFile) ResolveFault)
    → IsFirstFound May (map string_bytes (drop (i + 1) includes)) answer
    → IsFirstFound May (map string_bytes (drop i includes)) answer
found_later May includes i include name lt is named none answer rest =
    subst (λ left. IsFirstFound May left answer)
    (sym (from_here includes i include name lt is named)) (inr (none, rest))
