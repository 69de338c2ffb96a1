-- No public clause rests on this file.
-- The parts of paths, as the code sees them, and the faults of includes and of names.
use Rattle.std.specs.Prelude.{◌≡◌, ℕ, List, Option, option_map, string_bytes}
use Rattle.std.specs.Borrow.{Bor}
use Rattle.protobuf_parse_base.specs.declared.proto_path.error.PathError.{PathError}
use Rattle.protobuf_parse_model.specs.Descriptors.{Text}
use Rattle.protobuf_parse_run.specs.declared.fault.RunFault.{RunFault}
use Rattle.protobuf_parse_run.specs.declared.fault.RunFault.TheVariants as fault
use Rattle.protobuf_parse.specs.Includes.{includes_text, part_views}

abbrev pub rest_parts_view : Option (Bor (List (Bor (List ℕ)))) → Option (List Text)
rest_parts_view rest = option_map (λ (r : Bor (List (Bor (List ℕ)))). part_views r.now) rest

-- L3 for these includes and this input
abbrev pub IsOutside : List Text → Text → RunFault → Type 0
IsOutside includes input (fault.FileMustResideInImportPath path listed) =
    (string_bytes path ≡ input) × (string_bytes listed ≡ includes_text includes)
IsOutside includes input _ = ⊥

-- L11 for this input
abbrev pub IsMisnamed : Text → PathError → RunFault → Type 0
IsMisnamed input why (fault.InputPath path told) = (string_bytes path ≡ input) × (told ≡ why)
IsMisnamed input why _ = ⊥
