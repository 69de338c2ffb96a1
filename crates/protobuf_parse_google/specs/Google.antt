-- The files of Google that schemas import.
use Rattle.std.specs.Prelude.{ℕ, List, map}
use Rattle.std.specs.Borrow.{Bor}
use Rattle.protobuf_parse_google.specs.declared.files.TheConstants.{GOOGLE_FILES}

-- the proto paths and the texts of a table of files, as bytes
abbrev pub rows : List (Bor (List ℕ) × Bor (List ℕ)) → List (List ℕ × List ℕ)
rows table = map (λ (r : Bor (List ℕ) × Bor (List ℕ)). (r.0.now, r.1.now)) table

-- Google's files, as src/files.rt has them: proto paths and texts
abbrev pub google : List (List ℕ × List ℕ)
google = map (λ r. (r.0.now, r.1.now)) GOOGLE_FILES.now
