-- Proto paths, by which `.proto` files import one another: nonempty parts with slashes between
-- them.
use Rattle.std.specs.Prelude.{ℕ, ◌==◌, ◌&&◌, ◌||◌, ◌≡◌, not, Bool, false, List, [], ◌∷◌, length}
use Rattle.std.specs.Prelude.{IsTrue, Option, Some, None, if◌then◌else◌, filter}
use Rattle.std.specs.List.{list_all, list_any, slice_split, join_with_byte}
use Rattle.std.specs.Str.{bytes_eq}
use Rattle.protobuf_parse_base.specs.Characters as char
use Rattle.protobuf_parse_base.specs.declared.proto_path.error.PathError.{PathError}
use Rattle.protobuf_parse_base.specs.declared.proto_path.error.PathError.TheVariants as fault

-- the part `.`
abbrev pub is_dot : List ℕ → Bool
is_dot part = bytes_eq part (char.dot ∷ [])

-- the part `..`
abbrev pub is_dot_dot : List ℕ → Bool
is_dot_dot part = bytes_eq part (char.dot ∷ char.dot ∷ [])

-- without a byte
abbrev pub is_empty : List ℕ → Bool
is_empty text = length text == 0

-- with a `\`
abbrev pub has_backslash : List ℕ → Bool
has_backslash text = list_any (λ b. b == char.backslash) text

-- a part: nonempty, without `\` and `/`, and neither `.` nor `..`
abbrev pub is_part : List ℕ → Bool
is_part part = not (is_empty part) && not (is_dot part) && not (is_dot_dot part)
    && list_all (λ b. not (b == char.backslash || b == char.slash)) part

-- parts with slashes between them
abbrev pub joined : List (List ℕ) → List ℕ
joined parts = join_with_byte char.slash parts

-- a text is a proto path if it is one or more parts with slashes between them
abbrev pub IsProtoPath : List ℕ → Type 0
IsProtoPath text = (parts : List (List ℕ)) × IsTrue (not (length parts == 0))
    × IsTrue (list_all is_part parts) × (text ≡ joined parts)

-- what stands between the slashes of a text
abbrev pub slash_parts : List ℕ → List (List ℕ)
slash_parts text = slice_split (λ b. b == char.slash) text

-- what is wrong with one part
abbrev pub part_fault : List ℕ → Option PathError
part_fault part = if is_empty part then Some fault.EmptyComponent
    else if is_dot part then Some fault.Dot
    else if is_dot_dot part then Some fault.DotDot
    else None

-- what is wrong with the first part that has a fault
abbrev pub first_fault_or : Option PathError → Option PathError → Option PathError
first_fault_or (Some found) later = Some found
first_fault_or None later = later

-- of these parts
abbrev pub first_fault : List (List ℕ) → Option PathError
first_fault [] = None
first_fault (part ∷ parts) = first_fault_or (part_fault part) (first_fault parts)

-- why a text is no proto path, if it is none
abbrev pub path_fault : List ℕ → Option PathError
path_fault text = if is_empty text then Some fault.Empty
    else if has_backslash text then Some fault.Backslashes
    else first_fault (slash_parts text)

-- the parts of a path of the host that a proto path keeps: all but the empty ones and `.`
abbrev pub kept_of : List (List ℕ) → List (List ℕ)
kept_of parts = filter (λ part. not (is_empty part || is_dot part)) parts

-- what of a path as text is kept
abbrev pub kept_parts : List ℕ → List (List ℕ)
kept_parts text = kept_of (slash_parts text)

-- whether a text begins with a slash
abbrev pub starts_with_slash : List ℕ → Bool
starts_with_slash [] = false
starts_with_slash (b ∷ bs) = b == char.slash

-- why a path of the host is no proto path, if it is none
abbrev pub host_path_fault : List ℕ → Option PathError
host_path_fault text = if starts_with_slash text then Some fault.Absolute
    else if has_backslash text then Some fault.Backslashes
    else if list_any is_dot_dot (slash_parts text) then Some fault.DotDot
    else if length (kept_parts text) == 0 then Some fault.Empty
    else None
