-- No public clause rests on this file.
-- The way down to a spot.
use Rattle.std.specs.Prelude.{ℕ, List, [], ◌∷◌, Option, Some, None, option_map, slice_get}
use Rattle.protobuf_parse_model.specs.Descriptors.{MessageDescriptor}
use Rattle.protobuf_parse_options.specs.Spots.{Inside, inside_message}

-- what stands in the message with this number
abbrev pub next_inside : Option Inside → ℕ → Option Inside
next_inside None index = None
next_inside (Some inside) index = option_map inside_message (slice_get inside.messages index)

-- A path has the number of a message in its list, then that of a message in it, and so on.
abbrev pub down : Option Inside → List ℕ → Option Inside
down inside [] = inside
down inside (index ∷ path) = down (next_inside inside index) path

-- one of these with this number
abbrev pub one_inside : {T : Type 0} → (Inside → List T) → Option Inside → ℕ → Option T
one_inside list None index = None
one_inside list (Some inside) index = slice_get (list inside) index

abbrev pub messages_inside : Inside → List MessageDescriptor
messages_inside inside = inside.messages
