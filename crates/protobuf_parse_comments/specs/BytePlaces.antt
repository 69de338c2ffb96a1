-- Lines and columns that count bytes, from 0; a tab goes on to the next multiple of 8.
use Rattle.std.specs.Prelude.{ℕ, ◌+◌, ◌-◌, ◌%◌, ◌==◌, if◌then◌else◌, List}
use Rattle.std.specs.List.{fold}
use Rattle.protobuf_parse_comments.specs.declared.place.BytePlace.{BytePlace}

-- behind one byte more
abbrev pub step : BytePlace → ℕ → BytePlace
step p b =
    if b == 10 then record { line = p.line + 1; column = 0 }
    else (if b == 9 then record { line = p.line; column = p.column + 8 - p.column % 8 }
    else record { line = p.line; column = p.column + 1 })

-- behind several
abbrev pub after : BytePlace → List ℕ → BytePlace
after p z = fold step p z
