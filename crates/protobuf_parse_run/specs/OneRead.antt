-- One input, read by itself.
use Rattle.std.specs.Prelude.{◌≡◌, List, Option, Some}
use Rattle.protobuf_parse_base.specs.PathViews.{path_buf_text}
use Rattle.protobuf_parse_model.specs.Descriptors.{Text}
use Rattle.protobuf_parse_run.specs.Walks.{Asked, Input, asked_of, input_name}
use Rattle.protobuf_parse_run.specs.Run.{MayAnswer, MayRead, MayResolve, StandsInLoad, text_given}
use Rattle.protobuf_parse_run.specs.declared.fault.RunFault.{RunFault}
use Rattle.protobuf_parse_run.specs.declared.log.ReadEntry.{ReadEntry}

-- an entry is of the input: of its path, and with what who is asked for it may answer
abbrev pub IsReadOf : MayResolve → MayRead → Input → ReadEntry → Type 0
IsReadOf resolve read i e = (path_buf_text e.path ≡ input_name i)
    × MayAnswer resolve read (asked_of i) (input_name i) e.outcome

-- the text that an entry gives, with these bundled files
abbrev pub text_in : List (Text × Text) → ReadEntry → Option Text
text_in bundled e = text_given bundled (path_buf_text e.path) (Some e.outcome)

-- the fault of an entry that was asked so
abbrev pub StandsInRead : List (Text × Text) → Asked → ReadEntry → RunFault → Type 0
StandsInRead bundled asked e fault =
    StandsInLoad asked (path_buf_text e.path) (Some e.outcome) (text_in bundled e) fault
