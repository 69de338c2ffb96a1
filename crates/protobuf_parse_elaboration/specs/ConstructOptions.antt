-- All that is wrong in the options of a construct that has those of a table, besides a field: in
-- the built-in ones, and in the custom ones, whose names are looked up from where the construct
-- stands.
use Rattle.std.specs.Prelude.{List, ◌++◌}
use Rattle.protobuf_parse_syntax.specs.Trees.{OptionSyntax}
use Rattle.protobuf_parse_model.specs.declared.customs.Construct.{Construct}
use Rattle.protobuf_parse_model.specs.BuiltinOptions.{Table, options_faults}
use Rattle.protobuf_parse_model.specs.Environment.{Environment, customs_faults}
use Rattle.protobuf_parse_model.specs.Faults.{Fault}

-- in the options of a construct: those of the built-in ones, then those of the custom ones
abbrev pub construct_faults : Environment → Construct → Table → List OptionSyntax → List Fault
construct_faults env construct table os = options_faults table os ++ customs_faults env construct os
