-- No public clause rests on this file.
-- Constants and tables of options as the code holds them.
use Rattle.std.specs.Prelude.{ℕ, List, map}
use Rattle.std.specs.Borrow.{Bor}
use Rattle.protobuf_parse_syntax.specs.Trees.{ConstantSyntax, constant_syntax}
use Rattle.protobuf_parse_syntax.specs.declared.tree.constant.ProtobufConstant.{ProtobufConstant}
use Rattle.protobuf_parse_model.specs.BuiltinOptions as spec
use Rattle.protobuf_parse_model.specs.BuiltinOptions.{Table, a_text, a_truth, a_word}
use Rattle.protobuf_parse_model.specs.Words.{Words, words_of, optimize_modes, c_types, js_types}
use Rattle.protobuf_parse_model.specs.Words.{idempotency_levels}
use Rattle.protobuf_parse_model.specs.Descriptors.{Text}
use Rattle.protobuf_parse_elaboration.specs.declared.constructs.options.tables.BuiltinKind.{BuiltinKind}
use Rattle.protobuf_parse_elaboration.specs.declared.constructs.options.tables.BuiltinKind.TheVariants as kind

abbrev pub constant_seen : Bor ProtobufConstant → ConstantSyntax
constant_seen c = constant_syntax c.now

-- ---- tables

-- what a built-in option is set to
abbrev pub kind_seen : BuiltinKind → spec.BuiltinKind
kind_seen kind.Text = a_text
kind_seen kind.Truth = a_truth
kind_seen kind.OptimizeMode = a_word (words_of optimize_modes)
kind_seen kind.CType = a_word (words_of c_types)
kind_seen kind.JSType = a_word (words_of js_types)
kind_seen kind.IdempotencyLevel = a_word (words_of idempotency_levels)

abbrev pub entry_seen : Bor (List ℕ) × BuiltinKind → Text × spec.BuiltinKind
entry_seen entry = (entry.0.now, kind_seen entry.1)

abbrev pub table_seen : List (Bor (List ℕ) × BuiltinKind) → Table
table_seen table = map entry_seen table

-- the values of an enum by their names
abbrev pub words_seen : {A : Type 0} → List (Bor (List ℕ) × A) → Words A
words_seen words = map (λ w. (w.0.now, w.1)) words
