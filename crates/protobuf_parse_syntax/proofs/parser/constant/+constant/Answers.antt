use Rattle.std.proofs.Common.{◌≡◌, List, [], ◌∷◌, ◌++◌, map, refl, sym, ap, ◌∙◌, inl}
use Rattle.std.proofs.lemmas.Result.{err_from_is_err_and}
use Rattle.protobuf_parse_grammar.specs.Combinators.{shorter}
use Rattle.protobuf_parse_grammar.specs.Pairs.{both}
use Rattle.protobuf_parse_grammar.specs.Loops.{shows_themselves, goes_on, stops_here}
use Rattle.protobuf_parse_grammar.specs.Readers.{Read, read, bind}
use Rattle.protobuf_parse_lexer.specs.Tokens.{Lexeme}
use Rattle.protobuf_parse_lexer.specs.declared.lexer.token.Place.{Place}
use Rattle.protobuf_parse_syntax.specs.Productions as parse
use Rattle.protobuf_parse_syntax.specs.Trees as tree
use Rattle.protobuf_parse_syntax.specs.Trees.{ConstantSyntax, ConstantFieldSyntax, constant_syntax}
use Rattle.protobuf_parse_syntax.specs.Trees.{Pieces}
use Rattle.protobuf_parse_syntax.specs.declared.tree.constant.ProtobufConstant.{ProtobufConstant}
use Rattle.protobuf_parse_syntax.proofs.Views.{views_text, views_list}
use Rattle.protobuf_parse_syntax.specs.InnerViews.{constant_field_syntax}
use Rattle.protobuf_parse_syntax.specs.Nested as nest
use Rattle.protobuf_parse_syntax.specs.Code.{left, fails_first, InConstant, InField}
use Rattle.protobuf_parse_syntax.proofs.Constants.{runs_message, runs_list, runs_word}
use Rattle.protobuf_parse_syntax.proofs.Constants.{runs_integer, runs_string, fails_float}
use Rattle.protobuf_parse_syntax.proofs.ConstantFaults.{constants_first, wrong_items, wrong_fields}
use Rattle.protobuf_parse_syntax.proofs.ConstantFaults.{wrong_value, gives_colon, gives_message}
use Rattle.protobuf_parse_syntax.proofs.ConstantFaults.{list_reads, fails_list_end}
use Rattle.protobuf_parse_syntax.proofs.Loops.{put_behind, listed, listed_fails_comma, with_all}
use Rattle.protobuf_parse_syntax.proofs.Loops.{listed_smaller, listed_goes_on, listed_stops}
use Rattle.protobuf_parse_syntax.proofs.Lists.{first_read, next_read, wrong_item, wrong_later}
use Rattle.protobuf_parse_syntax.proofs.Lists.{wrong_comma, none_read, one_more_read, wrong_one}
use Rattle.protobuf_parse_syntax.proofs.Wrongs.{gives_as, gives_too}
use Rattle.protobuf_parse_syntax.proofs.parser.constant.+constant.Goals as goal

-- ---- a constant, by its first token

pub constant_of-returns-then-sees_symbol : goal.constant_of-returns-then-sees_symbol
constant_of-returns-then-sees_symbol t c =
    gives_as InConstant (left c.args.tokens.now) constant_syntax c.message_constant.result
    (left c.message_constant.new.tokens) _ _
    (runs_message c.args.levels (left c.args.tokens.now)
    (sym c.sees_symbol.ensures ∙ c.if-sees_symbol.true)) c.message_constant.ensures

pub constant_of-returns-then-sees_symbol-2 : goal.constant_of-returns-then-sees_symbol-2
constant_of-returns-then-sees_symbol-2 t c =
    gives_as InConstant (left c.args.tokens.now) constant_syntax c.list.result
    (left c.list.new.tokens) _ _
    (runs_list c.args.levels (left c.args.tokens.now)
    (sym c.sees_symbol-2.ensures ∙ c.if-sees_symbol-2.true)) c.list.ensures

pub constant_of-returns-then-sees_ident : goal.constant_of-returns-then-sees_ident
constant_of-returns-then-sees_ident t c =
    gives_as InConstant (left c.args.tokens.now) constant_syntax c.word_constant.result
    (left c.word_constant.new.tokens) _ _
    (runs_word c.args.levels (left c.args.tokens.now)
    (sym c.sees_ident.ensures ∙ c.if-sees_ident.true))
    (gives_too InConstant (left c.args.tokens.now) constant_syntax c.word_constant.result
    (left c.word_constant.new.tokens) _ c.word_constant.ensures)

pub constant_of-returns-then-begins_integer : goal.constant_of-returns-then-begins_integer
constant_of-returns-then-begins_integer t c =
    gives_as InConstant (left c.args.tokens.now) constant_syntax c.integer.result
    (left c.integer.new.tokens) _ _
    (runs_integer c.args.levels (left c.args.tokens.now)
    (sym c.begins_integer.ensures ∙ c.if-begins_integer.true)) c.integer.ensures

pub constant_of-returns-in_err-string : goal.constant_of-returns-in_err-string
constant_of-returns-in_err-string t c =
    let p = err_from_is_err_and c.from_residual.result c.from_residual.ensures.1 in
    rw (
      p.1,
      p.2,
      runs_string c.args.levels (left c.args.tokens.now)
          (sym c.sees_str.ensures ∙ c.if-sees_str.true),
    ) (inl (fails_first c.in_err-string.field-0.0 _ _ _ c.in_err-string.ensures))

pub constant_of-returns-then-sees_str : goal.constant_of-returns-then-sees_str
constant_of-returns-then-sees_str t c =
    runs_string c.args.levels (left c.args.tokens.now)
    (sym c.sees_str.ensures ∙ c.if-sees_str.true)
    ∙ ap (λ (v : Read Lexeme Place Pieces). bind v (λ s us. read (tree.string s) us))
    c.in_ok-string.ensures
    ∙ ap (λ (v : ConstantSyntax). read v (left c.string.new.tokens))
    (sym (views_text c.in_ok-string.field-0))

pub constant_of-returns-then-sees_float : goal.constant_of-returns-then-sees_float
constant_of-returns-then-sees_float t c =
    fails_float c.args.levels (left c.args.tokens.now)
    (sym c.sees_float.ensures ∙ c.if-sees_float.true)

-- ---- lists

pub list-returns-in_err-items : goal.list-returns-in_err-items
list-returns-in_err-items t c =
    let p = err_from_is_err_and c.from_residual-in_err-items.result
    c.from_residual-in_err-items.ensures.1 in
    rw (p.1, p.2)
    (wrong_items c.args.levels c.in_err-items.field-0.0 (left c.args.tokens.now)
    (left c.symbol.new.self) (left c.constants.new.tokens) c.in_ok-symbol.ensures
    (sym c.begins_item.ensures ∙ c.if-begins_item.true) c.in_err-items.ensures)

pub list-returns-in_err-symbol-2 : goal.list-returns-in_err-symbol-2
list-returns-in_err-symbol-2 t c =
    let p = err_from_is_err_and c.from_residual-in_err-symbol-2.result
    c.from_residual-in_err-symbol-2.ensures.1 in
    rw (p.1, p.2)
    (inl (fails_list_end c.args.levels (left c.args.tokens.now) (left c.symbol.new.self)
    (left c.constants.new.tokens) (map constant_syntax c.in_ok-items.items.items)
    c.in_ok-symbol.ensures (sym c.begins_item.ensures ∙ c.if-begins_item.true)
    c.in_ok-items.ensures c.in_err-symbol-2.field-0.0 (left c.symbol-then-begins_item.new.self)
    c.in_err-symbol-2.ensures))

pub list-returns-then-begins_item : goal.list-returns-then-begins_item
list-returns-then-begins_item t c =
    let ws = left c.symbol-then-begins_item.new.self in
    list_reads c.args.levels (left c.args.tokens.now) (left c.symbol.new.self)
    (left c.constants.new.tokens) (map constant_syntax c.in_ok-items.items.items)
    c.in_ok-symbol.ensures (sym c.begins_item.ensures ∙ c.if-begins_item.true)
    c.in_ok-items.ensures ws c.in_ok-symbol-2.ensures
    ∙ ap (λ (v : List ProtobufConstant). read (tree.list (tree.constants (map constant_syntax v)))
    ws) (sym c.shrink_to_fit.ensures.items)
    ∙ ap (λ (v : ConstantSyntax). read v ws) (sym (views_list c.shrink_to_fit.new.self))

pub constants-returns-in_err-constant : goal.constants-returns-in_err-constant
unfolding nest.constants_of
constants-returns-in_err-constant t c =
    let p = err_from_is_err_and c.from_residual.result c.from_residual.ensures.1 in
    rw (p.1, p.2)
    (wrong_item (nest.constant c.args.levels) InConstant c.in_err-constant.field-0.0
    (left c.args.tokens.now) (left c.constant.new.tokens) _ c.in_err-constant.ensures)

pub constants-others-init : goal.constants-others-init
constants-others-init t c =
    let e : map constant_syntax c.push.new.self.items ≡ constant_syntax c.in_ok-constant.field-0
    ∷ [] = ap (map constant_syntax) (c.in_ok-push.ensures.items
    ∙ ap (λ (v : List ProtobufConstant). v ++ c.in_ok-constant.field-0 ∷ [])
    c.new-items.ensures.items) in (
      constants_first c.args.levels (left c.args.tokens.now) (left c.constant.new.tokens)
          (constant_syntax c.in_ok-constant.field-0) c.in_ok-constant.ensures
          ∙ ap (λ (v : List ConstantSyntax). listed (nest.constant c.args.levels) v
          (left c.constant.new.tokens)) (sym e),
      first_read (nest.constant c.args.levels) (left c.args.tokens.now)
          (left c.constant.new.tokens) (constant_syntax c.in_ok-constant.field-0)
          c.in_ok-constant.ensures,
    )

pub constants-returns-in_err-symbol : goal.constants-returns-in_err-symbol
constants-returns-in_err-symbol t c =
    let p = err_from_is_err_and c.from_residual-in_err-symbol.result
    c.from_residual-in_err-symbol.ensures.1 in
    rw (p.1, p.2)
    (inl (listed_fails_comma (nest.constant c.args.levels)
    (map constant_syntax c.others.items.items)
    (left c.others.tokens) (left c.symbol.new.self) c.in_err-symbol.field-0.0 _
    (sym c.sees_symbol.ensures ∙ c.others-test.true) c.in_err-symbol.ensures
    c.others.invariant.0))

pub constants-returns-in_err-item : goal.constants-returns-in_err-item
constants-returns-in_err-item t c =
    let p = err_from_is_err_and c.from_residual-in_err-item.result
    c.from_residual-in_err-item.ensures.1 in
    let l = (parse.symbol 44).sound (left c.others.tokens) tt (left c.symbol.new.self)
    c.in_ok-symbol.ensures in
    rw (p.1, p.2)
    (wrong_later (nest.constant c.args.levels) InConstant c.in_err-item.field-0.0
    (left c.args.tokens.now) (left c.constant-in-others.new.tokens) (left c.others.tokens)
    (map constant_syntax c.others.items.items) _
    (sym c.sees_symbol.ensures ∙ c.others-test.true) c.others.invariant.1 c.others.invariant.0
    (wrong_comma (nest.constant c.args.levels) InConstant c.in_err-item.field-0.0
    (left c.others.tokens) (left c.constant-in-others.new.tokens) (left c.symbol.new.self) l.used
    l.parts l.holds (rw (c.in_ok-symbol.ensures) refl) c.in_err-item.ensures))

pub constants-others-smaller : goal.constants-others-smaller
constants-others-smaller t c =
    listed_smaller (nest.constant c.args.levels) (left c.others.tokens) (left c.symbol.new.self)
    (left c.constant-in-others.new.tokens)
    (constant_syntax c.in_ok-item.item) c.in_ok-symbol.ensures c.in_ok-item.ensures

pub constants-others-preserved : goal.constants-others-preserved
constants-others-preserved t c = (
  listed_goes_on (nest.constant c.args.levels) (map constant_syntax c.others.items.items) _
      (left c.others.tokens) (left c.symbol.new.self) (left c.constant-in-others.new.tokens)
      (constant_syntax c.in_ok-item.item) _
      (sym c.sees_symbol.ensures ∙ c.others-test.true) c.in_ok-symbol.ensures c.in_ok-item.ensures
      (put_behind constant_syntax c.others.items.items c.push-in-others.new.self.items
      c.in_ok-item.item c.in_ok-push-2.ensures.items) c.others.invariant.0,
  next_read (nest.constant c.args.levels) (left c.args.tokens.now) (left c.others.tokens)
      (left c.constant-in-others.new.tokens) (constant_syntax c.in_ok-item.item)
      c.others.invariant.1 (rw (c.in_ok-symbol.ensures) c.in_ok-item.ensures),
)

pub constants-returns : goal.constants-returns
constants-returns t c =
    listed_stops (nest.constant c.args.levels) (map constant_syntax c.others.items.items)
    (left c.others.tokens) _ (sym c.sees_symbol.ensures ∙ c.others-test.false)
    c.others.invariant.0

-- ---- message constants

pub message_constant-returns-in_err-fields : goal.message_constant-returns-in_err-fields
message_constant-returns-in_err-fields t c =
    let p = err_from_is_err_and c.from_residual-in_err-fields.result
    c.from_residual-in_err-fields.ensures.1 in
    rw (p.1, p.2)
    (wrong_fields c.args.levels c.in_err-fields.field-0.0 (left c.args.tokens.now)
    (left c.symbol.new.self) (left c.constant_fields.new.tokens) c.in_ok-symbol.ensures
    c.in_err-fields.ensures)

pub constant_fields-fields-init : goal.constant_fields-fields-init
unfolding nest.constant_fields_of
constant_fields-fields-init t c = (
  rw (c.new-fields.ensures.items) (with_all _),
  none_read (left c.args.tokens.now),
)

pub constant_fields-returns-in_err-field : goal.constant_fields-returns-in_err-field
constant_fields-returns-in_err-field t c =
    let p = err_from_is_err_and c.from_residual.result c.from_residual.ensures.1 in
    rw (p.1, p.2)
    (wrong_one (nest.constant_field_of (both (nest.constant c.args.levels))).low refl InField
    c.in_err-field.field-0.0 (left c.args.tokens.now) (left c.fields.tokens)
    (left c.constant_field.new.tokens) (map constant_field_syntax c.fields.fields.items) _
    (sym c.begins_constant_name.ensures ∙ c.fields-test.true) c.fields.invariant.1
    c.fields.invariant.0 c.in_err-field.ensures)

pub constant_fields-fields-smaller : goal.constant_fields-fields-smaller
constant_fields-fields-smaller t c =
    shorter (nest.constant_field_of (both (nest.constant c.args.levels))).low refl
    (left c.fields.tokens) (constant_field_syntax c.in_ok-field.field)
    (left c.constant_field.new.tokens) c.in_ok-field.ensures

pub constant_fields-fields-preserved : goal.constant_fields-fields-preserved
constant_fields-fields-preserved t c = (
  goes_on (nest.constant_field_of (both (nest.constant c.args.levels))).low refl
      (λ (v : List ConstantFieldSyntax). v) shows_themselves (λ (v : List ConstantFieldSyntax). v)
      (map constant_field_syntax c.fields.fields.items) _ (left c.fields.tokens)
      (constant_field_syntax c.in_ok-field.field) (left c.constant_field.new.tokens) _
      (sym c.begins_constant_name.ensures ∙ c.fields-test.true) c.in_ok-field.ensures
      (put_behind constant_field_syntax c.fields.fields.items c.push.new.self.items
      c.in_ok-field.field c.in_ok-push.ensures.items) c.fields.invariant.0,
  one_more_read (nest.constant_field_of (both (nest.constant c.args.levels))).low
      (left c.args.tokens.now) (left c.fields.tokens) (left c.constant_field.new.tokens)
      (constant_field_syntax c.in_ok-field.field) c.fields.invariant.1 c.in_ok-field.ensures,
)

pub constant_fields-returns : goal.constant_fields-returns
constant_fields-returns t c =
    stops_here (nest.constant_field_of (both (nest.constant c.args.levels))).low refl
    (λ (v : List ConstantFieldSyntax). v) shows_themselves (λ (v : List ConstantFieldSyntax). v)
    (map constant_field_syntax c.fields.fields.items) (left c.fields.tokens) _
    (sym c.begins_constant_name.ensures ∙ c.fields-test.false) c.fields.invariant.0

pub constant_field-returns-in_err-value : goal.constant_field-returns-in_err-value
constant_field-returns-in_err-value t c =
    let p = err_from_is_err_and c.from_residual-in_err-value.result
    c.from_residual-in_err-value.ensures.1 in
    rw (p.1, p.2)
    (wrong_value c.args.levels c.in_err-value.field-0.0 (left c.args.tokens.now)
    (left c.constant_name.new.tokens) (left c.field_value.new.tokens) _ c.in_ok-name.ensures
    c.in_err-value.ensures)

pub field_value-returns-then-sees_symbol : goal.field_value-returns-then-sees_symbol
field_value-returns-then-sees_symbol t c =
    gives_colon c.args.levels c.constant.result (left c.args.tokens.now)
    (left c.constant.new.tokens) (left c.symbol.new.self)
    (sym c.sees_symbol.ensures ∙ c.if-sees_symbol.true) c.in_ok-symbol.ensures
    c.constant.ensures

pub field_value-returns : goal.field_value-returns
field_value-returns t c =
    gives_message c.args.levels c.constant-2.result (left c.args.tokens.now)
    (left c.constant-2.new.tokens) (sym c.sees_symbol-2.ensures ∙ c.if-not-sees_symbol.false)
    c.constant-2.ensures
