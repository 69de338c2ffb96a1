-- One level of what nests.
use Rattle.std.proofs.Common.{◌≡◌, ◌∙◌, ◌||◌, List, [], ◌∷◌, ◌++◌, map, flat_map, refl, sym, ap, Vec}
use Rattle.std.proofs.Common.{Global, ℕ, zero, suc, ◌<◌, length, get_or, Bool, true, false, arith}
use Rattle.std.specs.List.{list_any}
use Rattle.protobuf_parse_syntax.specs.Trees.{ConstantFieldSyntax, ConstantSyntax}
use Rattle.protobuf_parse_syntax.specs.Trees.{FieldStatementSyntax, MessageStatementSyntax}
use Rattle.protobuf_parse_syntax.specs.Trees.{MessageSyntax, constant_fields, constant_syntax}
use Rattle.protobuf_parse_syntax.specs.Trees.{constants, field_statement_syntax, field_statements}
use Rattle.protobuf_parse_syntax.specs.Trees.{message_statements, message_syntax, nested_message}
use Rattle.protobuf_parse_syntax.specs.InnerViews.{constant_field_syntax, group_syntax}
use Rattle.protobuf_parse_syntax.specs.InnerViews.{message_statement_syntax}
use Rattle.protobuf_parse_syntax.specs.declared.tree.constant.ConstantField.{ConstantField}
use Rattle.protobuf_parse_syntax.specs.declared.tree.constant.ProtobufConstant.{ProtobufConstant}
use Rattle.protobuf_parse_syntax.specs.declared.tree.constant.ProtobufConstant.TheVariants as constant
use Rattle.protobuf_parse_syntax.specs.declared.tree.declaration.Message.{Message}
use Rattle.protobuf_parse_syntax.proofs.Messages.{view_parts}
use Rattle.protobuf_parse_syntax.proofs.Views.{views_fields, views_list}
use Rattle.protobuf_parse_text_rules.specs.Breaches.{TextBreach}
use Rattle.protobuf_parse_text_rules.specs.Fields.{all_breaches, statement_breaches}
use Rattle.protobuf_parse_text_rules.specs.Files.{all_inside, inside_message, option_in_message}
use Rattle.protobuf_parse_text_rules.specs.Files.{options_among, own_breaches}
use Rattle.protobuf_parse_text_rules.specs.Options.{any_dotted, any_field_dotted, has_dotted}
use Rattle.protobuf_parse_text_rules.specs.Options.{is_dotted}

-- ---- lists

or_true : (b : Bool) → true ≡ (b || true)
or_true true = refl
or_true false = refl

-- one of a list passes the test
pub any_found : {X Y : Type 0} (p : Y → Bool) (f : X → Y) (xs : List X) (i : ℕ) (x : X)
    → i < length xs → x ≡ get_or xs i x → p (f x) ≡ true → true ≡ list_any p (map f xs)
any_found p f [] i x lt is e = absurd (omega arith)
any_found p f (y ∷ ys) zero x lt is e =
    ap (λ b. b || list_any p (map f ys)) (sym e ∙ ap (λ z. p (f z)) is)
any_found p f (y ∷ ys) (suc i) x lt is e =
    or_true (p (f y)) ∙ ap (λ b. p (f y) || b) (any_found p f ys i x (omega arith) is e)

-- ---- constants

-- whether a field of a message constant has a name with a dot before it
abbrev pub field_dotted : ConstantFieldSyntax → Bool
field_dotted f = is_dotted f.name || has_dotted f.value

any_listed : (cs : List ConstantSyntax) → list_any has_dotted cs ≡ any_dotted (constants cs)
any_listed [] = refl
any_listed (c ∷ cs) = ap (λ b. has_dotted c || b) (any_listed cs)

any_field_listed : (fs : List ConstantFieldSyntax)
    → list_any field_dotted fs ≡ any_field_dotted (constant_fields fs)
any_field_listed [] = refl
any_field_listed (f ∷ fs) = ap (λ b. field_dotted f || b) (any_field_listed fs)

pub dotted_list : (c : ProtobufConstant) (v : Vec ProtobufConstant Global) → c ≡ constant.List v
    → list_any has_dotted (map constant_syntax v.items) ≡ has_dotted (constant_syntax c)
dotted_list c v is = any_listed (map constant_syntax v.items)
    ∙ ap has_dotted (sym (ap constant_syntax is ∙ views_list v))

pub dotted_fields : (c : ProtobufConstant) (v : Vec ConstantField Global)
    → c ≡ constant.Message v
    → list_any field_dotted (map constant_field_syntax v.items) ≡ has_dotted (constant_syntax c)
dotted_fields c v is = any_field_listed (map constant_field_syntax v.items)
    ∙ ap has_dotted (sym (ap constant_syntax is ∙ views_fields v))

-- ---- groups

pub all_listed : (fs : List FieldStatementSyntax)
    → all_breaches (field_statements fs) ≡ flat_map statement_breaches fs
all_listed [] = refl
all_listed (f ∷ fs) = ap (λ bs. statement_breaches f ++ bs) (all_listed fs)

-- ---- messages

options_listed : (ss : List MessageStatementSyntax)
    → options_among (message_statements ss) ≡ flat_map option_in_message ss
options_listed [] = refl
options_listed (s ∷ ss) = ap (λ os. option_in_message s ++ os) (options_listed ss)

inside_listed : (ss : List MessageStatementSyntax)
    → all_inside (message_statements ss) ≡ flat_map inside_message ss
inside_listed [] = refl
inside_listed (s ∷ ss) = ap (λ bs. inside_message s ++ bs) (inside_listed ss)

-- a message: what is wrong with its options, and inside of it
pub message_breaches : (m : Message)
    → inside_message (nested_message (message_syntax m))
    ≡ own_breaches (flat_map option_in_message (map message_statement_syntax m.body.items))
    ++ flat_map inside_message (map message_statement_syntax m.body.items)
message_breaches m =
    ap (λ os. own_breaches os ++ all_inside (message_statements (message_syntax m).body))
    (options_listed (message_syntax m).body)
    ∙ ap (λ bs. own_breaches (flat_map option_in_message (message_syntax m).body) ++ bs)
    (inside_listed (message_syntax m).body)
    ∙ ap (λ (x : MessageSyntax). own_breaches (flat_map option_in_message x.body)
    ++ flat_map inside_message x.body) (view_parts m)
