-- Which oneofs of a message are written: those of `oneof`s, and none that a field is alone in.
use Rattle.std.proofs.Common.{◌≡◌, ℕ, ◌+◌, ◌<◌, ◌≤◌, Bool, true, false, ◌&&◌, ◌||◌, List, [], ◌∷◌}
use Rattle.std.proofs.Common.{◌++◌, map, flat_map, length, None, refl, arith}
use Rattle.std.proofs.Common.{add-zero, append_assoc, ap, eq-eqb, ne_eqb, subst, sym, ◌∙◌}
use Rattle.std.specs.Prelude.{if◌then◌else◌, ◌==◌}
use Rattle.std.specs.List.{AllByRecursion}
use Rattle.std.proofs.lemmas.List.Folds.{list_any-append}
use Rattle.protobuf_parse_syntax.specs.Trees.{FieldStatementSyntax, FieldSyntax}
use Rattle.protobuf_parse_syntax.specs.Trees.{MessageStatementSyntax, OneofSyntax, field, group}
use Rattle.protobuf_parse_syntax.specs.Trees.{message_field, message_oneof}
use Rattle.protobuf_parse_syntax.specs.declared.tree.Syntax.{Syntax}
use Rattle.protobuf_parse_syntax.specs.declared.tree.Syntax.TheVariants.{Proto2, Proto3}
use Rattle.protobuf_parse_model.specs.Descriptors.{FieldDescriptor, OneofDescriptor}
use Rattle.protobuf_parse_model.specs.Environment.{Environment}
use Rattle.protobuf_parse_model.specs.Statements.{is_map, oneof_fields}
use Rattle.protobuf_parse_elaboration.specs.Fields.{FieldOwner, field_statement_of, of_message}
use Rattle.protobuf_parse_elaboration.specs.Fields.{says_optional}
use Rattle.protobuf_parse_elaboration.specs.Messages.{at_oneof, fields_from, fields_of}
use Rattle.protobuf_parse_elaboration.specs.Messages.{has_own_oneof, oneof_of, oneofs_of, own_oneof}
use Rattle.protobuf_parse_locations.specs.Declarations.{is_index, is_synthetic, written}
use Rattle.protobuf_parse_location_laws.specs.Standing.{HasNoLabel, InStatement, NoLabelIfMap}
use Rattle.protobuf_parse_location_laws.proofs.Standing.{MayStand}

-- the oneof that a statement of a text has
abbrev pub written_of : Environment → MessageStatementSyntax → List OneofDescriptor
written_of env (message_oneof o) = oneof_of env o ∷ []
written_of env _ = []

-- whether the field makes the oneof of that index synthetic
abbrev makes_synthetic : ℕ → FieldDescriptor → Bool
makes_synthetic k f = f.proto3_optional && is_index k f.oneof_index

-- ---- fields

and_false : (b : Bool) → (b && false) ≡ false
and_false true = refl
and_false false = refl

or_true : (b : Bool) → (b || true) ≡ true
or_true true = refl
or_true false = refl

-- A field in another oneof doesn't.
in_another : (env : Environment) (k j : ℕ) (f : FieldStatementSyntax) → (k == j) ≡ false
    → makes_synthetic j (field_statement_of env (at_oneof k) f) ≡ false
in_another env k j (field f) e = rw e (and_false _)
in_another env k j (group place l name number fields) e = rw e (and_false _)

-- One in no oneof doesn't.
in_none : (env : Environment) (j : ℕ) (f : FieldStatementSyntax)
    → makes_synthetic j (field_statement_of env of_message f) ≡ false
in_none env j (field f) = and_false _
in_none env j (group place l name number fields) = and_false _

says_none : (s : Syntax) → says_optional s None ≡ false
says_none Proto2 = refl
says_none Proto3 = refl

none_if_map : (b : Bool) → (if b then false else false) ≡ false
none_if_map true = refl
none_if_map false = refl

-- One without a label doesn't.
without_label : (env : Environment) (own : FieldOwner) (j : ℕ) (f : FieldStatementSyntax)
    → HasNoLabel f → makes_synthetic j (field_statement_of env own f) ≡ false
without_label env own j (field f) e =
    rw (e, says_none env.syntax, none_if_map (is_map f.type_)) refl
without_label env own j (group place l name number fields) e = rw (e, says_none env.syntax) refl

optional_no_map : (env : Environment) (f : FieldSyntax) (b : Bool) → is_map f.type_ ≡ b
    → NoLabelIfMap (field f) → says_optional env.syntax f.label ≡ true
    → (if is_map f.type_ then false else says_optional env.syntax f.label) ≡ true
optional_no_map env f true m no_label e =
    let l = no_label m in
    let none = says_none env.syntax in
    let same = rw l at e in
    absurd (cc)
optional_no_map env f false m no_label e = rw (m, e) refl

-- One with a oneof of its own does.
in_its_own : (env : Environment) (k : ℕ) (f : FieldStatementSyntax) → NoLabelIfMap f
    → has_own_oneof env f ≡ true
    → makes_synthetic k (field_statement_of env (at_oneof k) f) ≡ true
in_its_own env k (field f) no_label e =
    rw (optional_no_map env f (is_map f.type_) refl no_label e, eq-eqb k k refl) refl
in_its_own env k (group place l name number fields) no_label e =
    rw (e, eq-eqb k k refl) refl

-- ---- lists of fields

-- No field of these makes the oneof of that index synthetic.
record IsClear (k : ℕ) (fs : List FieldDescriptor) : Type 0 where
  clear : is_synthetic fs k ≡ false

no_field_clear : (k : ℕ) → IsClear k []
no_field_clear k = record { clear = refl }

field_clear : (k : ℕ) (f : FieldDescriptor) (fs : List FieldDescriptor)
    → makes_synthetic k f ≡ false → IsClear k fs → IsClear k (f ∷ fs)
field_clear k f fs e c = record { clear = rw (e, c.clear) refl }

both_clear : (k : ℕ) (fs gs : List FieldDescriptor) → IsClear k fs → IsClear k gs
    → IsClear k (fs ++ gs)
both_clear k fs gs c d = record {
  clear = rw (list_any-append (makes_synthetic k) fs gs, c.clear, d.clear) refl;
}

-- A field behind these makes it so.
not_clear : (k : ℕ) (fs : List FieldDescriptor) (f : FieldDescriptor) (gs : List FieldDescriptor)
    → makes_synthetic k f ≡ true → is_synthetic (fs ++ (f ∷ gs)) k ≡ true
not_clear k fs f gs e = rw (list_any-append (makes_synthetic k) fs (f ∷ gs), e, or_true _) refl

others_clear : (env : Environment) (k j : ℕ) (fs : List FieldStatementSyntax) → (k == j) ≡ false
    → IsClear j (map (field_statement_of env (at_oneof k)) fs)
others_clear env k j [] e = no_field_clear j
others_clear env k j (f ∷ fs) e =
    field_clear j _ _ (in_another env k j f e) (others_clear env k j fs e)

labelless_clear : (env : Environment) (own : FieldOwner) (j : ℕ) (fs : List FieldStatementSyntax)
    → AllByRecursion HasNoLabel fs → IsClear j (map (field_statement_of env own) fs)
labelless_clear env own j [] none = no_field_clear j
labelless_clear env own j (f ∷ fs) none =
    field_clear j _ _ (without_label env own j f none.0)
    (labelless_clear env own j fs none.1)

own_clear : (env : Environment) (k j : ℕ) (b : Bool) (f : FieldStatementSyntax) → (k == j) ≡ false
    → IsClear j (field_statement_of env (if b then at_oneof k else of_message) f ∷ [])
own_clear env k j true f e = field_clear j _ [] (in_another env k j f e) (no_field_clear j)
own_clear env k j false f e = field_clear j _ [] (in_none env j f) (no_field_clear j)

-- The fields of a statement make no oneof synthetic but one that the statement declares.
statement_clear : (env : Environment) (k j : ℕ) (s : MessageStatementSyntax) → (k == j) ≡ false
    → IsClear j (fields_of env k s)
statement_clear env k j (message_field f) e = own_clear env k j (has_own_oneof env f) f e
statement_clear env k j (message_oneof o) e =
    others_clear env k j (flat_map oneof_fields o.body) e
statement_clear env k j _ e = no_field_clear j

before_clear : (env : Environment) (k j : ℕ) (ss : List MessageStatementSyntax) → j < k
    → IsClear j (fields_from env k ss)
before_clear env k j [] lt = no_field_clear j
before_clear env k j (s ∷ ss) lt =
    both_clear j (fields_of env k s) _ (statement_clear env k j s (ne_eqb k j (λ e. omega arith)))
    (before_clear env (k + length (oneofs_of env s)) j ss (omega arith))

-- ---- oneofs

-- The fields before a statement make no oneof synthetic from that index on.
record AreBehind (k : ℕ) (fs : List FieldDescriptor) : Type 0 where
  clear : (j : ℕ) → k ≤ j → IsClear j fs

-- what is written, where these fields stand before
abbrev WrittenBehind : Environment → ℕ → List FieldDescriptor → List MessageStatementSyntax → Type 0
WrittenBehind env k before ss =
    written (before ++ fields_from env k ss) k (flat_map (oneofs_of env) ss)
    ≡ flat_map (written_of env) ss

skipped : (fs : List FieldDescriptor) (k : ℕ) (o : OneofDescriptor) (os : List OneofDescriptor)
    → is_synthetic fs k ≡ true → written fs k (o ∷ os) ≡ written fs (k + 1) os
skipped fs k o os e = rw e refl

kept : (fs : List FieldDescriptor) (k : ℕ) (o : OneofDescriptor) (os : List OneofDescriptor)
    → is_synthetic fs k ≡ false → written fs k (o ∷ os) ≡ o ∷ written fs (k + 1) os
kept fs k o os e = rw e refl

-- what is written of the rest, wherever it stands
abbrev Rest : Environment → List MessageStatementSyntax → Type 0
Rest env ss = (k : ℕ) (before : List FieldDescriptor) → AreBehind k before
    → WrittenBehind env k before ss

regrouped : (k : ℕ) (before fs rest : List FieldDescriptor) (os ws : List OneofDescriptor)
    → written ((before ++ fs) ++ rest) k os ≡ ws → written (before ++ (fs ++ rest)) k os ≡ ws
regrouped k before fs rest os ws e =
    subst (λ z. written z k os ≡ ws) (append_assoc before fs rest) e

behind_one_more : (env : Environment) (k : ℕ) (before : List FieldDescriptor)
    (s : MessageStatementSyntax) → AreBehind k before
    → AreBehind (k + 1) (before ++ fields_of env k s)
behind_one_more env k before s c = record {
  clear = λ j le. both_clear j before _ (c.clear j (omega arith))
      (statement_clear env k j s (ne_eqb k j (λ e. omega arith)));
}

module _ (env : Environment) (ss : List MessageStatementSyntax) (rest : Rest env ss) (k : ℕ)
    (before : List FieldDescriptor) (c : AreBehind k before) where
  oneof_written : (o : OneofSyntax) → AllByRecursion HasNoLabel (flat_map oneof_fields o.body)
      → WrittenBehind env k before (message_oneof o ∷ ss)
  oneof_written o none =
      let fs = fields_of env k (message_oneof o) in
      let more = fields_from env (k + 1) ss in
      kept (before ++ (fs ++ more)) k (oneof_of env o) (flat_map (oneofs_of env) ss)
      (both_clear k before (fs ++ more) (c.clear k (omega arith))
      (both_clear k fs more (labelless_clear env (at_oneof k) k (flat_map oneof_fields o.body) none)
      (before_clear env (k + 1) k ss (omega arith)))).clear
      ∙ ap (λ (os : List OneofDescriptor). oneof_of env o ∷ os)
      (regrouped (k + 1) before fs more (flat_map (oneofs_of env) ss) _
      (rest (k + 1) (before ++ fs) (behind_one_more env k before (message_oneof o) c)))

  nothing_written : (fs : List FieldDescriptor) → ((j : ℕ) → IsClear j fs)
      → written (before ++ (fs ++ fields_from env (k + 0) ss)) k (flat_map (oneofs_of env) ss)
      ≡ flat_map (written_of env) ss
  nothing_written fs none =
      let os = flat_map (oneofs_of env) ss in
      let ws = flat_map (written_of env) ss in
      subst (λ z. written (before ++ (fs ++ fields_from env z ss)) k os ≡ ws) (sym (add-zero k))
      (regrouped k before fs (fields_from env k ss) os ws
      (rest k (before ++ fs) (record {
        clear = λ j le. both_clear j before fs (c.clear j le) (none j);
      })))

  field_written : (f : FieldStatementSyntax) (b : Bool) → NoLabelIfMap f
      → has_own_oneof env f ≡ b
      → written (before ++ ((field_statement_of env (if b then at_oneof k else of_message) f ∷ [])
      ++ fields_from env (k + length (if b then own_oneof f ∷ [] else [])) ss)) k
      ((if b then own_oneof f ∷ [] else []) ++ flat_map (oneofs_of env) ss)
      ≡ flat_map (written_of env) ss
  field_written f true no_label e =
      let fs : List FieldDescriptor = field_statement_of env (at_oneof k) f ∷ [] in
      let more = fields_from env (k + 1) ss in
      skipped (before ++ (fs ++ more)) k (own_oneof f) (flat_map (oneofs_of env) ss)
      (not_clear k before (field_statement_of env (at_oneof k) f) more
      (in_its_own env k f no_label e))
      ∙ regrouped (k + 1) before fs more (flat_map (oneofs_of env) ss) _
      (rest (k + 1) (before ++ fs) (record {
        clear = λ j le. both_clear j before fs (c.clear j (omega arith))
            (own_clear env k j true f (ne_eqb k j (λ q. omega arith)));
      }))
  field_written f false no_label e =
      nothing_written (field_statement_of env of_message f ∷ [])
      (λ j. field_clear j _ [] (in_none env j f) (no_field_clear j))

written_in : (env : Environment) (ss : List MessageStatementSyntax)
    → AllByRecursion (InStatement MayStand) ss → Rest env ss
written_in env [] may k before c = refl
written_in env (message_oneof o ∷ ss) may k before c =
    oneof_written env ss (written_in env ss may.1) k before c o may.0.1
written_in env (message_field f ∷ ss) may k before c =
    field_written env ss (written_in env ss may.1) k before c f (has_own_oneof env f) may.0.0 refl
written_in env (s ∷ ss) may k before c =
    nothing_written env ss (written_in env ss may.1) k before c [] (λ j. no_field_clear j)

-- The oneofs of a message that a text has are those of its `oneof`s.
pub written_oneofs : (env : Environment) (ss : List MessageStatementSyntax)
    → AllByRecursion (InStatement MayStand) ss
    → written (fields_from env 0 ss) 0 (flat_map (oneofs_of env) ss) ≡ flat_map (written_of env) ss
written_oneofs env ss may =
    written_in env ss may 0 [] (record { clear = λ j le. no_field_clear j })
