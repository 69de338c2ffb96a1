-- What is spelled is read.
use Rattle.std.proofs.Common.{◌≡◌, ℕ, pos, zero, suc, ◌+◌, ◌*◌, ◌/◌, ◌%◌, ◌^◌, ◌<◌, ◌≤◌, Bool, true}
use Rattle.std.proofs.Common.{false, List, [], ◌∷◌, ◌++◌, get_or, length, Option, Some, Ok, refl}
use Rattle.std.proofs.Common.{option_map, sym, ap, subst, ◌∙◌, length-append, arith}
use Rattle.std.specs.Prelude.{not, ◌&&◌, ◌||◌}
use Rattle.std.specs.List.{list_any}
use Rattle.std.specs.Ordering.{int_eq}
use Rattle.std.proofs.lemmas.Cmp.{int_eq_equiv}
use Rattle.protobuf_parse_model.specs.declared.descriptor.FieldType.{FieldType}
use Rattle.protobuf_parse_model.specs.declared.descriptor.FieldType.TheVariants as types
use Rattle.protobuf_parse_model.specs.Descriptors.{Text, FileDescriptor, FieldDescriptor}
use Rattle.protobuf_parse_wire.specs.declared.kind.Kind.{Kind}
use Rattle.protobuf_parse_wire.specs.Kinds.{shape_of_type, shape_of_kind, wire_type}
use Rattle.protobuf_parse_wire.specs.Kinds.{kind_of_field_type}
use Rattle.protobuf_parse_wire.specs.Trees as trees
use Rattle.protobuf_parse_wire.specs.Trees.{EntryTree, Entries, ValueTree, Field}
use Rattle.protobuf_parse_wire.specs.Trees.{no_entries, entry}
use Rattle.protobuf_parse_wire.specs.Wire.{IsVarint, Spells, Says}
use Rattle.protobuf_parse_wire.specs.Declarations.{extensions_extending, field_numbered}
use Rattle.protobuf_parse_wire.specs.Declarations.{have_distinct_numbers}
use Rattle.protobuf_parse_wire.specs.Reading.{Inner, FieldsByNumber, payload_at, record_at, records}
use Rattle.protobuf_parse_wire.specs.Reading.{message_at, entered}
use Rattle.protobuf_parse_wire.specs.Law.{said, value_said, depth, value_depth, Enters, Suit}
use Rattle.protobuf_parse_wire.specs.Law.{ValueSuits, SpelledIsRead}
use Rattle.protobuf_parse_wire.proofs.Varint.{varint_again}
use Rattle.protobuf_parse_wire.proofs.Back.{number_again, truth_again, bytes_again, inside_again}
use Rattle.protobuf_parse_wire.proofs.Levels.{value_is}
use Rattle.protobuf_parse_wire.proofs.Records.{small_wire}

-- ---- the field that a number names

none_passes : (p : FieldDescriptor → Bool) (fs : List FieldDescriptor) (f : FieldDescriptor) (j : ℕ)
    → not (list_any p fs) ≡ true → j < length fs → get_or fs j f ≡ f → p f ≡ false
none_passes p [] f j none lt is = absurd (omega arith)
none_passes p (g ∷ fs) f zero none lt is =
    subst (λ (x : FieldDescriptor). p x ≡ false) is (first (p g) (list_any p fs) none)
  where
    first : (a b : Bool) → not (a || b) ≡ true → a ≡ false
    first true b h = absurd (cc)
    first false b h = refl
none_passes p (g ∷ fs) f (suc j) none lt is =
    none_passes p fs f j (others (p g) (list_any p fs) none) (omega arith) is
  where
    others : (a b : Bool) → not (a || b) ≡ true → not b ≡ true
    others true b h = absurd (cc)
    others false b h = h

field_is : (fs : List FieldDescriptor) (f : FieldDescriptor) (n : ℕ) (j : ℕ)
    → have_distinct_numbers fs ≡ true → j < length fs → get_or fs j f ≡ f → f.number ≡ pos n
    → field_numbered fs n ≡ Some f
field_is [] f n j distinct lt is number = absurd (omega arith)
field_is (g ∷ fs) f n zero distinct lt is number =
    let same : int_eq (pos n) g.number
    ≡ true = ap (λ (x : FieldDescriptor). int_eq (pos n) x.number) is
    ∙ ap (int_eq (pos n)) number ∙ int_eq_equiv.refl (pos n) in
    rw same (ap (λ (x : FieldDescriptor). Some x) is)
field_is (g ∷ fs) f n (suc j) distinct lt is number =
    let parts = both (not (list_any (λ other. int_eq g.number other.number) fs))
    (have_distinct_numbers fs) distinct in
    let apart : int_eq g.number f.number
    ≡ false = none_passes (λ other. int_eq g.number other.number) fs f j parts.0
    (omega arith) is in
    let other : int_eq (pos n) g.number ≡ false = int_eq_equiv.symm (pos n) g.number
    ∙ ap (int_eq g.number) (sym number) ∙ apart in
    rw other (field_is fs f n j parts.1 (omega arith) is number)
  where
    both : (a b : Bool) → (a && b) ≡ true → (a ≡ true) × (b ≡ true)
    both true b e = (refl, e)
    both false b e = absurd (cc)

entered_ok : (files : List FileDescriptor) (name : Text) (P : List FieldDescriptor → Type 0)
    (e : Enters files name P)
    → entered files (Some name)
    ≡ Ok (field_numbered (e.parts.field ++ extensions_extending files name))
entered_ok files name P e = rw (e.once, e.distinct) refl

-- ---- records

-- A kind is written as values of its type are read.
shape_is : (t : FieldType) (k : Kind) → kind_of_field_type t ≡ Some k
    → shape_of_type t ≡ Some (shape_of_kind k)
shape_is t k is = each t ∙ ap (option_map shape_of_kind) is
  where
    each : (u : FieldType) → shape_of_type u ≡ option_map shape_of_kind (kind_of_field_type u)
    each types.Int32 = refl
    each types.Int64 = refl
    each types.Uint32 = refl
    each types.Uint64 = refl
    each types.Sint32 = refl
    each types.Sint64 = refl
    each types.Fixed32 = refl
    each types.Sfixed32 = refl
    each types.Fixed64 = refl
    each types.Sfixed64 = refl
    each types.Bool = refl
    each types.String = refl
    each types.Bytes = refl
    each types.Enum = refl
    each types.Message = refl
    each types.Float = refl
    each types.Double = refl
    each types.Group = refl

record_again : (inner : Inner) (numbers : FieldsByNumber) (n : ℕ) (k : Kind) (f : FieldDescriptor)
    (v : ValueTree) (tag payload more : List ℕ) → numbers n ≡ Some f
    → kind_of_field_type f.type_ ≡ Some k
    → n < 2 ^ 31 → IsVarint tag (n * 8 + wire_type (shape_of_kind k))
    → payload_at inner f.type_name (shape_of_kind k) (payload ++ more) ≡ Ok (v, more)
    → record_at inner numbers (tag ++ (payload ++ more))
    ≡ Ok (record { number = n; value = v }, more)
unfolding record_at
record_again inner numbers n k f v tag payload more is kind lt spelled e =
    let small : wire_type (shape_of_kind k) < 8 = small_wire (shape_of_kind k) in
    let t = n * 8 + wire_type (shape_of_kind k) in
    let high : t / 8 ≡ n = omega arith in
    let low : t % 8 ≡ wire_type (shape_of_kind k) = omega arith in
    rw (
      varint_again tag t (payload ++ more) (omega arith) spelled,
      high,
      low,
      value_is inner (numbers n) f (shape_of_kind k) (wire_type (shape_of_kind k))
          (payload ++ more) is (shape_is f.type_ k kind) refl,
      e,
    ) refl

records_step : (inner : Inner) (numbers : FieldsByNumber) (n : ℕ) (bs : List ℕ) (f : Field)
    (rest : List ℕ)
    (others : List Field) → length bs ≤ n → 0 < length bs → length rest < length bs
    → record_at inner numbers bs ≡ Ok (f, rest)
    → ((n' : ℕ) → length rest ≤ n' → records inner numbers n' rest ≡ Ok others)
    → records inner numbers n bs ≡ Ok (f ∷ others)
unfolding records
records_step inner numbers n [] f rest others le some less e others_are = absurd (omega arith)
records_step inner numbers zero (b ∷ bs) f rest others le some less e others_are =
    absurd (omega arith)
records_step inner numbers (suc n) (b ∷ bs) f rest others le some less e others_are =
    rw (e, others_are n (omega arith)) refl

some_tag : (tag : List ℕ) (u : ℕ) → IsVarint tag u → 0 < length tag
some_tag [] u h = absurd h.chain
some_tag (b ∷ bs) u h = omega arith

depth_some : (es : Entries) → 0 < depth es
depth_some no_entries = omega arith
depth_some (entry n k v others) = let h = depth_some others in omega arith

-- a message that is read at each number of levels at which its records are
message_again : (files : List FileDescriptor) (levels : ℕ) (name : Text) (es : Entries)
    (bs : List ℕ) (e : Enters files name (λ fields. Suit files fields es)) → depth es ≤ levels
    → ((l : ℕ) → depth es ≤ suc l
    → records (message_at (entered files) l)
    (field_numbered (e.parts.field ++ extensions_extending files name)) (length bs) bs
    ≡ Ok (said es))
    → message_at (entered files) levels (Some name) bs ≡ Ok (said es)
unfolding message_at
message_again files zero name es bs e deep all = let some = depth_some es in absurd (omega arith)
message_again files (suc l) name es bs e deep all = rw (entered_ok files name _ e) (all l deep)

mutual
  unfolding records

  all_again : (files : List FileDescriptor) (levels : ℕ) (fields : List FieldDescriptor)
      (es : Entries) (bs : List ℕ) (n : ℕ) → length bs ≤ n → length bs < 2 ^ 64
      → have_distinct_numbers fields ≡ true → Suit files fields es → depth es ≤ suc levels
      → Spells es bs
      → records (message_at (entered files) levels) (field_numbered fields) n bs ≡ Ok (said es)
  all_again files levels fields no_entries bs n le lt distinct suits deep spelled = rw spelled refl
  all_again files levels fields (entry i k v others) bs n le lt distinct suits deep spelled =
      let inner = message_at (entered files) levels in
      let tag = spelled.0 in
      let payload = spelled.1 in
      let more = spelled.2 in
      let parts : bs ≡ tag ++ (payload ++ more) = spelled.3 in
      let some = some_tag tag _ spelled.4 in
      let len : length bs ≡ length tag + (length payload + length more) = ap length parts
      ∙ simp length-append in
      let f = suits.0 in
      let is : field_numbered fields i
      ≡ Some f =
      field_is fields f i suits.1.declared.0 distinct suits.1.declared.1 suits.1.declared.2
      suits.1.number in
      let one = payload_again files levels f k v payload more (omega arith) suits.2
      (omega arith) spelled.5 in
      let e : record_at inner (field_numbered fields) bs
      ≡ Ok (record { number = i; value = value_said v }, more) =
      ap (record_at inner (field_numbered fields)) parts
      ∙ record_again inner (field_numbered fields) i k f
      (value_said v) tag payload more is suits.1.kind suits.1.small spelled.4 one in
      records_step inner (field_numbered fields) n bs _ more (said others) le (omega arith)
      (omega arith) e
      (λ n' le'. all_again files levels fields others more n' le' (omega arith) distinct suits.3
      (omega arith) spelled.6)

  payload_again : (files : List FileDescriptor) (levels : ℕ) (f : FieldDescriptor) (k : Kind)
      (v : EntryTree) (bs rest : List ℕ) → length bs < 2 ^ 64
      → ValueSuits files f (shape_of_kind k) v
      → value_depth v ≤ levels → Says (shape_of_kind k) v bs
      → payload_at (message_at (entered files) levels) f.type_name (shape_of_kind k) (bs ++ rest)
      ≡ Ok (value_said v, rest)
  payload_again files levels f k (trees.number v) bs rest lt suits deep says =
      number_again (message_at (entered files) levels) f.type_name k v bs rest says suits
  payload_again files levels f k (trees.truth b) bs rest lt suits deep says =
      truth_again (message_at (entered files) levels) f.type_name (shape_of_kind k) b bs rest says
  payload_again files levels f k (trees.bytes inside) bs rest lt suits deep says =
      let len : length bs ≡ length says.1.front + length inside = ap length says.1.parts
      ∙ simp length-append in
      bytes_again (message_at (entered files) levels) f.type_name (shape_of_kind k) inside bs rest
      (omega arith) says.0 suits says.1
  payload_again files levels f k (trees.message es) bs rest lt suits deep says =
      let inside = says.0 in
      let len : length bs ≡ length says.2.front + length inside = ap length says.2.parts
      ∙ simp length-append in
      let enters = suits.2 in
      let e = message_again files levels suits.0 es inside enters deep
      (λ l deep'. all_again files l
      (enters.parts.field ++ extensions_extending files suits.0) es inside (length inside)
      (omega arith) (omega arith) enters.distinct enters.inside deep' says.3) in
      inside_again (message_at (entered files) levels) f.type_name (shape_of_kind k) inside bs rest
      (said es) (omega arith) says.1 says.2
      (ap (λ (name : Option Text). message_at (entered files) levels name inside) suits.1 ∙ e)

pub spelled_is_read : SpelledIsRead
spelled_is_read files name es bs lt enters deep spelled =
    message_again files 256 name es bs enters deep
    (λ l deep'. all_again files l (enters.parts.field ++ extensions_extending files name) es bs
    (length bs)
    (omega arith) lt enters.distinct enters.inside deep' spelled)
