-- The meeting of a path, by cases; and that reads are added behind those that there are.
use Rattle.std.proofs.Common.{◌≡◌, ℕ, zero, suc, ◌-◌, Bool, true, false, List, []}
use Rattle.std.proofs.Common.{◌∷◌, ◌++◌, Option, Some, None, refl, sym, ◌∙◌, length}
use Rattle.std.proofs.Common.{append_assoc, append-nil}
use Rattle.std.specs.Prelude.{nat_le, if◌then◌else◌}
use Rattle.protobuf_parse_syntax.specs.Dependencies.{imports}
use Rattle.protobuf_parse_syntax.specs.Trees.{FileSyntax, ImportSyntax}
use Rattle.protobuf_parse_model.specs.Descriptors.{Text}
use Rattle.protobuf_parse_run.specs.Walks.{Asked, FileRead, Input, Trees, among, asked_of, at}
use Rattle.protobuf_parse_run.specs.Walks.{input_name, named, the_reader, the_resolver}
use Rattle.protobuf_parse_load.specs.declared.known.Known.{Known}
use Rattle.protobuf_parse_load.specs.declared.known.Known.TheVariants.{Unreadable, Loaded}
use Rattle.protobuf_parse_load.specs.declared.loader.LoadFrame.{LoadFrame}
use Rattle.protobuf_parse_load.specs.Frames.{frame_path, imports_left, meets_at, meets_import}
use Rattle.protobuf_parse_load.specs.Frames.{unwinds}
use Rattle.protobuf_parse_load.specs.Steps.{AskedBy, At, back, by_import, by_input, closes, holds}
use Rattle.protobuf_parse_load.specs.Steps.{holds_known, is_cycle, is_too_long, is_unread, known}
use Rattle.protobuf_parse_load.specs.Steps.{loads}
use Rattle.protobuf_parse_load.specs.Steps.{meet, meets_each, meets_input, meets_known, meets_new}
use Rattle.protobuf_parse_load.specs.Steps.{misses, opens, tells, told, walks_input}

-- ** the meeting of a path, by cases

module _ (trees : Trees) (input : Text) (asked : Asked) where
  pub meet-cycle : (room : ℕ) (chain : List Text) (by : AskedBy) (p : Text) (a : At)
      → among p chain ≡ true
      → meet trees input asked room chain by p a ≡ tells (told by p is_cycle) a
  unfolding meet
  meet-cycle zero chain by p a on = rw on refl
  meet-cycle (suc room) chain by p a on = rw on refl

  pub meet-unread : (room : ℕ) (chain : List Text) (by : AskedBy) (p : Text) (a : At) (n : ℕ)
      → among p chain ≡ false → known p a.steps ≡ Some (Unreadable n)
      → meet trees input asked room chain by p a ≡ tells (told by p (is_unread n)) a
  unfolding meet
  meet-unread zero chain by p a n off is = rw (off, is) refl
  meet-unread (suc room) chain by p a n off is = rw (off, is) refl

  pub meet-loaded : (room : ℕ) (chain : List Text) (by : AskedBy) (p : Text) (a : At) (h : ℕ)
      → among p chain ≡ false → known p a.steps ≡ Some (Loaded h) → nat_le h room ≡ true
      → meet trees input asked room chain by p a ≡ back h a
  unfolding meet
  meet-loaded zero chain by p a h off is le = rw (off, is, le) refl
  meet-loaded (suc room) chain by p a h off is le = rw (off, is, le) refl

  pub meet-long : (room : ℕ) (chain : List Text) (by : AskedBy) (p : Text) (a : At) (h : ℕ)
      → among p chain ≡ false → known p a.steps ≡ Some (Loaded h) → nat_le h room ≡ false
      → meet trees input asked room chain by p a ≡ tells (told by p (is_too_long input)) a
  unfolding meet
  meet-long zero chain by p a h off is le = rw (off, is, le) refl
  meet-long (suc room) chain by p a h off is le = rw (off, is, le) refl

  pub meet-full : (chain : List Text) (by : AskedBy) (p : Text) (a : At) → among p chain ≡ false
      → known p a.steps ≡ None
      → meet trees input asked 0 chain by p a ≡ tells (told by p (is_too_long input)) a
  unfolding meet
  meet-full chain by p a off is = rw (off, is) refl

  pub meet-missed : (room : ℕ) (chain : List Text) (by : AskedBy) (p : Text) (a : At)
      → among p chain ≡ false → known p a.steps ≡ None → trees p ≡ None
      → meet trees input asked (suc room) chain by p a ≡ misses by asked p a
  unfolding meet
  meet-missed room chain by p a off is none = rw (off, is, none) refl

  pub meet-opened : (room : ℕ) (chain : List Text) (by : AskedBy) (p : Text) (a : At)
      (t : FileSyntax) → among p chain ≡ false → known p a.steps ≡ None → trees p ≡ Some t
      → meet trees input asked (suc room) chain by p a
      ≡ back a.height (closes p (meets_each (λ (i : ImportSyntax). meet trees input the_resolver
      room
      (chain ++ p ∷ []) (by_import p i.place) i.path) (imports t.statements) (opens by asked p a)))
  unfolding meet
  meet-opened room chain by p a t off is some = rw (off, is, some) refl

-- ** reads are added behind

-- the reads of the first are a beginning of the second's
abbrev pub Extends : List FileRead → At → Type 0
Extends old a = (more : List FileRead) × (a.reads ≡ old ++ more)

pub extends-same : (a : At) → Extends a.reads a
extends-same a = ([], sym (append-nil a.reads))

pub extends-trans : (old : List FileRead) (a b : At) → Extends old a → Extends a.reads b
    → Extends old b
extends-trans old a b x y = (x.0 ++ y.0, y.1 ∙ (rw x.1 (append_assoc old x.0 y.0)))

extends-if : (c : Bool) (old : List FileRead) (a b : At) → Extends old a → Extends old b
    → Extends old (if c then a else b)
extends-if true old a b x y = x
extends-if false old a b x y = y

pub extends-each : (f : ImportSyntax → At → At)
    → ((i : ImportSyntax) (a : At) → Extends a.reads (f i a)) → (is : List ImportSyntax) (a : At)
    → Extends a.reads (meets_each f is a)
extends-each f each [] a = extends-same a
extends-each f each (i ∷ is) a =
    extends-trans a.reads (f i a) (meets_each f is (f i a)) (each i a)
    (extends-each f each is (f i a))

extends-known : (room : ℕ) (input : Text) (by : AskedBy) (p : Text) (a : At) (k : Option Known)
    (new : At) → Extends a.reads new → Extends a.reads (meets_known room input by p a k new)
extends-known room input by p a None new x = x
extends-known room input by p a (Some (Unreadable n)) new x = extends-same a
extends-known room input by p a (Some (Loaded h)) new x =
    extends-if (nat_le h room) a.reads (back h a) (tells (told by p (is_too_long input)) a)
    (extends-same a) (extends-same a)

extends-new : (t : Option FileSyntax) (inside : List ImportSyntax → At → At) (by : AskedBy)
    (asked : Asked) (p : Text) (a : At)
    → ((is : List ImportSyntax) (b : At) → Extends b.reads (inside is b))
    → Extends a.reads (meets_new t inside by asked p a)
extends-new None inside by asked p a each = (record { asked = asked; path = p } ∷ [], refl)
extends-new (Some t) inside by asked p a each =
    let b : At = inside (imports t.statements) (opens by asked p a) in
    extends-trans a.reads (opens by asked p a) b (record { asked = asked; path = p } ∷ [], refl)
    (each (imports t.statements) (opens by asked p a))

pub extends-meet : (trees : Trees) (input : Text) (asked : Asked) (room : ℕ) (chain : List Text)
    (by : AskedBy) (p : Text) (a : At) → Extends a.reads (meet trees input asked room chain by p a)
unfolding meet
extends-meet trees input asked zero chain by p a =
    extends-if (among p chain) a.reads (tells (told by p is_cycle) a) _ (extends-same a)
    (extends-known 0 input by p a (known p a.steps) (tells (told by p (is_too_long input)) a)
    (extends-same a))
extends-meet trees input asked (suc room) chain by p a =
    let inside : List ImportSyntax → At → At = meets_each
    (λ (i : ImportSyntax). meet trees input the_resolver room (chain ++ p ∷ []) (by_import p
    i.place)
    i.path) in
    extends-if (among p chain) a.reads (tells (told by p is_cycle) a) _ (extends-same a)
    (extends-known (suc room) input by p a (known p a.steps)
    (meets_new (trees p) inside by asked p a)
    (extends-new (trees p) inside by asked p a (λ is b. extends-each
    (λ (i : ImportSyntax). meet trees input the_resolver room (chain ++ p ∷ []) (by_import p
    i.place)
    i.path)
    (λ i c. extends-meet trees input the_resolver room (chain ++ p ∷ []) (by_import p i.place)
    i.path
    c) is b)))

pub extends-at : (trees : Trees) (input : Text) (chain : List Text) (path : Text)
    (is : List ImportSyntax) (a : At) → Extends a.reads (meets_at trees input chain path is a)
extends-at trees input chain path is a =
    extends-each (meets_import trees input chain path)
    (λ i b. extends-meet trees input the_resolver (100 - length chain) chain (by_import path
    i.place)
    i.path b) is a

pub extends-unwinds : (trees : Trees) (input : Text) (chain : List Text) (fs : List LoadFrame)
    (b : At) → Extends b.reads (unwinds trees input chain fs b)
extends-unwinds trees input chain [] b = extends-same b
extends-unwinds trees input chain (f ∷ fs) b =
    let inner : At = unwinds trees input (chain ++ frame_path f ∷ []) fs b in
    extends-trans b.reads inner (unwinds trees input chain (f ∷ fs) b)
    (extends-unwinds trees input (chain ++ frame_path f ∷ []) fs b)
    (extends-at trees input (chain ++ frame_path f ∷ []) (frame_path f) (imports_left f)
    (back f.height inner))

extends-held : (n : ℕ) (p own : Text) (a : At) (k : Option Known)
    → Extends a.reads (holds_known n p own a k)
extends-held n p own a None = extends-same a
extends-held n p own a (Some (Unreadable m)) = extends-same a
extends-held n p own a (Some (Loaded h)) = (record { asked = the_reader own; path = p } ∷ [], refl)

pub extends-holds : (n : ℕ) (i : Input) (a : At) → Extends a.reads (holds n i a)
extends-holds n (named p) a = extends-same a
extends-holds n (at p own) a = extends-held n p own a (known p a.steps)

pub extends-walks : (trees : Trees) (n : ℕ) (i : Input) (a : At)
    → Extends a.reads (walks_input trees n i a)
extends-walks trees n i a =
    extends-meet trees (input_name i) (asked_of i) 100 [] (by_input n) (input_name i) a

pub extends-input : (trees : Trees) (n : ℕ) (i : Input) (a : At)
    → Extends a.reads (meets_input trees n i a)
extends-input trees n i a =
    extends-trans a.reads (holds n i a) (meets_input trees n i a) (extends-holds n i a)
    (extends-walks trees n i (holds n i a))

pub extends-loads : (trees : Trees) (n : ℕ) (inputs : List Input) (a : At)
    → Extends a.reads (loads trees n inputs a)
extends-loads trees n [] a = extends-same a
extends-loads trees n (i ∷ inputs) a =
    extends-trans a.reads (meets_input trees n i a) (loads trees (suc n) inputs
    (meets_input trees n i a)) (extends-input trees n i a)
    (extends-loads trees (suc n) inputs (meets_input trees n i a))
