-- Functions that tell one fault after another.
use Rattle.std.proofs.Common.{◌≡◌, ◌∙◌, ℕ, List, [], ◌∷◌, ◌++◌, Option, None, Some, ap, inl}
use Rattle.std.proofs.Common.{append-nil, get_or, inr, length, map, subst, sym, take, ◌+◌}
use Rattle.std.proofs.Common.{◌<◌, true, false, nat_lt}
use Rattle.std.specs.Prelude.{flat_map, slice_get, string_bytes}
use Rattle.std.proofs.lemmas.Grind.{flat_map-append}
use Rattle.std.proofs.lemmas.Bool.{ltb-true}
use Rattle.std.proofs.lemmas.List.{append_assoc, map-append, take_more}
use Rattle.std.proofs.lemmas.Option.{slice_get-get_or}
use Rattle.protobuf_parse_load.specs.declared.log.UnreadFile.{UnreadFile}
use Rattle.protobuf_parse_check.specs.declared.report.FileReport.{FileReport}
use Rattle.protobuf_parse_check.specs.declared.report.InputFault.{InputFault}
use Rattle.protobuf_parse_diagnostics.specs.declared.diagnostic.Diagnostic.{Diagnostic}
use Rattle.protobuf_parse_diagnostics.specs.declared.sources.Sources.{Sources}
use Rattle.protobuf_parse_diagnostics.specs.Codes.{run_code_of}
use Rattle.protobuf_parse_diagnostics.specs.Told.{clash_line, file_line, is_reading}
use Rattle.protobuf_parse_diagnostics.specs.Told.{is_told_where_asked, meaning_line, missing_lines}
use Rattle.protobuf_parse_diagnostics.specs.Told.{origin_in, report_lines, unread_lines}
use Rattle.protobuf_parse_diagnostics.specs.Told.{AreTold, IsAt, IsOfCode, IsTold, KeepsLine, Line, Spot}
use Rattle.protobuf_parse_diagnostics.specs.Telling.{Tells}

-- ---- lists of lines

are_told_append : (a b : List Line) (x y : List Diagnostic) → AreTold a x → AreTold b y
    → AreTold (a ++ b) (x ++ y)
are_told_append [] b [] y h k = k
are_told_append [] b (d ∷ ds) y h k = absurd h
are_told_append (l ∷ ls) b [] y h k = absurd h
are_told_append (l ∷ ls) b (d ∷ ds) y h k = (h.0, are_told_append ls b ds y h.1 k)

-- nothing is told
pub tells_nothing : (old : List Diagnostic) → Tells [] old old
tells_nothing old = record { more = []; added = sym (append-nil old); told = tt }

-- one line
pub tells_one : (l : Line) (d : Diagnostic) (old new : List Diagnostic) → IsTold l d
    → new ≡ old ++ d ∷ [] → Tells (l ∷ []) old new
tells_one l d old new h is = record { more = d ∷ []; added = is; told = (h, tt) }

-- some lines, and then others
pub tells_more : (a b : List Line) (old mid new : List Diagnostic) → Tells a old mid
    → Tells b mid new → Tells (a ++ b) old new
tells_more a b old mid new h k = record {
  more = h.more ++ k.more;
  added = k.added ∙ ap (λ z. z ++ k.more) h.added ∙ append_assoc old h.more k.more;
  told = are_told_append a b h.more k.more h.told k.told;
}

-- all lines, where nothing was told before
pub all_told : (ls : List Line) (new : List Diagnostic) → Tells ls [] new → AreTold ls new
all_told ls new h = subst (λ (z : List Diagnostic). AreTold ls z) (sym h.added) h.told

-- all lines of a check, where nothing was told before
pub check_told : (a b c d : List Line) (none x y z all : List Diagnostic) → none ≡ []
    → Tells a none x → Tells b x y → Tells c y z → Tells d z all → AreTold (a ++ (b ++ (c ++ d))) all
check_told a b c d none x y z all is h i j k =
    all_told (a ++ (b ++ (c ++ d))) all (subst (λ (o : List Diagnostic).
    Tells (a ++ (b ++ (c ++ d))) o all) is (tells_more a (b ++ (c ++ d)) none x all h
    (tells_more b (c ++ d) x y all i (tells_more c d y z all j k))))

-- ---- loops

-- the lines of one more of these
pub tells_next : {X : Type 0} (f : X → List Line) (xs : List X) (i : ℕ) (x : X)
    (old mid new : List Diagnostic) → i < length xs → x ≡ get_or xs i x
    → Tells (flat_map f (take i xs)) old mid → Tells (f x) mid new
    → Tells (flat_map f (take (i + 1) xs)) old new
tells_next f xs i x old mid new lt is h k =
    subst (λ (ls : List Line). Tells ls old new) (sym seam)
    (tells_more (flat_map f (take i xs)) (f x) old mid new h k)
  where
    seam : flat_map f (take (i + 1) xs) ≡ flat_map f (take i xs) ++ f x
    seam = ap (flat_map f) (take_more xs i x lt ∙ ap (λ y. take i xs ++ y ∷ []) (sym is))
        ∙ flat_map-append f (take i xs) (x ∷ [])
        ∙ ap (λ ls. flat_map f (take i xs) ++ ls) (append-nil (f x))

-- the line of one more of these
pub tells_another : {X : Type 0} (f : X → Line) (xs : List X) (i : ℕ) (x : X)
    (old mid new : List Diagnostic) (d : Diagnostic) → i < length xs → x ≡ get_or xs i x
    → Tells (map f (take i xs)) old mid → IsTold (f x) d → new ≡ mid ++ d ∷ []
    → Tells (map f (take (i + 1) xs)) old new
tells_another f xs i x old mid new d lt is h told added =
    subst (λ (ls : List Line). Tells ls old new) (sym seam)
    (tells_more (map f (take i xs)) (f x ∷ []) old mid new h (tells_one (f x) d mid new told added))
  where
    seam : map f (take (i + 1) xs) ≡ map f (take i xs) ++ f x ∷ []
    seam = ap (map f) (take_more xs i x lt ∙ ap (λ y. take i xs ++ y ∷ []) (sym is))
        ∙ map-append f (take i xs) (x ∷ [])

-- ---- one line

-- a line stays the same where only its words change
pub line_kept : (l : Line) (old new : Diagnostic) → IsOfCode l.code old → IsAt l.spot old
    → KeepsLine l.may_be_long old new → IsTold l new
line_kept l old new code at (inr long) = inr long
line_kept l old new code at (inl same) = inl (
  (
    (ap string_bytes same.code ∙ code.0),
    (same.severity ∙ code.1),
  ),
  there l.spot at,
)
  where
    there : (s : Option Spot) → IsAt s old → IsAt s new
    there None h = tt
    there (Some s) h = (ap string_bytes same.file ∙ h.0, same.place ∙ h.1)

-- ---- of what asks for a file, of files and of reports

-- what stands at a place
pub got : {X : Type 0} (xs : List X) (i : ℕ) (x : X) → nat_lt i (length xs) ≡ true
    → x ≡ get_or xs i x → slice_get xs i ≡ Some x
got xs i x lt is = slice_get-get_or xs i x (ltb-true i (length xs) lt) ∙ ap Some (sym is)

pub missing_none : (at : Option Spot) (o : Option UnreadFile) (old : List Diagnostic) → o ≡ None
    → Tells (missing_lines at o) old old
missing_none at None old is = tells_nothing old
missing_none at (Some f) old is = cc

pub missing_other : (at : Option Spot) (o : Option UnreadFile) (f : UnreadFile)
    (old : List Diagnostic) → o ≡ Some f → is_told_where_asked f.fault ≡ false
    → Tells (missing_lines at o) old old
missing_other at o f old is other = rw is (rw other (tells_nothing old))

pub missing_told : (at : Option Spot) (o : Option UnreadFile) (f : UnreadFile) (a b : Diagnostic)
    (old new : List Diagnostic) → o ≡ Some f → is_told_where_asked f.fault ≡ true
    → IsOfCode (run_code_of f.fault) a → IsAt at a → KeepsLine (is_reading f.fault) a b
    → new ≡ old ++ b ∷ [] → Tells (missing_lines at o) old new
missing_told at o f a b old new is asked code there kept added =
    rw is (rw asked (tells_one _ b old new (line_kept _ a b code there kept) added))

pub file_other : (s : Sources) (f : UnreadFile) (old : List Diagnostic)
    → is_told_where_asked f.fault ≡ true → Tells (unread_lines s f) old old
file_other s f old asked = rw asked (tells_nothing old)

pub file_told : (s : Sources) (f : UnreadFile) (d : Diagnostic) (old new : List Diagnostic)
    → is_told_where_asked f.fault ≡ false → IsTold (file_line s f f.fault) d
    → new ≡ old ++ d ∷ [] → Tells (unread_lines s f) old new
file_told s f d old new other told added = rw other (tells_one _ d old new told added)

pub clash_told : (f : InputFault) (a b : Diagnostic) → IsOfCode (run_code_of f.fault) a
    → KeepsLine (is_reading f.fault) a b → IsTold (clash_line f) b
clash_told f a b code kept = line_kept (clash_line f) a b code tt kept

-- the lines of one more report
pub report_next : (s : Sources) (rs : List FileReport) (i : ℕ) (r : FileReport)
    (old mid between new : List Diagnostic) (file : List ℕ) → i < length rs → r ≡ get_or rs i r
    → file ≡ origin_in s (string_bytes r.path)
    → Tells (flat_map (report_lines s) (take i rs)) old mid
    → Tells (map (meaning_line file) r.repeats.items) mid between
    → Tells (map (meaning_line file) r.faults.items) between new
    → Tells (flat_map (report_lines s) (take (i + 1) rs)) old new
report_next s rs i r old mid between new file lt is there h a b =
    tells_next (report_lines s) rs i r old mid new lt is h
    (subst (λ (f : List ℕ). Tells (map (meaning_line f) r.repeats.items
    ++ map (meaning_line f) r.faults.items) mid new) there (tells_more _ _ mid between new a b))
