-- Runs over real files, and the descriptors of the inputs alone.
use Rattle.std.specs.Prelude.{IfErr, String, filter, string_bytes}
use Rattle.std.proofs.Common.{◌≡◌, ◌∙◌, ap, sym, refl, subst, inl, inr, ℕ, ◌+◌, ◌<◌, arith, Bool}
use Rattle.std.proofs.Common.{true, false, List, [], ◌∷◌, ◌++◌, append-nil, get_or, length}
use Rattle.std.proofs.Common.{length-take, map, take, cond, ◌||◌, Result, Ok, Err}
use Rattle.std.specs.List.{list_any}
use Rattle.std.specs.Global.{Vec, Global}
use Rattle.std.proofs.lemmas.Bool.{cond-false, cond-true}
use Rattle.std.proofs.lemmas.List.{length-map, map-append, take_more}
use Rattle.std.proofs.lemmas.List.Elements.{filter-append}
use Rattle.protobuf_parse_base.specs.PathViews.{path_buf_text}
use Rattle.protobuf_parse_base.specs.declared.proto_path.path.ProtoPathBuf.{ProtoPathBuf}
use Rattle.protobuf_parse_model.specs.Descriptors.{Text}
use Rattle.protobuf_parse_model.specs.declared.descriptor.FileDescriptorProto.{FileDescriptorProto}
use Rattle.protobuf_parse_run.specs.declared.fault.RunFault.{RunFault}
use Rattle.protobuf_parse_run.specs.declared.log.ReadEntry.{ReadEntry}
use Rattle.protobuf_parse_run.specs.declared.log.RunInput.{RunInput}
use Rattle.protobuf_parse_run.specs.declared.log.RunInput.TheVariants as given
use Rattle.protobuf_parse_run.specs.Walks.{Input, at}
use Rattle.protobuf_parse_run.specs.Run.{HaveTrees, IsCaused, MayAnswer, RunsAsTold, input_view}
use Rattle.protobuf_parse.specs.Includes.{AreNamed}
use Rattle.protobuf_parse.specs.Folders.{MayFind}
use Rattle.protobuf_parse.specs.Parsers.{MayReadAnything, RunsOverFolders}
use Rattle.protobuf_parse.specs.Outcomes.{RanOverFolders}
use Rattle.protobuf_parse.specs.Parsers.{TellsFault, inputs_at, is_of_input}
use Rattle.protobuf_parse_run.proofs.Telling.{with-table}

-- one that passes the test is kept, and one that doesn't is left out
pub kept_one : {X : Type 0} (p : X → Bool) (seen : List X) (x : X) (old new : List X) → p x ≡ true
    → old ≡ filter p seen → new ≡ old ++ x ∷ [] → new ≡ filter p (seen ++ x ∷ [])
kept_one p seen x old new passes before step =
    step ∙ (ap (λ z. z ++ x ∷ []) before
    ∙ sym (filter-append p seen (x ∷ [])
    ∙ ap (λ z. filter p seen ++ z) (cond-true (p x) _ _ passes)))

pub left_one : {X : Type 0} (p : X → Bool) (seen : List X) (x : X) (old : List X) → p x ≡ false
    → old ≡ filter p seen → old ≡ filter p (seen ++ x ∷ [])
left_one p seen x old fails before =
    before ∙ sym (filter-append p seen (x ∷ [])
    ∙ (ap (λ z. filter p seen ++ z) (cond-false (p x) _ _ fails) ∙ append-nil (filter p seen)))

-- whether one of a list passes a test, where one more is listed
swap : (a b r : Bool) → (a || cond b true r) ≡ cond b true (a || r)
swap true true r = refl
swap true false r = refl
swap false b r = refl

or_cond : (b : Bool) → (b || false) ≡ cond b true false
or_cond true = refl
or_cond false = refl

pub any-push : {X : Type 0} (p : X → Bool) (xs : List X) (x : X)
    → list_any p (xs ++ x ∷ []) ≡ cond (p x) true (list_any p xs)
any-push p [] x = or_cond (p x)
any-push p (y ∷ xs) x = ap (λ b. p y || b) (any-push p xs x) ∙ swap (p y) (p x) (list_any p xs)

pub map-same : {X : Type 0} (xs : List X) → map (λ (x : X). x) xs ≡ xs
map-same [] = refl
map-same (x ∷ xs) = ap (λ z. x ∷ z) (map-same xs)

-- ---- inputs at their paths

inputs_at-push : (ns is : List Text) (n i : Text) → length ns ≡ length is
    → inputs_at (ns ++ n ∷ []) (is ++ i ∷ []) ≡ inputs_at ns is ++ at n i ∷ []
inputs_at-push [] [] n i h = refl
inputs_at-push [] (b ∷ is) n i h = absurd (omega arith)
inputs_at-push (a ∷ ns) [] n i h = absurd (omega arith)
inputs_at-push (a ∷ ns) (b ∷ is) n i h = let len : length ns ≡ length is = omega arith in
    ap (λ z. at a b ∷ z) (inputs_at-push ns is n i len)

pub views-next : {X Y : Type 0} (v : X → Y) (xs : List X) (k : ℕ) (x : X) → k < length xs
    → x ≡ get_or xs k x → map v (take (k + 1) xs) ≡ map v (take k xs) ++ v x ∷ []
views-next v xs k x lt is =
    ap (map v) (take_more xs k x lt)
    ∙ (map-append v (take k xs) (get_or xs k x ∷ [])
    ∙ ap (λ z. map v (take k xs) ++ v z ∷ []) (sym is))

pub placed-next : (names : List ProtoPathBuf) (inputs : List (String Global)) (k : ℕ)
    (n : ProtoPathBuf) (i : String Global) (name : ProtoPathBuf) (path : String Global)
    (old new : List RunInput)
    → k < length inputs → length names ≡ length inputs → n ≡ get_or names k n
    → i ≡ get_or inputs k i → path_buf_text name ≡ path_buf_text n
    → string_bytes path ≡ string_bytes i
    → map input_view old ≡ inputs_at (map path_buf_text (take k names))
    (map string_bytes (take k inputs)) → new ≡ old ++ given.At name path ∷ []
    → map input_view new ≡ inputs_at (map path_buf_text (take (k + 1) names))
    (map string_bytes (take (k + 1) inputs))
placed-next names inputs k n i name path old new lt same nis iis nsame isame before pushed =
    let ltn : k < length names = omega arith in
    let len : length (map path_buf_text (take k names))
    ≡ length (map string_bytes (take k inputs)) =
    simp (length-map, length-take) (omega arith) in
    let one = views-next path_buf_text names k n ltn nis in
    let two = views-next string_bytes inputs k i lt iis in
    let last : at (path_buf_text name) (string_bytes path)
    ≡ at (path_buf_text n) (string_bytes i) = cc in
    ap (map input_view) pushed
    ∙ (map-append input_view old (given.At name path ∷ [])
    ∙ (ap (λ (z : List Input). z ++ at (path_buf_text name) (string_bytes path) ∷ []) before
    ∙ (ap (λ (z : Input). inputs_at (map path_buf_text (take k names))
    (map string_bytes (take k inputs)) ++ z ∷ []) last
    ∙ (sym (inputs_at-push (map path_buf_text (take k names)) (map string_bytes (take k inputs))
    (path_buf_text n) (string_bytes i) len)
    ∙ (ap (λ (z : List Text). inputs_at z (map string_bytes (take k inputs) ++ string_bytes i ∷ []))
    (sym one)
    ∙ ap (λ (z : List Text). inputs_at (map path_buf_text (take (k + 1) names)) z) (sym two))))))

-- ---- the run

by-folders : (folders includes : List Text) (log : List ReadEntry) (taken inputs : List Input)
    (table bundled : List (Text × Text)) (r : Result (Vec FileDescriptorProto) RunFault)
    → folders ≡ includes → taken ≡ inputs → table ≡ bundled
    → RunsAsTold (MayAnswer (MayFind folders) MayReadAnything) taken table log r
    → RunsAsTold (MayAnswer (MayFind includes) MayReadAnything) inputs bundled log r
by-folders folders includes log taken inputs table bundled r f i t told =
    subst (λ (z : List Text). RunsAsTold
    (MayAnswer (MayFind z) MayReadAnything) inputs bundled log r) f
    (subst (λ (z : List Input). RunsAsTold
    (MayAnswer (MayFind folders) MayReadAnything) z bundled log r) i
    (subst (λ (z : List (Text × Text)). RunsAsTold
    (MayAnswer (MayFind folders) MayReadAnything) taken z log r) t told))

pub ran-over : (folders includes inputs names : List Text) (log : List ReadEntry)
    (taken : List Input) (table bundled : List (Text × Text))
    (r : Result (Vec FileDescriptorProto) RunFault)
    → folders ≡ includes → taken ≡ inputs_at names inputs → table ≡ bundled → HaveTrees table log
    → RunsAsTold (MayAnswer (MayFind folders) MayReadAnything) taken table log r
    → RanOverFolders bundled includes inputs names r
ran-over folders includes inputs names log taken table bundled r f i t trees told =
    either r
    (with-table (MayFind includes) MayReadAnything bundled (inputs_at names inputs) log r
    (subst (λ (z : List (Text × Text)). HaveTrees z log) t trees)
    (by-folders folders includes log taken (inputs_at names inputs) table bundled r f i t told))
  where
    either : (q : Result (Vec FileDescriptorProto) RunFault)
        → RunsOverFolders bundled includes inputs names q
        → RanOverFolders bundled includes inputs names q
    either (Ok files) h = h
    either (Err e) h = inl h

-- ---- where L4 and L5 come from

-- those of a run over the same includes
pub caused-over : (folders includes : List Text) (r : Result (Vec FileDescriptorProto) RunFault)
    → folders ≡ includes
    → IfErr r (λ f. IsCaused (MayFind folders) MayReadAnything f)
    → IfErr r (λ f. IsCaused (MayFind includes) MayReadAnything f)
caused-over folders includes r is =
    subst (λ (z : List Text). IfErr r (λ f. IsCaused (MayFind z) MayReadAnything f)) is

-- ---- the parser

pub run-fault : (bundled : List (Text × Text)) (includes i1 inputs j1 : List (String Global))
    (names n1 : List ProtoPathBuf) (f : RunFault) → i1 ≡ includes → j1 ≡ inputs → n1 ≡ names
    → AreNamed (map string_bytes i1) (map string_bytes j1) (map path_buf_text names)
    → RanOverFolders bundled (map string_bytes includes) (map string_bytes inputs)
    (map path_buf_text n1) (Err f)
    → TellsFault bundled (map string_bytes includes) (map string_bytes inputs) f
run-fault bundled includes i1 inputs j1 names n1 f a c e named (inr m) = inr m
run-fault bundled includes i1 inputs j1 names n1 f a c e named (inl h) =
    inl (inr (map path_buf_text names, (rw (a, c) at named), (rw e at h)))

pub run-names : (includes i1 inputs j1 : List (String Global)) (names : List Text) → i1 ≡ includes
    → j1 ≡ inputs → AreNamed (map string_bytes i1) (map string_bytes j1) names
    → AreNamed (map string_bytes includes) (map string_bytes inputs) names
run-names includes i1 inputs j1 names a c named = rw (a, c) at named

pub run-files : (bundled : List (Text × Text)) (includes inputs : List Text)
    (names n1 : List ProtoPathBuf) (files : Vec FileDescriptorProto) → n1 ≡ names
    → RanOverFolders bundled includes inputs (map path_buf_text n1) (Ok files)
    → RunsOverFolders bundled includes inputs (map path_buf_text names) (Ok files)
run-files bundled includes inputs names n1 files e h = rw e at h

pub set-of : (found : List FileDescriptorProto) (n1 n2 : List ProtoPathBuf)
    (f1 f2 : List FileDescriptorProto) → found ≡ filter (is_of_input (map path_buf_text n1)) f1
    → n1 ≡ n2 → f1 ≡ f2 → found ≡ filter (is_of_input (map path_buf_text n2)) f2
set-of found n1 n2 f1 f2 h n f = rw (n, f) at h
