-- The index of spots, as it is caught up with the loaded files.
use Rattle.std.proofs.Common.{◌≡◌, ℕ, ◌+◌, ◌≤◌, List, [], ◌∷◌, ◌++◌, map, length, Option}
use Rattle.std.proofs.Common.{option_map, Some, refl, sym, ap, ◌∙◌, arith, append-nil, append_assoc}
use Rattle.std.proofs.Common.{subst, slice_get, length-append, flat_map, Result, Ok, Err}
use Rattle.std.specs.Borrow.{Bor}
use Rattle.std.specs.Prelude.{IfOk, option_to_list}
use Rattle.std.proofs.lemmas.List.{length-map, map-append}
use Rattle.protobuf_parse_model.specs.Descriptors as described
use Rattle.protobuf_parse_model.specs.Descriptors.{FileDescriptor}
use Rattle.protobuf_parse_model.specs.Faults.{Elaborates, Fault}
use Rattle.protobuf_parse_model.specs.declared.descriptor.FileDescriptorProto.{FileDescriptorProto}
use Rattle.protobuf_parse_model.specs.declared.error.ElabFailure.{ElabFailure}
use Rattle.protobuf_parse_options.specs.Holding.{Holds}
use Rattle.protobuf_parse_options.specs.WithoutOptions.{bare_file, DifferOnlyInOptions}
use Rattle.protobuf_parse_options.proofs.BareSpots.{holds-alike}
use Rattle.protobuf_parse_run.specs.Loading.{IndexBegins, LoadedEntry, IsWhole, picked_descriptors}
use Rattle.protobuf_parse_run.specs.Loading.{descriptor_in, descriptor_seen, descriptors_with}
use Rattle.protobuf_parse_run.specs.declared.tables.RunSpots.{RunSpots}

-- the descriptors that the code's list has
abbrev pub listed : List (Option (Bor FileDescriptorProto)) → List FileDescriptor
listed fs = flat_map option_to_list (map (option_map descriptor_seen) fs)

pub whole-begins : (spots : RunSpots) (descriptors : List FileDescriptor)
    → IsWhole spots descriptors → IndexBegins spots descriptors
whole-begins spots descriptors whole = record {
  front = descriptors;
  rest = [];
  split = sym (append-nil descriptors);
  whole = whole;
}

-- a file more that isn't in it
pub begins-more : (spots : RunSpots) (descriptors : List FileDescriptor) (d : FileDescriptor)
    → IndexBegins spots descriptors → IndexBegins spots (descriptors ++ d ∷ [])
begins-more spots descriptors d b = record {
  front = b.front;
  rest = b.rest ++ d ∷ [];
  split = ap (λ ps. ps ++ d ∷ []) b.split ∙ append_assoc b.front b.rest (d ∷ []);
  whole = b.whole;
}

-- whatever file comes next, if one does
pub begins-if : (spots : RunSpots) (loaded : List LoadedEntry)
    (r : Result FileDescriptorProto ElabFailure) → IndexBegins spots (map descriptor_in loaded)
    → IfOk r (λ d. IndexBegins spots (descriptors_with loaded (described.file_view d)))
begins-if spots loaded (Ok d) b =
    begins-more spots (map descriptor_in loaded) (described.file_view d) b
begins-if spots loaded (Err e) b = tt

at-end : {A : Type 0} (front rest : List A) → slice_get (front ++ rest) (length front)
    ≡ slice_get rest 0
at-end [] rest = refl
at-end (x ∷ front) rest = at-end front rest

first-of : {A : Type 0} (rest : List A) (x : A) → slice_get rest 0 ≡ Some x
    → (more : List A) × (rest ≡ x ∷ more)
first-of [] x e = absurd cc
first-of (y ∷ rest) x e = let same : y ≡ x = cc in (rest, ap (λ z. z ∷ rest) same)

-- the next of the files
pub begins-next : (old new : RunSpots) (descriptors : List FileDescriptor) (d : FileDescriptor)
    (b : IndexBegins old descriptors) → slice_get descriptors old.files ≡ Some d
    → ((files : List FileDescriptor) → length files ≡ old.files → Holds old.declared files
    → Holds new.declared (files ++ d ∷ []))
    → new.files ≡ old.files + 1 → IndexBegins new descriptors
begins-next old new descriptors d b at adds count =
    let whole = b.whole in
    let here : slice_get b.rest 0 ≡ Some d = sym (at-end b.front b.rest)
    ∙ ap (slice_get (b.front ++ b.rest)) whole.count
    ∙ ap (λ ps. slice_get ps old.files) (sym b.split) ∙ at in
    let next = first-of b.rest d here in
    record {
      front = b.front ++ d ∷ [];
      rest = next.0;
      split = b.split ∙ ap (λ r. b.front ++ r) next.1 ∙ sym (append_assoc b.front (d ∷ []) next.0);
      whole = record {
        holds = adds b.front whole.count whole.holds;
        count = length-append b.front (d ∷ []) ∙ ap (λ n. n + 1) whole.count ∙ sym count;
      };
    }

none-left : {A : Type 0} (rest : List A) → length rest ≡ 0 → rest ≡ []
none-left [] e = refl
none-left (x ∷ rest) e = absurd (omega (arith, e))

-- an index that counts as many files as there are has them all
pub whole-at : (spots : RunSpots) (descriptors : List FileDescriptor)
    → IndexBegins spots descriptors → length descriptors ≤ spots.files
    → IsWhole spots descriptors
whole-at spots descriptors b le =
    let whole = b.whole in
    let count = whole.count in
    let lengths = ap length b.split ∙ length-append b.front b.rest in
    let none : b.rest ≡ [] = none-left b.rest (omega (arith, le, count, lengths)) in
    let same : b.front ≡ descriptors = sym (b.split ∙ ap (λ r. b.front ++ r) none
    ∙ append-nil b.front) in
    subst (λ (ps : List FileDescriptor). IsWhole spots ps) same whole

pub next-whole : (old new : RunSpots) (descriptors : List FileDescriptor) (d : FileDescriptor)
    (n : ℕ) → IndexBegins old descriptors → length descriptors ≤ old.files
    → length descriptors ≡ n
    → ((files : List FileDescriptor) → length files ≡ n → Holds old.declared files
    → Holds new.declared (files ++ d ∷ []))
    → new.files ≡ n + 1 → IsWhole new (descriptors ++ d ∷ [])
next-whole old new descriptors d n b le len adds count =
    let whole = whole-at old descriptors b le in
    record {
      holds = adds descriptors len whole.holds;
      count = length-append descriptors (d ∷ []) ∙ ap (λ k. k + 1) len ∙ sym count;
    }

-- the descriptors of the loaded files, with one more
pub plains-push : (loaded : List LoadedEntry) (x : LoadedEntry)
    → descriptors_with loaded (descriptor_in x) ≡ map descriptor_in (loaded ++ x ∷ [])
plains-push loaded x = sym (map-append descriptor_in loaded (x ∷ []))

-- the next one, but for options
pub next-alike : (loaded : List LoadedEntry) (d e : FileDescriptor) → bare_file d ≡ bare_file e
    → DifferOnlyInOptions (descriptors_with loaded d) (descriptors_with loaded e)
next-alike loaded d e same =
    let files = map descriptor_in loaded in
    map-append bare_file files (d ∷ [])
    ∙ ap (λ b. map bare_file files ++ b ∷ []) same
    ∙ sym (map-append bare_file files (e ∷ []))

-- an index of files has those that are the same but for options
pub whole-alike : (spots : RunSpots) (ds es : List FileDescriptor) → DifferOnlyInOptions ds es
    → IsWhole spots ds → IsWhole spots es
whole-alike spots ds es same whole = record {
  holds = holds-alike spots.declared ds es same whole.holds;
  count = sym (length-map es bare_file) ∙ ap length (sym same) ∙ length-map ds bare_file
      ∙ whole.count;
}

-- so has one with a file that becomes the same but for options
pub whole-if : (spots : RunSpots) (loaded : List LoadedEntry) (plain value : FileDescriptor)
    (faults : List Fault) (r : Result FileDescriptorProto ElabFailure)
    → bare_file plain ≡ bare_file value → IsWhole spots (descriptors_with loaded plain)
    → Elaborates described.file_view r faults value
    → IfOk r (λ d. IndexBegins spots (descriptors_with loaded (described.file_view d)))
whole-if spots loaded plain value faults (Ok d) alike whole h =
    let is = described.file_view d in
    whole-begins spots (descriptors_with loaded is)
    (whole-alike spots (descriptors_with loaded plain) (descriptors_with loaded is)
    (next-alike loaded plain is (alike ∙ ap bare_file (sym h.1))) whole)
whole-if spots loaded plain value faults (Err e) alike whole h = tt

pub picked-seen : (descriptors : List FileDescriptor) (ns : List ℕ)
    → flat_map option_to_list (map (slice_get descriptors) ns) ≡ picked_descriptors descriptors ns
picked-seen descriptors [] = refl
picked-seen descriptors (n ∷ ns) = ap (λ ds. option_to_list (slice_get descriptors n) ++ ds)
    (picked-seen descriptors ns)
