-- The packages of files.
use Rattle.std.proofs.Common.{◌≡◌, ◌∙◌, ◌||◌, ◌++◌, ◌∷◌, [], Bool, true, cond, List, ap}
use Rattle.std.proofs.Common.{append_assoc, append-nil, flat_map, map, sym}
use Rattle.std.specs.Prelude.{bytes_eq, option_to_list}
use Rattle.std.proofs.lemmas.Grind.{flat_map-append}
use Rattle.protobuf_parse_base.specs.Names.{absolute_text, fronts}
use Rattle.protobuf_parse_base.proofs.Fronts.{fronts-push}
use Rattle.protobuf_parse_base.proofs.NameTexts.{absolute_text-append}
use Rattle.protobuf_parse_model.specs.Descriptors.{FileDescriptor, Text}
use Rattle.protobuf_parse_index.specs.Lookups.{file_named}
use Rattle.protobuf_parse_text_rules.specs.Options.{stands_in}
use Rattle.protobuf_parse_name_rules.specs.Lookups.{packages_among, packages_of, seen_files}
use Rattle.protobuf_parse_name_rules.proofs.Sets.{any-append, cond_or, flat_map-push, or_swap}

-- those of one path more
pub packages_more : (name : Text) (reached : List FileDescriptor) (paths : List Text) (path : Text)
    (after : List Text) (new old : Bool)
    → new ≡ (old || stands_in name (packages_among (option_to_list (file_named reached path))))
    → old ≡ stands_in name
    (packages_among (seen_files (record { reached = reached; seen = paths })))
    → after ≡ paths ++ path ∷ []
    → new ≡ stands_in name
    (packages_among (seen_files (record { reached = reached; seen = after })))
packages_more name reached paths path after new old e is more =
    let found = λ (p : Text). option_to_list (file_named reached p) in
    let one = packages_among (found path) in
    e ∙ ap (λ b. b || stands_in name one) is
    ∙ sym (any-append (λ (x : Text). bytes_eq x name) (packages_among (flat_map found paths)) one)
    ∙ ap (stands_in name)
    (sym (flat_map-append packages_of (flat_map found paths) (found path)))
    ∙ ap (λ (fs : List FileDescriptor). stands_in name (packages_among fs))
    (sym (flat_map-push found paths path))
    ∙ ap (λ (ps : List Text). stands_in name (packages_among (flat_map found ps))) (sym more)

-- the full name of a package inside one
pub front_more : (ts : List Text) (t : Text)
    → (absolute_text ts ++ 46 ∷ []) ++ t ≡ absolute_text (ts ++ t ∷ [])
front_more ts t =
    append_assoc (absolute_text ts) (46 ∷ []) t
    ∙ ap (λ z. absolute_text ts ++ 46 ∷ z) (sym (append-nil t))
    ∙ sym (absolute_text-append ts (t ∷ []))

-- a set that gets it
pub fronts_more : (name : Text) (ts : List Text) (t : Text) (after : List Text) (front : Text)
    (new old first : Bool) → new ≡ cond (bytes_eq front name) true old
    → front ≡ absolute_text after → after ≡ ts ++ t ∷ []
    → old ≡ (first || stands_in name (map absolute_text (fronts ts)))
    → new ≡ (first || stands_in name (map absolute_text (fronts after)))
fronts_more name ts t after front new old first e is more known =
    let among = λ (all : List (List Text)). first || stands_in name (map absolute_text all) in
    e ∙ cond_or (bytes_eq front name) old
    ∙ ap (λ b. bytes_eq front name || b) known
    ∙ or_swap (bytes_eq front name) first (stands_in name (map absolute_text (fronts ts)))
    ∙ ap (λ (text : Text).
    first || (bytes_eq text name || stands_in name (map absolute_text (fronts ts))))
    (is ∙ ap absolute_text more)
    ∙ ap among (sym (fronts-push ts t))
    ∙ ap (λ (all : List Text). among (fronts all)) (sym more)
