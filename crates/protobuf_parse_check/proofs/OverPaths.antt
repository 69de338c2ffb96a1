-- What the next file becomes by numbers is what it becomes by paths.
use Rattle.std.proofs.Common.{◌≡◌, ◌∙◌, ◌++◌, ◌∷◌, [], ℕ, Bool, List, ap, map, sym}
use Rattle.std.specs.Prelude.{Some, flat_map, nat_lt}
use Rattle.std.proofs.lemmas.List.{map-append}
use Rattle.protobuf_parse_syntax.specs.Trees.{FileSyntax}
use Rattle.protobuf_parse_model.specs.Descriptors.{FileDescriptor, Text}
use Rattle.protobuf_parse_model.specs.Environment.{Customs, no_customs}
use Rattle.protobuf_parse_model.specs.Linking.{full_names, occurrences}
use Rattle.protobuf_parse_model.specs.Tables.{picked}
use Rattle.protobuf_parse_elaboration.specs.FileDescriptor.{environment, file_faults, file_of}
use Rattle.protobuf_parse_elaboration.specs.FilesByPath.{trees_at}
use Rattle.protobuf_parse_options.specs.OptionBytes.{customs_by_files}
use Rattle.protobuf_parse_options.specs.WithoutOptions.{DifferOnlyInOptions, bare_file}
use Rattle.protobuf_parse_options.proofs.WithoutOptions.{customs_ignore_options}
use Rattle.protobuf_parse_run.specs.declared.reach.Held.TheVariants as held_as
use Rattle.protobuf_parse_run.specs.declared.tables.Tables.{Tables}
use Rattle.protobuf_parse_run.specs.Loading.{AreJoined, LoadedEntry, customs_over, descriptor_in}
use Rattle.protobuf_parse_run.specs.Loading.{descriptors_next, file_over, named_trees, own_over}
use Rattle.protobuf_parse_run.specs.Loading.{picked_descriptors, plain_over, with_next}
use Rattle.protobuf_parse_run.specs.PlainRuns.{plain_of}
use Rattle.protobuf_parse_run.specs.Run.{Files, customs_of, environment_of, own_faults, plains_at}
use Rattle.protobuf_parse_run.proofs.Elaborating.{agrees-p, described_by, paths_by, picked-alike}
use Rattle.protobuf_parse_run.proofs.Elaborating.{picked-are, plains-are}
use Rattle.protobuf_parse_run.proofs.Knowing.{next-trees}
use Rattle.protobuf_parse_check.specs.Gathered.{reaches_twice}
use Rattle.protobuf_parse_check.specs.Judging.{twice_over}
use Rattle.protobuf_parse_check.specs.Reports.{Checked, files_of}
use Rattle.protobuf_parse_check.proofs.NextFile.{Stands, below, next, reach-is, sight-is}
use Rattle.protobuf_parse_check.proofs.NextFile.{with_next_path}

module _ (c : Checked) (loaded : List LoadedEntry) (tables : Tables) (before after : List Text)
    (p : Text) (t : FileSyntax) (s : Stands c loaded tables before after p t)
    (reach sight : List ℕ)
    (reaches : AreJoined held_as.Reach loaded (below c loaded tables before after p t s) reach)
    (sees : AreJoined held_as.HandedOn loaded (below c loaded tables before after p t s) sight)
  where
    abbrev files : Files
    files = files_of c

    abbrev with_p : List (Text × FileSyntax)
    with_p = with_next_path c loaded tables before after p t s

    abbrev descriptors : List FileDescriptor
    descriptors = descriptors_next loaded sight p t

    picked-by : (ns : List ℕ) → picked (with_next loaded t) ns
        ≡ trees_at files.trees (paths_by with_p ns)
    picked-by ns =
        ap (λ (ts : List FileSyntax). picked ts ns) (next-trees loaded p t)
        ∙ picked-are files.trees with_p ns
        (agrees-p files loaded tables c.reads p t (below c loaded tables before after p t s)
        (next c loaded tables before after p t s) reach sight reaches sees)

    pub picked-reach : picked (with_next loaded t) reach ≡ trees_at files.trees (c.reached p)
    picked-reach = picked-by reach
        ∙ ap (trees_at files.trees)
        (reach-is c loaded tables before after p t s reach sight reaches sees)

    pub picked-sight : picked (with_next loaded t) sight ≡ trees_at files.trees (c.seen p)
    picked-sight = picked-by sight
        ∙ ap (trees_at files.trees)
        (sight-is c loaded tables before after p t s reach sight reaches sees)

    pub twice-same : (extension : Bool) (name : Text)
        → twice_over (with_next loaded t) reach extension name
        ≡ reaches_twice files extension name p
    twice-same extension name =
        ap (λ (ts : List FileSyntax). nat_lt 1
        (occurrences name (flat_map (full_names extension) ts)))
        picked-reach

    pub own-same : own_over (with_next loaded t) sight t ≡ own_faults files p (Some t)
    own-same = ap (λ (ts : List FileSyntax). file_faults (environment ts no_customs t) t)
        picked-sight

    pub plain-same : plain_over (with_next loaded t) sight p t ≡ plain_of files p t
    plain-same = ap (λ (ts : List FileSyntax). file_of (environment ts no_customs t) p t)
        picked-sight

    plains : DifferOnlyInOptions descriptors (map (described_by files) with_p)
    plains =
        let before_it = map (described_by files) (named_trees loaded) in
        let own = plain_over (with_next loaded t) sight p t in
        map-append bare_file (map descriptor_in loaded) (own ∷ [])
        ∙ ap (λ bs. bs ++ bare_file own ∷ []) s.alike
        ∙ ap (λ d. map bare_file before_it ++ bare_file d ∷ []) plain-same
        ∙ sym (map-append bare_file before_it (plain_of files p t ∷ []))
        ∙ ap (map bare_file) (sym (map-append (described_by files) (named_trees loaded)
        ((p, t) ∷ [])))

    plains-by : (ns : List ℕ)
        → DifferOnlyInOptions (picked_descriptors descriptors ns)
        (plains_at files (paths_by with_p ns))
    plains-by ns =
        picked-alike descriptors (map (described_by files) with_p) ns plains
        ∙ ap (map bare_file) (plains-are files with_p ns
        (agrees-p files loaded tables c.reads p t (below c loaded tables before after p t s)
        (next c loaded tables before after p t s) reach sight reaches sees))

    pub customs-same : customs_over descriptors reach sight ≡ customs_of files p
    customs-same =
        customs_ignore_options (picked_descriptors descriptors reach)
        (plains_at files (paths_by with_p reach)) (picked_descriptors descriptors sight)
        (plains_at files (paths_by with_p sight)) (plains-by reach) (plains-by sight)
        ∙ ap (λ (ps : List Text). customs_by_files (plains_at files ps)
        (plains_at files (paths_by with_p sight)))
        (reach-is c loaded tables before after p t s reach sight reaches sees)
        ∙ ap (λ (ps : List Text). customs_by_files (plains_at files (c.reached p))
        (plains_at files ps)) (sight-is c loaded tables before after p t s reach sight reaches sees)

    pub faults-same : file_faults (environment (picked (with_next loaded t) sight)
        (customs_over descriptors reach sight) t) t ≡ file_faults (environment_of files p t) t
    faults-same =
        ap (λ (ts : List FileSyntax). file_faults (environment ts
        (customs_over descriptors reach sight) t) t) picked-sight
        ∙ ap (λ (k : Customs). file_faults (environment (trees_at files.trees (c.seen p)) k t) t)
        customs-same

    pub descriptor-same : file_over (with_next loaded t) descriptors reach sight p t
        ≡ file_of (environment_of files p t) p t
    descriptor-same =
        ap (λ (ts : List FileSyntax). file_of (environment ts
        (customs_over descriptors reach sight) t) p t) picked-sight
        ∙ ap (λ (k : Customs). file_of (environment (trees_at files.trees (c.seen p)) k t) p t)
        customs-same
