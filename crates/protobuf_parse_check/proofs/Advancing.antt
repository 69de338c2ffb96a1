-- One file more is judged.
use Rattle.std.proofs.Common.{◌≡◌, ◌∙◌, ℕ, true, false, List, [], ◌∷◌, ◌++◌, Some}
use Rattle.std.proofs.Common.{ap, append_assoc, flat_map, length, map, nat_eq, refl, subst}
use Rattle.std.proofs.Common.{sym, zero, suc}
use Rattle.std.specs.Global.{Global}
use Rattle.std.specs.Prelude.{String, option_map, slice_get, string_bytes}
use Rattle.std.specs.List.{list_any}
use Rattle.std.specs.List.Sorted.{IsStrictlyIncreasing}
use Rattle.std.proofs.lemmas.List.{map-append}
use Rattle.std.proofs.lemmas.List.Elements.{Contains-push}
use Rattle.protobuf_parse_syntax.specs.Dependencies.{imports}
use Rattle.protobuf_parse_syntax.specs.Trees.{FileSyntax}
use Rattle.protobuf_parse_model.specs.Descriptors as described
use Rattle.protobuf_parse_model.specs.Descriptors.{FileDescriptor, Text}
use Rattle.protobuf_parse_model.specs.Tables.{TableTells}
use Rattle.protobuf_parse_model.specs.declared.descriptor.FileDescriptorProto.{FileDescriptorProto}
use Rattle.protobuf_parse_options.specs.WithoutOptions.{DifferOnlyInOptions, bare_file}
use Rattle.protobuf_parse_run.specs.declared.loader.LoadedFile.{LoadedFile}
use Rattle.protobuf_parse_run.specs.declared.reach.Held.{Held}
use Rattle.protobuf_parse_run.specs.declared.reach.Held.TheVariants as held_as
use Rattle.protobuf_parse_run.specs.declared.reach.Sights.{Sights}
use Rattle.protobuf_parse_run.specs.Loading.{Agrees, AreJoined, AreKnown, IndexBegins, LoadedEntry}
use Rattle.protobuf_parse_run.specs.Loading.{Named, descriptor_in, descriptors_with, held_at}
use Rattle.protobuf_parse_run.specs.Loading.{named_trees, tree_in, trees_of}
use Rattle.protobuf_parse_run.specs.Loading.{with_next}
use Rattle.protobuf_parse_run.specs.declared.tables.RunSpots.{RunSpots}
use Rattle.protobuf_parse_run.proofs.Faulty.{any-number}
use Rattle.protobuf_parse_run.proofs.Knowing.{agrees-push, known-add, next-trees}
use Rattle.protobuf_parse_run.proofs.Listed.{read-of}
use Rattle.protobuf_parse_run.proofs.Numbers.{name_of, named-push}
use Rattle.protobuf_parse_load.specs.Loads.{IsFirstRead}
use Rattle.protobuf_parse_check.specs.declared.imports.FoundImports.{FoundImports}
use Rattle.protobuf_parse_check.specs.declared.judge.Judge.{Judge}
use Rattle.protobuf_parse_check.specs.declared.judge.Losses.{Losses}
use Rattle.protobuf_parse_check.specs.declared.verdict.Verdict.{Verdict}
use Rattle.protobuf_parse_check.specs.Judging.{FindsNumbers, GivesVerdict, import_number}
use Rattle.protobuf_parse_check.specs.Judging.{public_number}
use Rattle.protobuf_parse_check.specs.Reports.{Checked, files_of}
use Rattle.protobuf_parse_check.specs.SoFar.{AreVerdicts, IsOrdered, IsSoFar, IsVerdict}
use Rattle.protobuf_parse_check.specs.SoFar.{KeepsBringers}
use Rattle.protobuf_parse_check.specs.SoFar.{plain_named}
use Rattle.protobuf_parse_check.specs.Trimmed.{has_told, has_told_public, trimmed}
use Rattle.protobuf_parse_check.proofs.Bringing.{still-kept}
use Rattle.protobuf_parse_check.proofs.Judging.{brought-is, descriptor-is, faults-are}
use Rattle.protobuf_parse_check.proofs.Judging.{public-lost-is, state-is, troubled-same}
use Rattle.protobuf_parse_check.proofs.NextFile.{Stands, none, numbered, publicly}
use Rattle.protobuf_parse_check.proofs.OverPaths.{plain-same}
use Rattle.protobuf_parse_check.proofs.Verdicts.{paths-are, verdicts-push}
use Rattle.std.proofs.lemmas.Bool.{eq-eqb}

-- the number of the next file is among those that it reaches and sees
pub own-joined : (which : Held) (loaded : List LoadedEntry) (files numbers : List ℕ)
    → AreJoined which loaded files numbers → list_any (nat_eq (length loaded)) numbers ≡ true
own-joined which loaded files numbers j =
    any-number (nat_eq (length loaded)) numbers (length loaded)
    (j.all (length loaded)
    (Contains-push (flat_map (λ n. held_at which (slice_get loaded n)) files) (length loaded)))
    (eq-eqb (length loaded) (length loaded) refl)

-- the trees of the files, where one more has this one
pub trees-next : (loaded new : List LoadedEntry) (x : LoadedEntry) (t : FileSyntax)
    → new ≡ loaded ++ x ∷ [] → tree_in x.1 ≡ t
    → trees_of (named_trees new) ≡ with_next loaded t
trees-next loaded new x t is same =
    ap (λ (es : List LoadedEntry). trees_of (named_trees es)) is
    ∙ ap trees_of (named-push loaded x)
    ∙ ap (λ (z : FileSyntax). trees_of (named_trees loaded ++ (string_bytes x.0, z) ∷ [])) same
    ∙ sym (next-trees loaded (string_bytes x.0) t)

-- the index begins with their descriptors
pub begins-next : (spots : RunSpots) (loaded new : List LoadedEntry) (x : LoadedEntry)
    (d : FileDescriptorProto) → new ≡ loaded ++ x ∷ [] → x.1.descriptor ≡ d
    → IndexBegins spots (descriptors_with loaded (described.file_view d))
    → IndexBegins spots (map descriptor_in new)
begins-next spots loaded new x d is same begins =
    subst (IndexBegins spots)
    (ap (λ (e : FileDescriptorProto). descriptors_with loaded (described.file_view e)) (sym same)
    ∙ sym (map-append descriptor_in loaded (x ∷ []))
    ∙ ap (map descriptor_in) (sym is)) begins

-- What is known of the next file, which has this tree, when it is judged.
pub record Judges (c : Checked) (j new : Judge) (before after : List Text) (p : Text)
    (u : FileSyntax) (key : String Global) (entry : LoadedFile) (v : Verdict)
    (descriptor : FileDescriptorProto) (t : FileSyntax) : Type 0 where
  pub ordered : IsOrdered c
  pub so_far : IsSoFar c j before (p ∷ after)
  pub whole : c.whole p ≡ Some u
  pub named : string_bytes key ≡ p
  pub read : IsFirstRead c.reads p entry.read
  pub losses : Losses
  pub any_lost : losses.any ≡ has_told c.steps p u
  pub public_lost : losses.public ≡ has_told_public c.steps p u
  pub imported : FoundImports
  pub numbers : FindsNumbers j.loaded.entries t.statements imported
  pub sights : Sights
  pub reaches : AreJoined held_as.Reach j.loaded.entries imported.all.items sights.reach.items
  pub sees : AreJoined held_as.HandedOn j.loaded.entries imported.all.items sights.sight.items
  pub hands_on : AreJoined held_as.HandedOn j.loaded.entries imported.public.items
      sights.handed_on.items
  pub tells : TableTells new.tables.names (with_next j.loaded.entries t)
  pub gives : GivesVerdict j.loaded.entries (with_next j.loaded.entries t) new.tables.names sights
      losses p t j.verdicts.items j.brought new.brought descriptor v
  pub begins : IndexBegins new.tables.spots
      (descriptors_with j.loaded.entries (described.file_view descriptor))
  pub tree_is : tree_in entry ≡ t
  pub reach_is : entry.reach ≡ sights.reach
  pub handed_is : entry.handed_on ≡ sights.handed_on
  pub descriptor_is : entry.descriptor ≡ descriptor
  pub entries : new.loaded.entries ≡ j.loaded.entries ++ (key, entry) ∷ []
  pub verdicts : new.verdicts.items ≡ j.verdicts.items ++ v ∷ []

module _ (c : Checked) (j new : Judge) (before after : List Text) (p : Text) (u : FileSyntax)
    (key : String Global) (entry : LoadedFile) (v : Verdict) (descriptor : FileDescriptorProto)
    (g : Judges c j new before after p u key entry v descriptor (trimmed c.steps p u)) where
  abbrev t : FileSyntax
  t = trimmed c.steps p u

  abbrev old : List LoadedEntry
  old = j.loaded.entries

  abbrev x : LoadedEntry
  x = (key, entry)

  stands : Stands c old j.tables before after p t
  stands = record {
    ordered = g.ordered;
    order = g.so_far.order;
    paths = paths-are c before old j.verdicts.items g.so_far.verdicts;
    known = g.so_far.known;
    agrees = g.so_far.agrees;
    rising = g.so_far.rising;
    alike = g.so_far.alike;
    is = ap (option_map (trimmed c.steps p)) g.whole;
  }

  reaches : AreJoined held_as.Reach old (flat_map (import_number old) (imports t.statements))
      g.sights.reach.items
  reaches = subst (λ (ns : List ℕ). AreJoined held_as.Reach old ns g.sights.reach.items)
      g.numbers.all g.reaches

  sees : AreJoined held_as.HandedOn old (flat_map (import_number old) (imports t.statements))
      g.sights.sight.items
  sees = subst (λ (ns : List ℕ). AreJoined held_as.HandedOn old ns g.sights.sight.items)
      g.numbers.all g.sees

  name-is : name_of x ≡ (p, t)
  name-is = ap (λ (z : Text). (z, tree_in entry)) g.named
      ∙ ap (λ (z : FileSyntax). (p, z)) g.tree_is

  verdict : IsVerdict c p x v
  verdict =
      let own = own-joined held_as.Reach old g.imported.all.items g.sights.reach.items g.reaches in
      let seen = own-joined held_as.HandedOn old g.imported.all.items g.sights.sight.items g.sees in
      record {
        named = g.named;
        tree = u;
        whole = g.whole;
        is = g.tree_is;
        kept = g.gives.tree;
        read = g.read;
        troubled = troubled-same c old j.tables before after p u g.whole stands g.sights reaches sees
            own seen j.verdicts.items g.so_far.verdicts g.losses g.any_lost g.public_lost
            new.tables.names g.tells j.brought new.brought g.so_far.types g.so_far.extensions
            descriptor v g.gives;
        loses_public_is = public-lost-is c old j.tables before after p u g.whole stands g.sights
            reaches sees own seen j.verdicts.items g.so_far.verdicts g.losses g.any_lost
            g.public_lost new.tables.names g.tells j.brought new.brought g.so_far.types
            g.so_far.extensions descriptor v g.gives;
        state = state-is c old j.tables before after p u g.whole stands g.sights reaches sees own
            seen j.verdicts.items g.so_far.verdicts g.losses g.any_lost g.public_lost
            new.tables.names g.tells j.brought new.brought g.so_far.types g.so_far.extensions
            descriptor v g.gives;
        repeats = brought-is c old j.tables before after p u g.whole stands g.sights reaches sees
            own seen j.verdicts.items g.so_far.verdicts g.losses g.any_lost g.public_lost
            new.tables.names g.tells j.brought new.brought g.so_far.types g.so_far.extensions
            descriptor v g.gives;
        faults = faults-are c old j.tables before after p u g.whole stands g.sights reaches sees
            own seen j.verdicts.items g.so_far.verdicts g.losses g.any_lost g.public_lost
            new.tables.names g.tells j.brought new.brought g.so_far.types g.so_far.extensions
            descriptor v g.gives;
        descriptor = ap described.file_view g.descriptor_is
            ∙ descriptor-is c old j.tables before after p u g.whole stands g.sights reaches sees
            own seen j.verdicts.items g.so_far.verdicts g.losses g.any_lost g.public_lost
            new.tables.names g.tells j.brought new.brought g.so_far.types g.so_far.extensions
            descriptor v g.gives;
      }

  begins : IndexBegins new.tables.spots (map descriptor_in (old ++ x ∷ []))
  begins =
      subst (λ (ds : List FileDescriptor). IndexBegins new.tables.spots ds)
      (ap (λ (d : FileDescriptorProto). descriptors_with old (described.file_view d))
      (sym g.descriptor_is) ∙ sym (map-append descriptor_in old (x ∷ []))) g.begins

  known : AreKnown (old ++ x ∷ []) new.tables c.reads
  known =
      known-add p t (flat_map (import_number old) (imports t.statements))
      (flat_map (public_number old) (imports t.statements)) old j.tables new.tables c.reads key
      entry g.so_far.known
      (read-of c.bundled c.reads c.whole g.ordered.trees p u g.whole)
      (numbered c old j.tables before after p t stands)
      (publicly c old j.tables before after p t stands)
      (none c old j.tables before after p t stands) g.named g.tree_is
      (subst (λ r. AreJoined held_as.Reach old
      (flat_map (import_number old) (imports t.statements)) r.items) (sym g.reach_is) reaches)
      (subst (λ r. AreJoined held_as.HandedOn old
      (flat_map (public_number old) (imports t.statements)) r.items) (sym g.handed_is)
      (subst (λ (ns : List ℕ). AreJoined held_as.HandedOn old ns g.sights.handed_on.items)
      g.numbers.public g.hands_on))
      g.tells begins

  agrees : Agrees (files_of c).trees (named_trees (old ++ x ∷ []))
  agrees =
      subst (Agrees (files_of c).trees)
      (sym (named-push old x ∙ ap (λ (f : Named). named_trees old ++ f ∷ []) name-is))
      (agrees-push (files_of c).trees (named_trees old) p t g.so_far.agrees stands.is)

  some_is : (a b : LoadedEntry) → Some a ≡ Some b → a ≡ b
  some_is a b h = cc

  rising-last : (es : List LoadedEntry)
      → ((n : ℕ) (e : LoadedEntry) → slice_get es n ≡ Some e
      → IsStrictlyIncreasing e.1.reach.items)
      → (n : ℕ) (e : LoadedEntry) → slice_get (es ++ x ∷ []) n ≡ Some e
      → IsStrictlyIncreasing e.1.reach.items
  rising-last [] up zero e h =
      subst (λ (y : LoadedEntry). IsStrictlyIncreasing y.1.reach.items) (some_is x e h)
      (subst (λ r. IsStrictlyIncreasing r.items) (sym g.reach_is) g.reaches.ascending)
  rising-last [] up (suc n) e h = cc
  rising-last (y ∷ es) up zero e h = up 0 e h
  rising-last (y ∷ es) up (suc n) e h =
      rising-last es (λ m d k. up (suc m) d k) n e h

  alike : DifferOnlyInOptions (map descriptor_in (old ++ x ∷ []))
      (map (plain_named c) (named_trees (old ++ x ∷ [])))
  alike =
      let own : bare_file (descriptor_in x) ≡ bare_file (plain_named c (name_of x)) =
      ap (λ (d : FileDescriptorProto). bare_file (described.file_view d))
      (g.descriptor_is ∙ g.gives.descriptor_is)
      ∙ g.gives.is_judged.alike
      ∙ ap bare_file (plain-same c old j.tables before after p t stands g.sights.reach.items
      g.sights.sight.items reaches sees)
      ∙ ap (λ (f : Named). bare_file (plain_named c f)) (sym name-is) in
      ap (map bare_file) (map-append descriptor_in old (x ∷ []))
      ∙ map-append bare_file (map descriptor_in old) (descriptor_in x ∷ [])
      ∙ ap (λ bs. bs ++ bare_file (descriptor_in x) ∷ []) g.so_far.alike
      ∙ ap (λ b. map bare_file (map (plain_named c) (named_trees old)) ++ b ∷ []) own
      ∙ sym (map-append bare_file (map (plain_named c) (named_trees old))
      (plain_named c (name_of x) ∷ []))
      ∙ ap (map bare_file) (sym (map-append (plain_named c) (named_trees old) (name_of x ∷ [])))
      ∙ ap (λ fs. map bare_file (map (plain_named c) fs)) (sym (named-push old x))

  at-trimmed : IsSoFar c new (before ++ p ∷ []) after
  at-trimmed = record {
    order = g.so_far.order ∙ sym (append_assoc before (p ∷ []) after);
    known = subst (λ (es : List LoadedEntry). AreKnown es new.tables c.reads) (sym g.entries)
        known;
    agrees = subst (λ (es : List LoadedEntry). Agrees (files_of c).trees (named_trees es))
        (sym g.entries) agrees;
    rising = λ n e h. rising-last old g.so_far.rising n e
        (subst (λ (es : List LoadedEntry). slice_get es n ≡ Some e) g.entries h);
    alike = subst (λ (es : List LoadedEntry). DifferOnlyInOptions (map descriptor_in es)
        (map (plain_named c) (named_trees es))) (sym g.entries) alike;
    types = subst (λ (es : List LoadedEntry). KeepsBringers c false es new.brought.types)
        (sym g.entries)
        (still-kept c old j.tables before after p t stands g.sights.reach.items
        g.sights.sight.items reaches sees new.tables.names g.tells false j.brought.types
        new.brought.types g.so_far.types g.gives.repeats.types g.gives.repeats.types_are x name-is);
    extensions = subst (λ (es : List LoadedEntry).
        KeepsBringers c true es new.brought.extensions) (sym g.entries)
        (still-kept c old j.tables before after p t stands g.sights.reach.items
        g.sights.sight.items reaches sees new.tables.names g.tells true j.brought.extensions
        new.brought.extensions g.so_far.extensions g.gives.repeats.extensions
        g.gives.repeats.extensions_are x name-is);
    verdicts = subst (λ (es : List LoadedEntry).
        AreVerdicts c (before ++ p ∷ []) es
        new.verdicts.items) (sym g.entries)
        (subst (λ (vs : List Verdict).
        AreVerdicts c (before ++ p ∷ []) (old ++ x ∷ [])
        vs) (sym g.verdicts)
        (verdicts-push c before old j.verdicts.items p x v g.so_far.verdicts verdict));
  }

-- so it is where the tree is that one
pub next-so-far : (c : Checked) (j new : Judge) (before after : List Text) (p : Text)
    (u : FileSyntax) (key : String Global) (entry : LoadedFile) (v : Verdict)
    (descriptor : FileDescriptorProto) (t : FileSyntax) → t ≡ trimmed c.steps p u
    → Judges c j new before after p u key entry v descriptor t
    → IsSoFar c new (before ++ p ∷ []) after
next-so-far c j new before after p u key entry v descriptor t same g =
    at-trimmed c j new before after p u key entry v descriptor
    (subst (Judges c j new before after p u key entry v descriptor) same g)
