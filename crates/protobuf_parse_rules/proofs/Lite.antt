-- Files of which none is for the lite runtime.
use Rattle.std.proofs.Common.{◌≡◌, Bool, true, false, cond, ◌||◌, List, [], ◌∷◌, ◌++◌, refl, ap}
use Rattle.std.proofs.Common.{◌∙◌, None, Some}
use Rattle.std.specs.Prelude.{◌&&◌, bytes_eq, find}
use Rattle.std.specs.List.{flat_map, list_any}
use Rattle.std.specs.Option.{option_map_or}
use Rattle.std.proofs.lemmas.List.Folds.{list_any-append}
use Rattle.protobuf_parse_model.specs.Descriptors.{Text}
use Rattle.protobuf_parse_rules.specs.KnownFiles.{is_lite_body}
use Rattle.protobuf_parse_rules.specs.Bodies.{Content, BodyParts, extensions_of, of_file}
use Rattle.protobuf_parse_rules.specs.Bodies.{of_message}
use Rattle.protobuf_parse_rules.specs.Names.{names_at}
use Rattle.protobuf_parse_rules.specs.Rules.{Site, breaches_at, broken_by}
use Rattle.protobuf_parse_rules.specs.Runtimes.{NamedFile, file_at, file_in, has_generic_services}
use Rattle.protobuf_parse_rules.specs.Runtimes.{is_lite, is_lite_path, lite_extension, lite_file}
use Rattle.protobuf_parse_rules.specs.Runtimes.{lite_import}
use Rattle.protobuf_parse_rules.specs.Runtimes.{lite_service, lite_services, runtime_breaches}
use Rattle.protobuf_parse_rules.specs.declared.rule.Rule.TheVariants as rule

left : (a b : Bool) → (a || b) ≡ false → a ≡ false
left false b e = refl
left true b e = absurd cc

right : (a b : Bool) → (a || b) ≡ false → b ≡ false
right false b e = e
right true b e = absurd cc

abbrev is_lite_file : NamedFile → Bool
is_lite_file f = is_lite f.what

-- a file that is found isn't either
found_none : (fs : List NamedFile) (path : Text) → list_any is_lite_file fs ≡ false
    → option_map_or is_lite_file (find (λ (f : NamedFile). bytes_eq f.path path) fs) false ≡ false
found_none [] path e = refl
found_none (f ∷ fs) path e =
    at (bytes_eq f.path path) (found_none fs path
    (right (is_lite_file f) (list_any is_lite_file fs) e))
  where
    at : (b : Bool)
        → option_map_or is_lite_file (find (λ (x : NamedFile). bytes_eq x.path path) fs) false
        ≡ false
        → option_map_or is_lite_file
        (cond b (Some f) (find (λ (x : NamedFile). bytes_eq x.path path) fs)) false ≡ false
    at true more = left (is_lite_file f) (list_any is_lite_file fs) e
    at false more = more

any_file : (all : List BodyParts)
    → list_any is_lite_file (flat_map file_at all) ≡ list_any is_lite_body all
any_file [] = refl
any_file (p ∷ ps) = list_any-append is_lite_file (file_at p) (flat_map file_at ps)
    ∙ ap (λ b. is_lite_body p || b) (any_file ps)

module _ (all : List BodyParts) (none : (path : Text) → is_lite_path all path ≡ false) where
  no_import : (site : Site) (paths : List Text) → flat_map (lite_import all site) paths ≡ []
  no_import site [] = refl
  no_import site (path ∷ paths) =
      ap (λ b. breaches_at site (cond b (Some (broken_by rule.LiteImport path)) None ∷ [])
      ++ flat_map (lite_import all site) paths) (none path)
      ∙ no_import site paths

  no_file : (file scope : Text) (content : Content)
      → list_any is_lite_file (file_in file content) ≡ false → lite_file all file scope content ≡ []
  no_file file scope (of_message m) e = refl
  no_file file scope (of_file f) e =
      let other = left (is_lite f) false e in
      let site : Site = record { file = file; construct = scope } in
      ap (λ b. cond b [] (flat_map (lite_import all site) f.dependency)
      ++ lite_services file scope f) other
      ∙ ap (λ bs. bs ++ lite_services file scope f) (no_import site f.dependency)
      ∙ ap (λ b. cond (b && has_generic_services f)
      (flat_map (lite_service file scope) f.service) [])
      other

  no_runtime : (p : BodyParts) → is_lite_body p ≡ false → runtime_breaches all p ≡ []
  no_runtime p e =
      ap (λ b. cond b (flat_map (lite_extension (flat_map names_at all) all p.file p.scope)
      (extensions_of p.content)) []
      ++ lite_file all p.file p.scope p.content) (none p.file)
      ∙ no_file p.file p.scope p.content e

  no_runtimes : (ps : List BodyParts) → list_any is_lite_body ps ≡ false
      → flat_map (runtime_breaches all) ps ≡ []
  no_runtimes [] e = refl
  no_runtimes (p ∷ ps) e =
      ap (λ bs. bs ++ flat_map (runtime_breaches all) ps)
      (no_runtime p (left (is_lite_body p) (list_any is_lite_body ps) e))
      ∙ no_runtimes ps (right (is_lite_body p) (list_any is_lite_body ps) e)

-- Then nothing is told of runtimes.
pub nothing_lite : (all : List BodyParts) → list_any is_lite_body all ≡ false
    → flat_map (runtime_breaches all) all ≡ []
nothing_lite all e =
    no_runtimes all (λ path. found_none (flat_map file_at all) path (any_file all ∙ e)) all e
