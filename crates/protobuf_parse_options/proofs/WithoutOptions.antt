-- Files that are the same but for their options read the same bytes alike, and give names the same
-- meaning.
use Rattle.std.proofs.Common.{◌≡◌, List, [], ◌∷◌, map, Option, Some, None, option_to_list, refl}
use Rattle.std.proofs.Common.{sym, ap, ◌∙◌}
use Rattle.std.proofs.Math.Path.{fun_ext}
use Rattle.protobuf_parse_syntax.specs.Trees.{FileSyntax, OptionSyntax}
use Rattle.protobuf_parse_model.specs.Descriptors.{Text, FileDescriptor}
use Rattle.protobuf_parse_model.specs.Declarations.{Scope}
use Rattle.protobuf_parse_model.specs.declared.customs.Construct.{Construct}
use Rattle.protobuf_parse_model.specs.Environment.{CustomFaults, CustomBytes, Environment}
use Rattle.protobuf_parse_elaboration.specs.FileDescriptor.{file_of}
use Rattle.protobuf_parse_wire.specs.Reading.{reader}
use Rattle.protobuf_parse_wire.specs.Encoded.{encoded}
use Rattle.protobuf_parse_options.specs.OptionBytes.{customs_by_files, option_bytes}
use Rattle.protobuf_parse_options.specs.DescriptorsByPath.{Environments, described_at}
use Rattle.protobuf_parse_options.specs.DescriptorsByPath.{descriptors_at}
use Rattle.protobuf_parse_options.specs.WithoutOptions.{bare_file, ReadingIgnoresOptions}
use Rattle.protobuf_parse_options.specs.WithoutOptions.{MeaningIgnoresOptions, CustomsIgnoreOptions}
use Rattle.protobuf_parse_options.specs.WithoutOptions.{DifferOnlyInCustoms, CustomsAreOptions}
use Rattle.protobuf_parse_options.specs.WithoutOptions.{CustomsMakeNoDifference}
use Rattle.protobuf_parse_options.proofs.BareFiles.{all-alike, file-alike}
use Rattle.protobuf_parse_options.proofs.BareReading.{reader-bare}
use Rattle.protobuf_parse_options.proofs.AlikeLookups.{faults-same, meaning-same}
use Rattle.protobuf_parse_options.proofs.BareLookups.{seen_from, lookups-alike}
use Rattle.protobuf_parse_options.specs.OptionBytes.{bytes_unless}
use Rattle.protobuf_parse_options.specs.CustomOptions.{denotes}
use Rattle.protobuf_parse_options.specs.CustomFaults.{custom_statement_faults}

pub reading_ignores_options : ReadingIgnoresOptions
reading_ignores_options files files' same message bytes =
    sym (reader-bare files message bytes)
    ∙ ap (λ (fs : List FileDescriptor). reader fs message bytes) same
    ∙ reader-bare files' message bytes

pub meaning_ignores_options : MeaningIgnoresOptions
meaning_ignores_options files files' visible visible' same seen scope construct os =
    meaning-same (seen_from files visible scope) (seen_from files' visible' scope)
    (lookups-alike files files' visible visible' same seen scope) construct os

pub customs_ignore_options : CustomsIgnoreOptions
customs_ignore_options files files' visible visible' same seen =
    let alike = lookups-alike files files' visible visible' same seen in
    let faults : (customs_by_files files visible).faults
    ≡ (customs_by_files files' visible').faults =
    fun_ext (λ (construct : Construct). fun_ext
    (λ (scope : Scope). fun_ext
    (λ (os : List OptionSyntax). faults-same (seen_from files visible scope)
    (seen_from files' visible' scope) (alike scope) construct os))) in
    let bytes : option_bytes files visible ≡ option_bytes files' visible' =
    fun_ext (λ (construct : Construct). fun_ext
    (λ (scope : Scope). fun_ext
    (λ (os : List OptionSyntax). ap (λ fs. bytes_unless fs
    (encoded (denotes (seen_from files visible scope) construct os)))
    (faults-same (seen_from files visible scope) (seen_from files' visible' scope) (alike scope)
    construct os)
    ∙ ap (λ es. bytes_unless
    (custom_statement_faults (seen_from files' visible' scope) construct os) (encoded es))
    (meaning_ignores_options files files' visible visible' same seen scope construct os)))) in
    ap (λ (fs : CustomFaults). record { faults = fs; bytes = option_bytes files visible }) faults
    ∙ ap (λ (bs : CustomBytes). record
    { faults = (customs_by_files files' visible').faults; bytes = bs }) bytes

-- what a path's tree becomes, if there is one
at-path : (env env' : Environments) → DifferOnlyInCustoms env env'
    → (p : Text) (o : Option FileSyntax)
    → map bare_file (map (described_at env p) (option_to_list o))
    ≡ map bare_file (map (described_at env' p) (option_to_list o))
at-path env env' differ p None = refl
at-path env env' differ p (Some t) = ap (λ f. f ∷ []) (
    ap (λ (e : Environment). bare_file (file_of e p t)) (differ p t)
    ∙ file-alike (env p t).customs (env' p t).customs (env' p t) p t
    )

pub customs_are_options : CustomsAreOptions
customs_are_options trees env env' paths differ =
    all-alike bare_file (λ (p : Text). map (described_at env p) (option_to_list (trees p)))
    (λ (p : Text). map (described_at env' p) (option_to_list (trees p)))
    (λ (p : Text). at-path env env' differ p (trees p)) paths

pub customs_make_no_difference : CustomsMakeNoDifference
customs_make_no_difference trees env env' reached seen differ =
    let reach = customs_are_options trees env env' reached differ in
    let sight = customs_are_options trees env env' seen differ in (
      reading_ignores_options (descriptors_at trees env reached)
          (descriptors_at trees env' reached) reach,
      customs_ignore_options (descriptors_at trees env reached) (descriptors_at trees env' reached)
          (descriptors_at trees env seen) (descriptors_at trees env' seen) reach sight,
    )
