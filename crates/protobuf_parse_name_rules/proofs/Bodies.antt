-- What is told of services, and of options.
use Rattle.std.proofs.Common.{◌≡◌, ◌∙◌, ◌++◌, [], Bool, List, ap, append_assoc, flat_map}
use Rattle.std.proofs.Math.Path.{fun_ext}
use Rattle.protobuf_parse_syntax.specs.Trees.{ServiceSyntax}
use Rattle.protobuf_parse_model.specs.Descriptors.{Text}
use Rattle.protobuf_parse_model.specs.declared.customs.Construct.TheVariants as of
use Rattle.protobuf_parse_text_rules.specs.Breaches.{TextBreach}
use Rattle.protobuf_parse_text_rules.specs.Files.{option_in_service}
use Rattle.protobuf_parse_name_rules.specs.Fields.{CustomOption}
use Rattle.protobuf_parse_name_rules.specs.Files.{inside_service, service_breaches}
use Rattle.protobuf_parse_name_rules.specs.Lookups.{Viewpoint, within}
use Rattle.protobuf_parse_name_rules.specs.Names.{is_method}
use Rattle.protobuf_parse_name_rules.specs.Options.{constant_breaches, custom_breaches}
use Rattle.protobuf_parse_name_rules.specs.Options.{option_breaches, set_again}

pub service_told : (at inner : Viewpoint) (s : ServiceSyntax) (is : Text → Bool)
    (t0 t1 t2 : List TextBreach)
    → t1 ≡ t0 ++ option_breaches at of.Service (flat_map option_in_service s.body)
    → inner ≡ within at s.name → ((name : Text) → is name ≡ is_method s.body name)
    → t2 ≡ t1 ++ flat_map (inside_service at inner is) s.body
    → t2 ≡ t0 ++ service_breaches at s
service_told at inner s is t0 t1 t2 first inside known next =
    let own = option_breaches at of.Service (flat_map option_in_service s.body) in
    next ∙ ap (λ t. t ++ flat_map (inside_service at inner is) s.body) first
    ∙ append_assoc t0 own (flat_map (inside_service at inner is) s.body)
    ∙ ap (λ (v : Viewpoint). t0 ++ (own ++ flat_map (inside_service at v is) s.body)) inside
    ∙ ap (λ (m : Text → Bool).
    t0 ++ (own ++ flat_map (inside_service at (within at s.name) m) s.body)) (fun_ext known)

-- what is told of the options of a list or a body
pub options_told : (at : Viewpoint) (cs : List CustomOption) (a t0 t1 t2 t3 : List TextBreach)
    → t1 ≡ t0 ++ a → t2 ≡ t1 ++ set_again at [] cs → t3 ≡ t2 ++ flat_map (constant_breaches at) cs
    → t3 ≡ t0 ++ (a ++ custom_breaches at cs)
options_told at cs a t0 t1 t2 t3 one two three =
    let b = set_again at [] cs in
    let d = flat_map (constant_breaches at) cs in
    three ∙ ap (λ t. t ++ d) (two ∙ ap (λ t. t ++ b) one ∙ append_assoc t0 a b)
    ∙ append_assoc t0 (a ++ b) d ∙ ap (λ z. t0 ++ z) (append_assoc a b d)
