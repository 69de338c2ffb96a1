-- Files that agree where a file reaches: it sees the same, and faults stand there in both or none.
use Rattle.std.proofs.Common.{◌≡◌, ◌∙◌, true, List, [], ◌∷◌, ◌++◌, Option, Some, ap, flat_map, map}
use Rattle.std.proofs.Common.{refl, sym}
use Rattle.std.specs.Prelude.{bytes_eq, option_to_list}
use Rattle.protobuf_parse_syntax.specs.Trees.{FileSyntax}
use Rattle.protobuf_parse_model.specs.Descriptors.{FileDescriptor, Text}
use Rattle.protobuf_parse_model.specs.Environment.{no_customs}
use Rattle.protobuf_parse_model.specs.Faults.{Fault}
use Rattle.protobuf_parse_model.specs.Linking.{before_others, link_faults}
use Rattle.protobuf_parse_elaboration.specs.FileDescriptor.{environment, file_faults, file_of}
use Rattle.protobuf_parse_elaboration.specs.FilesByPath.{leads, stays, trees_at}
use Rattle.protobuf_parse_options.specs.CustomFaults.{custom_option_faults}
use Rattle.protobuf_parse_run.specs.Repeats.{repeat_faults}
use Rattle.protobuf_parse_run.specs.Run.{Files, faults_at, plains_at}
use Rattle.protobuf_parse_run.specs.Stability.{AgreeOn}
use Rattle.protobuf_parse_run.specs.Walks.{HandsOn, Reaches, Sees, Trees, among, by_import}
use Rattle.protobuf_parse_run.specs.Walks.{sees_itself}
use Rattle.protobuf_parse_run.proofs.FirstFaults.{no-others, none-after}
use Rattle.protobuf_parse_run.proofs.Keeping.{or_left, or_right, text-same}
use Rattle.protobuf_parse_run.proofs.Knowing.{public-imported}
use Rattle.protobuf_parse_run.proofs.Repeating.{once-told}
use Rattle.protobuf_parse_check.proofs.Settled.{repeats-none}

hands-over : (old new : Trees) (p q : Text) → AgreeOn (Reaches old p) old new → HandsOn old p q
    → HandsOn new p q
hands-over old new p q agree (stays _) = stays p
hands-over old new p q agree (leads _ m _ t is a rest) =
    leads p m q t (agree p (stays p) ∙ is) a
    (hands-over old new m q (λ r h. agree r (leads p m r t is (public-imported m t a) h)) rest)

pub sees-over : (old new : Trees) (p q : Text) → AgreeOn (Reaches old p) old new → Sees old p q
    → Sees new p q
sees-over old new p q agree (sees_itself _) = sees_itself p
sees-over old new p q agree (by_import _ m _ t is a rest) =
    by_import p m q t (agree p (stays p) ∙ is) a
    (hands-over old new m q (λ r h. agree r (leads p m r t is a h)) rest)

each-alike : {A : Type 0} (f g : Text → List A) (ps : List Text)
    → ((q : Text) → among q ps ≡ true → f q ≡ g q) → flat_map f ps ≡ flat_map g ps
each-alike f g [] same = refl
each-alike f g (p ∷ ps) same =
    ap (λ zs. zs ++ flat_map f ps) (same p (or_left (bytes_eq p p) (among p ps) (text-same p)))
    ∙ ap (λ zs. g p ++ zs)
    (each-alike f g ps (λ q m. same q (or_right (bytes_eq q p) (among q ps) m)))

pub trees-alike : (old new : Trees) (ps : List Text)
    → ((q : Text) → among q ps ≡ true → old q ≡ new q) → trees_at old ps ≡ trees_at new ps
trees-alike old new ps same =
    each-alike (λ (q : Text). option_to_list (old q)) (λ (q : Text). option_to_list (new q)) ps
    (λ q m. ap (λ (o : Option FileSyntax). option_to_list o) (same q m))

-- files that have the same trees and see the same there
pub plains-alike : (old new : Files) (ps : List Text)
    → ((q : Text) → among q ps ≡ true → old.trees q ≡ new.trees q)
    → ((q : Text) → among q ps ≡ true
    → trees_at old.trees (old.seen q) ≡ trees_at new.trees (new.seen q))
    → plains_at old ps ≡ plains_at new ps
plains-alike old new ps same sight =
    each-alike
    (λ (q : Text). map (λ (t : FileSyntax). file_of (environment (trees_at old.trees (old.seen q))
    no_customs t) q t) (option_to_list (old.trees q)))
    (λ (q : Text). map (λ (t : FileSyntax). file_of (environment (trees_at new.trees (new.seen q))
    no_customs t) q t) (option_to_list (new.trees q)))
    ps
    (λ q m. ap (λ (ts : List FileSyntax). map (λ (t : FileSyntax). file_of (environment ts
    no_customs t) q t) (option_to_list (old.trees q))) (sight q m)
    ∙ ap (λ (o : Option FileSyntax). map (λ (t : FileSyntax). file_of (environment
    (trees_at new.trees (new.seen q)) no_customs t) q t) (option_to_list o)) (same q m))

-- where what a file reaches and sees is the same no fault stands in both or in none
pub none-alike : (old new : Files) (p : Text) (t : FileSyntax)
    → trees_at old.trees (old.reached p) ≡ trees_at new.trees (new.reached p)
    → trees_at old.trees (old.seen p) ≡ trees_at new.trees (new.seen p)
    → plains_at old (old.reached p) ≡ plains_at new (new.reached p)
    → plains_at old (old.seen p) ≡ plains_at new (new.seen p)
    → faults_at old p (Some t) ≡ [] → faults_at new p (Some t) ≡ []
none-alike old new p t reach sight plains seen none =
    let others : Files → List Fault = λ fs. before_others
    (file_faults (environment (trees_at fs.trees (fs.seen p)) no_customs t) t)
    (custom_option_faults (plains_at fs (fs.reached p)) (plains_at fs (fs.seen p)) t) in
    let linked : link_faults (trees_at new.trees (new.reached p)) ≡ [] =
    ap link_faults (sym reach) ∙ once-told old p t (others old) none in
    let same : others new ≡ others old =
    ap (λ (ts : List FileSyntax). before_others (file_faults (environment ts no_customs t) t)
    (custom_option_faults (plains_at new (new.reached p)) (plains_at new (new.seen p)) t))
    (sym sight)
    ∙ ap (λ (ds : List FileDescriptor). before_others
    (file_faults (environment (trees_at old.trees (old.seen p)) no_customs t) t)
    (custom_option_faults ds (plains_at new (new.seen p)) t)) (sym plains)
    ∙ ap (λ (ds : List FileDescriptor). before_others
    (file_faults (environment (trees_at old.trees (old.seen p)) no_customs t) t)
    (custom_option_faults (plains_at old (old.reached p)) ds t)) (sym seen) in
    no-others (repeat_faults new.trees new.reached p t) (others new)
    (repeats-none new.trees new.reached p t linked)
    (same ∙ none-after (repeat_faults old.trees old.reached p t) (others old) none)
