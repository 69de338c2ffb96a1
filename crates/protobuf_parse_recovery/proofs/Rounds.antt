-- Rounds of reading on.
use Rattle.std.proofs.Common.{◌≡◌, ◌∙◌, ℕ, suc, List, [], ◌∷◌, ◌++◌, ap, subst, sym}
use Rattle.std.proofs.Common.{append-nil, append_assoc, inl, inr, ◌⊎◌}
use Rattle.protobuf_parse_lexer.specs.Cut.{error_place, out_of_memory}
use Rattle.protobuf_parse_lexer.specs.declared.error.ParserError.TheVariants as error
use Rattle.protobuf_parse_syntax.specs.Parsing.{HasTree, IsFaultOf}
use Rattle.protobuf_parse_syntax.specs.Trees.{FileSyntax}
use Rattle.protobuf_parse_lexer.specs.Text.{Bytes}
use Rattle.protobuf_parse_lexer.specs.declared.error.ParserErrorWithLocation.{ParserErrorWithLocation}
use Rattle.protobuf_parse_recovery.specs.Masking.{masked}
use Rattle.protobuf_parse_recovery.specs.Recovery.{IsPart, ReadsOn, Stands, last, more, none, spent}
use Rattle.protobuf_parse_recovery.specs.declared.statement.Part.{Part}

abbrev pub Faults : Type 0
Faults = List ParserErrorWithLocation

-- what is told of what is left is, behind what was found, told of the text
abbrev pub Leads : ℕ → Bytes → Bytes → Faults → Type 0
Leads n text left found = (rest : Faults) → ReadsOn n left rest → ReadsOn 20 text (found ++ rest)

pub leads-none : (n : ℕ) (text left : Bytes) (found : Faults) → Leads n text left found
    → ReadsOn n left [] → ReadsOn 20 text found
leads-none n text left found leads reads =
    subst (λ (fs : Faults). ReadsOn 20 text fs) (append-nil found) (leads [] reads)

pub leads-spent : (n : ℕ) (text left : Bytes) (found : Faults) → n ≡ 0 → Leads n text left found
    → ReadsOn 20 text found
leads-spent n text left found over leads =
    leads-none n text left found leads (subst (λ (k : ℕ). ReadsOn k left []) (sym over) spent)

pub leads-last : (n m : ℕ) (text left : Bytes) (found new : Faults) (e : ParserErrorWithLocation)
    → n ≡ suc m → Leads n text left found → Stands left e → new ≡ found ++ e ∷ []
    → ReadsOn 20 text new
leads-last n m text left found new e is leads stands added =
    subst (λ (fs : Faults). ReadsOn 20 text fs) (sym added)
    (leads (e ∷ []) (subst (λ (k : ℕ). ReadsOn k left (e ∷ [])) (sym is) (last e stands)))

pub leads-more : (n m : ℕ) (text left z : Bytes) (found new : Faults) (e : ParserErrorWithLocation)
    (p : Part) → n ≡ suc m → Leads n text left found → Stands left e → IsPart left p
    → z ≡ masked left p.from p.to → new ≡ found ++ e ∷ [] → Leads m text z new
leads-more n m text left z found new e p is leads stands part blank added rest reads =
    let inner : ReadsOn m (masked left p.from p.to) rest =
    subst (λ (y : Bytes). ReadsOn m y rest) blank reads in
    let outer : ReadsOn n left (e ∷ rest) =
    subst (λ (k : ℕ). ReadsOn k left (e ∷ rest)) (sym is) (more e p stands part inner) in
    subst (λ (fs : Faults). ReadsOn 20 text fs)
    (sym (ap (λ x. x ++ rest) added ∙ append_assoc found (e ∷ []) rest))
    (leads (e ∷ rest) outer)

-- what a parser refuses not for want of memory
pub stands-there : (z now : Bytes) (e : ParserErrorWithLocation) → now ≡ z
    → (e ≡ out_of_memory) ⊎ IsFaultOf now e.error (error_place e) → (e.error ≡ error.Memory → ⊥)
    → Stands z e
stands-there z now e same (inl short) other =
    absurd (other (ap (λ (f : ParserErrorWithLocation). f.error) short))
stands-there z now e same (inr stands) other =
    subst (λ (y : Bytes). IsFaultOf y e.error (error_place e)) same stands

-- a tree
pub has-tree : (n : ℕ) (z now : Bytes) (t : FileSyntax) → now ≡ z → HasTree now t
    → ReadsOn n z []
has-tree n z now t same has = none t (subst (λ (y : Bytes). HasTree y t) same has)

-- a part
pub part-there : (z now : Bytes) (p : Part) → now ≡ z → IsPart now p → IsPart z p
part-there z now p same is = subst (λ (y : Bytes). IsPart y p) same is

-- a text with it as blanks
pub masked-there : (z now new : Bytes) (p : Part) → now ≡ z → new ≡ masked now p.from p.to
    → new ≡ masked z p.from p.to
masked-there z now new p same is = is ∙ ap (λ (y : Bytes). masked y p.from p.to) same
