-- From what parsing a text tells to the tree of what was read.
use Rattle.std.proofs.Common.{◌≡◌, inl, inr, ap, ◌∙◌, refl, ℕ, List, Option, Some, None, Result, Ok}
use Rattle.std.proofs.Common.{Err, subst}
use Rattle.std.specs.Prelude.{IfOk, IfErr}
use Rattle.std.specs.Str.{IsUtf8}
use Rattle.protobuf_parse_syntax.specs.Parsing.{HasTree}
use Rattle.protobuf_parse_syntax.specs.Trees.{FileSyntax, file_syntax}
use Rattle.protobuf_parse_syntax.specs.declared.tree.FileTree.{FileTree}
use Rattle.protobuf_parse_run.specs.declared.fault.RunFault.{RunFault}
use Rattle.protobuf_parse_run.specs.declared.fault.RunFault.TheVariants as fault
use Rattle.protobuf_parse_run.specs.declared.log.ReadOutcome.{ReadOutcome}
use Rattle.protobuf_parse_run.specs.Walks.{Asked}
use Rattle.protobuf_parse_run.specs.Run.{IsTree, IsTheTree, IsUnparsed, StandsInLoad}
use Rattle.protobuf_parse_run.specs.Run.{origin_given}
use Rattle.protobuf_parse_run.specs.Loading.{IsContentFault, IsParseFault}
use Rattle.protobuf_parse_run.specs.Run.{OrMemory}

the_one : (text : List ℕ) (t : FileSyntax) → IsUtf8 text → HasTree text t
    → ((u : FileSyntax) → HasTree text u → u ≡ t) → (u : Option FileSyntax) → IsTree (Some text) u
    → u ≡ Some t
the_one text t utf8 has only (Some u) h = ap Some (only u h.1)
the_one text t utf8 has only None h = absurd (h utf8 t has)

pub tree_found : (r : Result FileTree RunFault) (text bytes : List ℕ) → text ≡ bytes → IsUtf8 bytes
    → IfOk r (λ t. HasTree text (file_syntax t))
    → IfOk r (λ t. (u : FileSyntax) → HasTree text u → u ≡ file_syntax t)
    → IfOk r (λ t. IsTheTree (Some bytes) (Some (file_syntax t)))
tree_found (Ok t) text bytes e utf8 has only =
    rw (← e) ((rw (← e) at utf8, has), the_one text (file_syntax t) (rw (← e) at utf8) has only)
tree_found (Err f) text bytes e utf8 has only = tt

no_tree : (text : List ℕ) → ((u : FileSyntax) → HasTree text u → ⊥) → IsTheTree (Some text) None
no_tree text none = (λ utf8 u h. none u h, the_none)
  where
    the_none : (u : Option FileSyntax) → IsTree (Some text) u → u ≡ None
    the_none (Some u) h = absurd (none u h.1)
    the_none None h = refl

pub tree_lacking : (r : Result FileTree RunFault) (text bytes : List ℕ) → text ≡ bytes
    → IfErr r (λ f. OrMemory f ((u : FileSyntax) → HasTree text u → ⊥))
    → IfErr r (λ f. OrMemory f (IsTheTree (Some bytes) None))
tree_lacking (Ok t) text bytes e h = tt
tree_lacking (Err f) text bytes e (inl none) = inl (rw (← e) (no_tree text none))
tree_lacking (Err f) text bytes e (inr m) = inr m

-- bytes that are no text have no tree
pub tree_of_no_text : (bytes : List ℕ) → ¬ IsUtf8 bytes → IsTheTree (Some bytes) None
tree_of_no_text bytes bad = (λ utf8 u h. bad utf8, the_none)
  where
    the_none : (u : Option FileSyntax) → IsTree (Some bytes) u → u ≡ None
    the_none (Some u) h = absurd (bad h.0)
    the_none None h = refl

-- what a text is refused with, its bytes are
pub content_unparsed : (r : Result FileTree RunFault) (p origin text bytes : List ℕ)
    → text ≡ bytes → IsUtf8 bytes → IfErr r (λ f. OrMemory f (IsParseFault origin text f))
    → IfErr r (λ f. OrMemory f (IsContentFault p origin bytes f))
content_unparsed (Ok t) p origin text bytes e utf8 h = tt
content_unparsed (Err (fault.Parse file error)) p origin text bytes e utf8 (inl s) =
    inl (s.0, utf8, subst (λ (z : List ℕ). IsUnparsed z error) e s.1)
content_unparsed (Err _) p origin text bytes e utf8 (inl s) = absurd s
content_unparsed (Err f) p origin text bytes e utf8 (inr m) = inr m

pub content_stands : (f : RunFault) (asked : Asked) (p origin bytes : List ℕ)
    (answer : Option ReadOutcome) → origin ≡ origin_given p answer → IsContentFault p origin bytes f
    → StandsInLoad asked p answer (Some bytes) f
content_stands (fault.ContentIsNotUtf8 path) asked p origin bytes answer e h =
    (h.0, bytes, refl, h.1)
content_stands (fault.Parse file error) asked p origin bytes answer e h =
    (h.0 ∙ e, bytes, refl, h.1, h.2)
content_stands _ asked p origin bytes answer e h = absurd h

pub contents_stand : (r : Result FileTree RunFault) (asked : Asked) (p origin bytes : List ℕ)
    (answer : Option ReadOutcome) (text : Option (List ℕ)) → origin ≡ origin_given p answer
    → text ≡ Some bytes → IfErr r (λ f. OrMemory f (IsContentFault p origin bytes f))
    → IfErr r (λ f. OrMemory f (StandsInLoad asked p answer text f))
contents_stand (Ok t) asked p origin bytes answer text e is h = tt
contents_stand (Err f) asked p origin bytes answer text e is (inl s) =
    inl (rw is (content_stands f asked p origin bytes answer e s))
contents_stand (Err f) asked p origin bytes answer text e is (inr m) = inr m

pub lacks_tree : (r : Result FileTree RunFault) (bytes : List ℕ) (text : Option (List ℕ))
    → text ≡ Some bytes → IfErr r (λ f. OrMemory f (IsTheTree (Some bytes) None))
    → IfErr r (λ f. OrMemory f (IsTheTree text None))
lacks_tree r bytes text e h = rw e h
