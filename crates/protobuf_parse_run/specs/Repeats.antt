-- Where a full name is told that two of the files which a file reaches declare.
--
-- E5 and E6 speak of a full name that is declared twice. They are told at the last statement of the
-- file that declares it; or, where that file declares it nowhere itself, at the import with which
-- the last of the files that do is reached.
use Rattle.std.specs.Prelude.{Bool, true, false, not, List, [], ◌∷◌, map, filter, if◌then◌else◌}
use Rattle.std.specs.Prelude.{Option, Some, None}
use Rattle.protobuf_parse_lexer.specs.declared.lexer.token.Place.{Place}
use Rattle.protobuf_parse_syntax.specs.Dependencies.{imports}
use Rattle.protobuf_parse_syntax.specs.Trees.{FileSyntax, ImportSyntax}
use Rattle.protobuf_parse_model.specs.declared.error.ElabErrorKind.{ElabErrorKind}
use Rattle.protobuf_parse_model.specs.declared.error.ElabErrorKind.TheVariants as kind
use Rattle.protobuf_parse_model.specs.Descriptors.{Text}
use Rattle.protobuf_parse_model.specs.Faults.{Fault}
use Rattle.protobuf_parse_model.specs.LastDeclared.{last_declared}
use Rattle.protobuf_parse_model.specs.Linking.{beginning, declares_name, link_faults}
use Rattle.protobuf_parse_elaboration.specs.FilesByPath.{Trees, among, trees_at}

-- whether a list is empty
abbrev pub is_nothing : {A : Type 0} → List A → Bool
is_nothing [] = true
is_nothing (x ∷ xs) = false

-- those of the files that the file at the path doesn't reach
abbrev pub out_of_reach : {A : Type 0} → (Text → A → Bool) → Text → List A → List A
out_of_reach reaches path files = filter (λ x. not (reaches path x)) files

-- The place of the first import with which each of the files is reached, by it or by one before it.
abbrev pub completing_import : {A : Type 0} → (Text → A → Bool) → List A → List ImportSyntax
    → Option Place
completing_import reaches files [] = None
completing_import reaches files (i ∷ is) =
    if is_nothing (out_of_reach reaches i.path files) then Some i.place
    else completing_import reaches (out_of_reach reaches i.path files) is

-- the first place that there is
abbrev pub or_place : Option Place → Option Place → Place
or_place (Some p) other = p
or_place None (Some p) = p
or_place None None = beginning

-- where a file tells that a name is declared twice, which these files declare: E6 speaks of an
-- extension, E5 of a message or an enum
abbrev pub repeat_place : {A : Type 0} → (Text → A → Bool) → List A → FileSyntax → Bool → Text
    → Place
repeat_place reaches files t extension name =
    or_place (last_declared extension name t)
    (completing_import reaches files (imports t.statements))

-- whether a fault is E6
abbrev pub is_of_extension : ElabErrorKind → Bool
is_of_extension kind.ExtensionDeclaredTwice = true
is_of_extension _ = false

-- the fault, at the place of what it speaks of
abbrev pub told_at : (Bool → Text → Place) → Fault → Fault
told_at place f = record {
  place = place (is_of_extension f.wrong.kind) f.wrong.what;
  wrong = f.wrong;
}

-- those of the paths whose trees declare the name
abbrev pub declaring : Trees → Bool → Text → List Text → List Text
declaring trees extension name ps =
    filter (λ (p : Text). declares_name extension name (trees p)) ps

-- E5 and E6 of the file with this path and tree, by the paths that each file reaches
abbrev pub repeat_faults : Trees → (Text → List Text) → Text → FileSyntax → List Fault
repeat_faults trees reached p t =
    map (told_at (λ extension name.
    repeat_place (λ q r. among r (reached q)) (declaring trees extension name (reached p))
    t extension name))
    (link_faults (trees_at trees (reached p)))
