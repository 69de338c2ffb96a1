-- The options of files that generated code depends on.
use Rattle.std.specs.Prelude.{ℕ, Bool, not, List, ◌++◌, codes, Option, Some, None, unwrap_or}
use Rattle.protobuf_parse_model.specs.Descriptors.{Text, FileDescriptor}
use Rattle.protobuf_parse_model.specs.Options.{FileOptionValues}
use Rattle.protobuf_parse_index.specs.Empty.{no_file_options}
use Rattle.protobuf_parse_changes.specs.Changes.{Changed, Site, changed_if, inside}
use Rattle.protobuf_parse_changes.specs.Same.{same_flag, same_text}
use Rattle.protobuf_parse_changes.specs.declared.kind.ChangeKind.TheVariants as kind

-- an option of that name, if it isn't the same
abbrev pub option_change : Site → (name : Text) → (same : Bool) → List Changed
option_change at name same = changed_if (not same) kind.FileOptionChanged (inside at name None)

-- a text, by the name of its option
abbrev pub text_change : Site → (name : Text) → (old new : Option Text) → List Changed
text_change at name old new = option_change at name (same_text old new)

-- a flag, by the name of its option
abbrev pub flag_change : Site → (name : Text) → (old new : Option Bool) → List Changed
flag_change at name old new = option_change at name (same_flag old new)

-- those of Java
abbrev pub java_changes : Site → (old new : FileOptionValues) → List Changed
java_changes at old new =
    text_change at (codes "java_package") old.java_package new.java_package
    ++ (text_change at (codes "java_outer_classname") old.java_outer_classname
    new.java_outer_classname
    ++ flag_change at (codes "java_multiple_files") old.java_multiple_files
    new.java_multiple_files)

-- those of PHP
abbrev pub php_changes : Site → (old new : FileOptionValues) → List Changed
php_changes at old new =
    text_change at (codes "php_class_prefix") old.php_class_prefix new.php_class_prefix
    ++ (text_change at (codes "php_namespace") old.php_namespace new.php_namespace
    ++ text_change at (codes "php_metadata_namespace") old.php_metadata_namespace
    new.php_metadata_namespace)

-- those of languages that have one each
abbrev pub language_changes : Site → (old new : FileOptionValues) → List Changed
language_changes at old new =
    text_change at (codes "go_package") old.go_package new.go_package
    ++ (text_change at (codes "objc_class_prefix") old.objc_class_prefix new.objc_class_prefix
    ++ (text_change at (codes "csharp_namespace") old.csharp_namespace new.csharp_namespace
    ++ (text_change at (codes "swift_prefix") old.swift_prefix new.swift_prefix
    ++ text_change at (codes "ruby_package") old.ruby_package new.ruby_package)))

-- whether services are generated
abbrev pub service_option_changes : Site → (old new : FileOptionValues) → List Changed
service_option_changes at old new =
    flag_change at (codes "cc_generic_services") old.cc_generic_services new.cc_generic_services
    ++ (flag_change at (codes "java_generic_services") old.java_generic_services
    new.java_generic_services
    ++ flag_change at (codes "py_generic_services") old.py_generic_services
    new.py_generic_services)

-- all of these
abbrev pub option_changes : Site → (old new : FileOptionValues) → List Changed
option_changes at old new =
    java_changes at old new
    ++ (language_changes at old new
    ++ (php_changes at old new ++ service_option_changes at old new))

-- the options of a file; one that says none has none set
abbrev pub options_of : FileDescriptor → FileOptionValues
options_of f = unwrap_or f.options no_file_options
