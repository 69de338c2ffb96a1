-- A file's descriptor has the names that its tree has, each as often.
use Rattle.std.specs.Prelude.{◌≡◌, ◌<◌, length, Some}
use Rattle.protobuf_parse_syntax.specs.Trees.{FileSyntax, package_of}
use Rattle.protobuf_parse_model.specs.Descriptors.{Text}

-- a package that is named has a name
abbrev pub HasPackageName : FileSyntax → Type 0
HasPackageName t = (name : Text) → package_of t ≡ Some name → 0 < length name
