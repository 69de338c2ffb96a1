-- Services by their full names, and their methods by their names.
use Rattle.std.specs.Prelude.{not, List, ◌++◌, ◌∷◌, [], flat_map, bytes_eq, Option, Some, None}
use Rattle.std.specs.Bool.{beq}
use Rattle.protobuf_parse_model.specs.Descriptors.{FileDescriptor, MethodDescriptor}
use Rattle.protobuf_parse_model.specs.Descriptors.{ServiceDescriptor}
use Rattle.protobuf_parse_index.specs.Lookups.{method_named, service_named}
use Rattle.protobuf_parse_index.specs.Walk.{Standing}
use Rattle.protobuf_parse_changes.specs.Changes.{Changed, Site, changed, changed_if, inside, site}
use Rattle.protobuf_parse_changes.specs.declared.kind.ChangeKind.TheVariants as kind

-- a method that both declare
abbrev pub kept_method : Site → (old new : MethodDescriptor) → List Changed
kept_method at old new =
    changed_if (not (bytes_eq old.input_type new.input_type)) kind.InputChanged at
    ++ (changed_if (not (bytes_eq old.output_type new.output_type)) kind.OutputChanged at
    ++ (changed_if (not (beq old.client_streaming new.client_streaming))
    kind.ClientStreamingChanged at
    ++ changed_if (not (beq old.server_streaming new.server_streaming))
    kind.ServerStreamingChanged at))

-- a method of the old service, and what has its name in the new one
abbrev pub method_or_none : Site → MethodDescriptor → Option MethodDescriptor → List Changed
method_or_none at old None = changed kind.MethodRemoved at ∷ []
method_or_none at old (Some new) = kept_method at old new

-- a method of the old service of that full name
abbrev pub method_changes : (new_files : List FileDescriptor) → Site → MethodDescriptor
    → List Changed
method_changes new_files at m =
    method_or_none (inside at m.name None) m (method_named new_files at.name m.name)

-- a service of the old files, and what has its name in the new ones
abbrev pub service_or_none : (new_files : List FileDescriptor) → Site → ServiceDescriptor
    → Option (Standing ServiceDescriptor) → List Changed
service_or_none new_files at old None = changed kind.ServiceRemoved at ∷ []
service_or_none new_files at old (Some new) = flat_map (method_changes new_files at) old.method

-- a service of the old files
abbrev pub service_changes : (new_files : List FileDescriptor) → Standing ServiceDescriptor
    → List Changed
service_changes new_files s =
    service_or_none new_files (site s.file s.name) s.what (service_named new_files s.name)
