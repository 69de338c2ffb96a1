-- What changes break, at most: bytes and calls, and with them JSON and sources; JSON, and with it
-- sources; or sources alone.
use Rattle.protobuf_parse_changes.specs.declared.kind.Category.{Category}
use Rattle.protobuf_parse_changes.specs.declared.kind.Category.TheVariants as category
use Rattle.protobuf_parse_changes.specs.declared.kind.ChangeKind.{ChangeKind}
use Rattle.protobuf_parse_changes.specs.declared.kind.ChangeKind.TheVariants as kind

-- what changes of the kind break, at most
abbrev pub category_of : ChangeKind → Category
category_of kind.ServiceRemoved = category.Wire
category_of kind.MethodRemoved = category.Wire
category_of kind.NumberNotReserved = category.Wire
category_of kind.ReservedNumberUsed = category.Wire
category_of kind.RequiredChanged = category.Wire
category_of kind.DefaultChanged = category.Wire
category_of kind.RequiredFieldAdded = category.Wire
category_of kind.OneofChanged = category.Wire
category_of kind.OneofMemberRemoved = category.Wire
category_of kind.OpennessChanged = category.Wire
category_of kind.ExtensionNumberChanged = category.Wire
category_of kind.ExtendeeChanged = category.Wire
category_of kind.InputChanged = category.Wire
category_of kind.OutputChanged = category.Wire
category_of kind.ClientStreamingChanged = category.Wire
category_of kind.ServerStreamingChanged = category.Wire
category_of kind.NameNotReserved = category.Json
category_of kind.ReservedNameUsed = category.Json
category_of kind.FieldRenamed = category.Json
category_of kind.EnumValueRenamed = category.Json
category_of kind.JsonNameChanged = category.Json
category_of kind.TypeChanged = category.Json
category_of kind.RepeatedChanged = category.Json
category_of kind.FileRemoved = category.Source
category_of kind.PackageChanged = category.Source
category_of kind.FileOptionChanged = category.Source
category_of kind.MessageRemoved = category.Source
category_of kind.EnumRemoved = category.Source
category_of kind.ExtensionRemoved = category.Source
category_of kind.FieldRemoved = category.Source
category_of kind.OneofRemoved = category.Source
category_of kind.EnumValueRemoved = category.Source
category_of kind.TypeNameChanged = category.Source
