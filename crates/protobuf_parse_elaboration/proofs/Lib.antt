pub mod Gathering
pub mod Told
pub mod Naming
pub mod Repeats
pub mod Unlike
pub mod Lookups
mod Rows
pub mod Levels
pub mod Decodings
pub mod Settings
pub mod StatedOptions
pub mod Bodies
pub mod Files
pub mod Extending
pub mod Orders
pub mod Closing
pub mod EachOne
pub mod DeclaredMessages
mod ExtendGroups
pub mod NamedKinds
pub mod NamedTypes
pub mod SameNames
pub mod AddedFaults
pub mod ConstructSets
pub mod MessageSets
pub mod SameBytes
pub mod CustomSets
