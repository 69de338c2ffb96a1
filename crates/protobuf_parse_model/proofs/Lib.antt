mod Copies
pub mod Blaming
pub mod Ascending
pub mod Slots
pub mod OrTests
pub mod TreeViews
pub mod Scopes
pub mod FileOrder
pub mod DeclaredAt
pub mod NamesWithPlaces
pub mod LastDeclared
pub mod Tables
pub mod ByHash
pub mod Picks
pub mod Links
pub mod DeclaringFiles
pub mod Sights
pub mod Levels
