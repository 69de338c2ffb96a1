pub mod Views
pub mod Wire
pub mod Unplaced
pub mod Splitting
pub mod Laws
