pub mod Gaps
pub mod Pieces
pub mod BytePlaces
pub mod Machine
pub mod Views
pub mod InnerViews
