pub mod ProtoText
pub mod Pieces
pub mod Items
pub mod Order
pub mod Puts
pub mod SaidViews
pub mod OrderViews
pub mod Made
