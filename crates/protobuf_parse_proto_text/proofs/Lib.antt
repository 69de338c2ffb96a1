pub mod Growing
pub mod ValueTexts
pub mod Parentheses
pub mod Inside
pub mod Found
pub mod Ordering
