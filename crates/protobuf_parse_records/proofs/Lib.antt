pub mod VarintBits
pub mod RecordLoop
pub mod GroupLoop
pub mod Steady
pub mod Later
pub mod WholeMessages
pub mod GroupsHold
