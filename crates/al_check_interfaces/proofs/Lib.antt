pub mod Inside
pub mod Parts
pub mod Cuts
pub mod Paths
pub mod CallLists
pub mod Exact
pub mod Positions
pub mod Placeless
