pub mod Contents
pub mod FileExpressions
pub mod Inside
