pub mod Log
pub mod Walking
pub mod AllPaths
