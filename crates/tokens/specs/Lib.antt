pub mod Rules
pub mod Run
