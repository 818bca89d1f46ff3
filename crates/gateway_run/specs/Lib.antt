pub mod WholeRun
pub mod FaultlessRun
