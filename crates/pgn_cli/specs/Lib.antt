pub mod FaultLine
pub mod Program
