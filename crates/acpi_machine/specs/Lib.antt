pub mod MachineView
pub mod Explaining
pub mod OneBody
pub mod steps
