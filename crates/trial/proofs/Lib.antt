-- Laws.
pub mod LampLaws
pub mod CallLaws
pub mod ToolLaws
