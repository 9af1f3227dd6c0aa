-- Laws of the planner: what it reads off one scan, what it draws, and what follows from its contract.
pub mod ListedLaws
pub mod DrawnLaws
pub mod ToolLaws
