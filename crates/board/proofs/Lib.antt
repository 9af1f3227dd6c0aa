-- That no second answer is possible; and what C is told, in the order that board.h gives.
pub mod ToolLaws
pub mod Cases
