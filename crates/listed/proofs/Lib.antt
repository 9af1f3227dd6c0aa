-- Laws of the text that is listed for an order.
pub mod TickLaws
pub mod RoomLaws
pub mod TrialLaws
pub mod ToolLaws
