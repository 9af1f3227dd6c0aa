-- Laws of the clock and of the state.
pub mod ClockLaws
pub mod StateLaws
