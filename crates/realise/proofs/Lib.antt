-- Laws of the run in two halves: a sheet realises an order exactly when it is right for it; and cases that are computed.
pub mod Fits
pub mod HalfLaws
pub mod CalledLaws
pub mod OneFrame
pub mod OneRun
pub mod RealiseLaws
pub mod BoundLaws
pub mod ExactLaws
pub mod SheetLaws
pub mod Cases
