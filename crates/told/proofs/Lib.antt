-- Laws of tools of C that are lent buffers beside those of the board's tools; and what is told of refusals.
pub mod BesidesLaws
pub mod Cases
