-- Laws of a side that was opened.
pub mod OpenLaws
pub mod AddressLaws
