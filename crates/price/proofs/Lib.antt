-- Laws of the price, and cases.
pub mod PriceLaws
pub mod Cases
