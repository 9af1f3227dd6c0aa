-- Laws of lines and of text that is written part by part.
pub mod WriteLaws
pub mod LineLaws
