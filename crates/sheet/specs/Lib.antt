-- What a sheet holds, and when it breaks the layout.
pub mod Sheet
pub mod Layout
pub mod Decisions
pub mod Table
pub mod Inside
