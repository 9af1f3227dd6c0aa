-- An order tried out.
pub mod Trial
pub mod Inside
