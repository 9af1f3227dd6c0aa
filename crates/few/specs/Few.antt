-- What a contract sees of a few things.
--   Items T     the things, in order
use Rattle.std.specs.Prelude.{List}

pub record Items (T : Type 0) : Type 0 where
  pub items : List T
