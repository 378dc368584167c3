-- A count up to a limit.
use Rattle.std.specs.Prelude.{ℕ, Some, None, Option, nat_le}
use Rattle.opf.specs.Numbers.{kept}

abbrev pub at_most : ℕ → Option ℕ → Option ℕ
at_most high None = None
at_most high (Some v) = kept (nat_le v high) v
