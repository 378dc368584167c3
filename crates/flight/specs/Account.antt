-- What a flight keeps: its state, its masses in mg, and the seconds flown.
use Rattle.std.specs.Prelude.{ℕ}
use Rattle.flight.specs.declared.status.State.{State}

pub record Account : Type 0 where
  pub state : State
  pub zero_fuel : ℕ
  pub fuel : ℕ
  pub reserve : ℕ
  pub seconds : ℕ
