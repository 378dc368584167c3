-- The chain of calls that leads to an account: a start and the calls after it, each answered from what the one before left.
use Rattle.std.specs.Prelude.{◌≡◌, List, [], ◌∷◌, Ok}
use Rattle.flight.specs.declared.start.Start.{Start}
use Rattle.flight.specs.declared.call.Call.{Call}
use Rattle.flight.specs.Calls.{Setting, Event}
use Rattle.flight.specs.Account.{Account}
use Rattle.flight.specs.Accounts.{start_outcome, outcome, answered, left_by}

-- the latest event first
pub data Chain (w : Setting) (s : Start) : List Event → Account → Type 0 where
  begins : {l : Account} → start_outcome w.aircraft s ≡ Ok l → Chain w s [] l
  goes_on : {es : List Event} {l : Account} → Chain w s es l → (c : Call) → Chain w s (record { call = c; answer = answered (outcome w l c) } ∷ es) (left_by l (outcome w l c))

-- an account that some chain led to
pub record Chained (w : Setting) (l : Account) : Type 0 where
  pub start : Start
  pub events : List Event
  pub chain : Chain w start events l
