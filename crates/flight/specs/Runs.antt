-- What each call says of the flight before and after it, and the runs that such calls make.
--   Started Made     the contracts of a start and of every later call
--   Run              a start and the calls after it, each made on the flight that the one before left
use Rattle.std.specs.Prelude.{◌≡◌, List, [], ◌∷◌, IfOk, Ok, Result}
use Rattle.refusal.specs.declared.refusal.Refusal.{Refusal}
use Rattle.aircraft.specs.declared.record.Aircraft.{Aircraft}
use Rattle.engine.specs.declared.kind.Kind as Kind
use Rattle.air.specs.declared.day.Day as Day
use Rattle.air.specs.Day.{Air}
use Rattle.engine.specs.Meaning.{KindMeaning}
use Rattle.flight.specs.declared.flight.Flight.{Flight}
use Rattle.flight.specs.declared.start.Start.{Start}
use Rattle.flight.specs.declared.call.Call.{Call}
use Rattle.flight.specs.Calls.{Setting, Answer, Event}
use Rattle.flight.specs.Account.{Account}
use Rattle.flight.specs.Accounts.{start_outcome, begun, Outcome, outcome, answered, left_by}

module _ {K D : Type 0} (engine : K → KindMeaning) (air : D → Air) where
  abbrev pub setting : Aircraft → K → D → Setting
  setting aircraft kind day = record { aircraft = aircraft; engine = engine kind; air = air day }

module _ {K D : Type 0} {k : Kind.Ghosts K} {d : Day.Ghosts D} where
  abbrev pub account : Flight K D k d → Account
  account f = f.status

  -- a flight of this aircraft, kind and day
  pub record FlightOf (aircraft : Aircraft) (kind : K) (day : D) (f : Flight K D k d) : Type 0 where
    pub aircraft_is : f.aircraft ≡ aircraft
    pub kind_is : f.kind ≡ kind
    pub day_is : f.day ≡ day

  pub record Started (aircraft : Aircraft) (kind : K) (day : D) (s : Start) (r : Result (Flight K D k d) Refusal) : Type 0 where
    pub answer : begun account r ≡ start_outcome aircraft s
    pub same : IfOk r (FlightOf aircraft kind day)

module _ {K D : Type 0} {k : Kind.Ghosts K} {d : Day.Ghosts D} (engine : K → KindMeaning) (air : D → Air) where
  abbrev pub flight_outcome : Flight K D k d → (c : Call) → Outcome (Answer c)
  flight_outcome f c = outcome (setting engine air f.aircraft f.kind f.day) (account f) c

  -- on the flight f the call c was answered by r, and left the flight g
  pub record Made (f : Flight K D k d) (c : Call) (r : Result (Answer c) Refusal) (g : Flight K D k d) : Type 0 where
    pub answer : r ≡ answered (flight_outcome f c)
    pub left : account g ≡ left_by (account f) (flight_outcome f c)
    pub same : FlightOf f.aircraft f.kind f.day g

  -- the latest event first
  pub data Run (aircraft : Aircraft) (kind : K) (day : D) (s : Start) : List Event → Flight K D k d → Type 0 where
    started : {f : Flight K D k d} → Started aircraft kind day s (Ok f) → Run aircraft kind day s [] f
    then : {f g : Flight K D k d} {es : List Event} {c : Call} {r : Result (Answer c) Refusal} → Run aircraft kind day s es f → Made f c r g → Run aircraft kind day s (record { call = c; answer = r } ∷ es) g
