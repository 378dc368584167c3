-- What is claimed of every run: the flight stays close to the exact book, its mark says so, and its fuel balances.
use Rattle.std.specs.Prelude.{◌≡◌, ℕ, ◌+◌, true, false, List, [], ◌∷◌, map, Ok, Err, Result}
use Rattle.refusal.specs.declared.refusal.Refusal.{Refusal}
use Rattle.exact.specs.Rational.{nat, ◌+ℚ◌, ◌≤ℚ◌, ◌<ℚ◌, Near}
use Rattle.aircraft.specs.declared.record.Aircraft.{Aircraft}
use Rattle.engine.specs.declared.kind.Kind as Kind
use Rattle.air.specs.declared.day.Day as Day
use Rattle.air.specs.Day.{Air}
use Rattle.engine.specs.Meaning.{KindMeaning}
use Rattle.flight.specs.declared.flight.Flight.{Flight}
use Rattle.flight.specs.declared.reading.Reading.{Reading}
use Rattle.flight.specs.declared.start.Start.{Start}
use Rattle.flight.specs.declared.call.Call.{Call}
use Rattle.flight.specs.declared.call.Call.TheVariants.{Leg, Uplift, Jettison, Touchdown}
use Rattle.flight.specs.Calls.{Setting, in_mg, starting_mass, starting_reserve, Answer, Event}
use Rattle.flight.specs.Book.{told, book_mass, book_fuel, tolerance}
use Rattle.flight.specs.Runs.{setting, Run}

-- fuel in mg that an accepted call put in, threw out or burned, the burn as it was answered
abbrev pub put_in : (c : Call) → Result (Answer c) Refusal → ℕ
put_in (Leg n x) r = 0
put_in (Uplift grams) (Ok a) = in_mg grams
put_in (Uplift grams) (Err e) = 0
put_in (Jettison grams) r = 0
put_in Touchdown r = 0

abbrev pub thrown_out : (c : Call) → Result (Answer c) Refusal → ℕ
thrown_out (Leg n x) r = 0
thrown_out (Uplift grams) r = 0
thrown_out (Jettison grams) (Ok a) = in_mg grams
thrown_out (Jettison grams) (Err e) = 0
thrown_out Touchdown r = 0

abbrev pub burned_by : (c : Call) → Result (Answer c) Refusal → ℕ
burned_by (Leg n x) (Ok a) = a.burn
burned_by (Leg n x) (Err e) = 0
burned_by (Uplift grams) r = 0
burned_by (Jettison grams) r = 0
burned_by Touchdown r = 0

abbrev pub summed : ((c : Call) → Result (Answer c) Refusal → ℕ) → List Event → ℕ
summed of_call [] = 0
summed of_call (e ∷ es) = of_call e.call e.answer + summed of_call es

pub record Claims (w : Setting) (s : Start) (es : List Event) (r : Reading) : Type 0 where
  -- the mass is as near to the book's as the accepted legs allow
  pub close : Near (nat r.mass) (book_mass w s (map told es)) (nat (tolerance (map told es)))
  -- with the mark up the book's fuel is below the reserve and that much more
  pub mark_up : r.minimum ≡ true → book_fuel w s (map told es) <ℚ nat (starting_reserve s + tolerance (map told es))
  -- with the mark down it is at least the reserve less that much
  pub mark_down : r.minimum ≡ false → nat (starting_reserve s) ≤ℚ book_fuel w s (map told es) +ℚ nat (tolerance (map told es))
  -- what was there and what was put in is there, was thrown out or was burned, to the milligram
  pub balance : starting_mass s + summed put_in es ≡ r.mass + summed thrown_out es + summed burned_by es

-- a start and calls of whose book a reading keeps the claims
pub record SomeBook (w : Setting) (r : Reading) : Type 0 where
  pub start : Start
  pub events : List Event
  pub claims : Claims w start events r

module _ {K D : Type 0} {k : Kind.Ghosts K} {d : Day.Ghosts D} (engine : K → KindMeaning) (air : D → Air) where
  -- whatever run led to a flight, what is read of it keeps the claims
  abbrev pub KeepsToTheBook : Flight K D k d → Reading → Type 0
  KeepsToTheBook f r =
      (aircraft : Aircraft) (kind : K) (day : D) (s : Start) (es : List Event) →
      Run engine air aircraft kind day s es f → Claims (setting engine air aircraft kind day) s es r
