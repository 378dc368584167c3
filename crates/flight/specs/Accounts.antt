-- What a flight keeps, what it answers to each call, and what each call leaves.
--   start_outcome               the account of an accepted start
--   outcome                     the answer to a later call with the account that it leaves, or the first refusal that holds
--   answered left_by            the answer alone, and what is left; a refusal leaves the account as it was
--   reading_of                  mass, fuel and minimum-fuel mark
use Rattle.std.specs.Prelude.{◌≡◌, ℕ, ◌+◌, ◌-◌, ◌^◌, Bool, cond, ◌&&◌, Ok, Err, Result, nat_le, nat_lt}
use Rattle.std.specs.Result.{result_map_both}
use Rattle.refusal.specs.declared.refusal.Refusal.{Refusal}
use Rattle.refusal.specs.declared.refusal.Refusal.TheVariants as refusal
use Rattle.aircraft.specs.declared.record.Aircraft.{Aircraft}
use Rattle.leg.specs.declared.flown.Flown.{Flown}
use Rattle.leg.specs.declared.phase.Phase.{Phase}
use Rattle.leg.specs.Phases.{phase_numbered}
use Rattle.leg.specs.declared.figures.Figures.{Figures}
use Rattle.leg.specs.Requests.{taken_figures, from_to}
use Rattle.leg.specs.Legs.{leg_answer}
use Rattle.flight.specs.declared.reading.Reading.{Reading}
use Rattle.flight.specs.declared.status.State.{State}
use Rattle.flight.specs.declared.status.State.TheVariants.{Stand}
use Rattle.flight.specs.declared.states.Transition.TheVariants as transition
use Rattle.flight.specs.declared.start.Start.{Start}
use Rattle.flight.specs.declared.call.Call.{Call}
use Rattle.flight.specs.declared.call.Call.TheVariants.{Leg, Uplift, Jettison, Touchdown}
use Rattle.flight.specs.Calls.{Setting, in_mg, reserve_or_default, starting_mass, starting_reserve, Answer}
use Rattle.flight.specs.Account.{Account}
use Rattle.flight.specs.States.{next_state}

abbrev pub mass_of : Account → ℕ
mass_of l = l.zero_fuel + l.fuel

-- the mark is up exactly if the fuel is below the reserve
abbrev pub reading_of : Account → Reading
reading_of l = record { mass = mass_of l; fuel = l.fuel; minimum = nat_lt l.fuel l.reserve }

-- what is changed in an account: zero-fuel mass and reserve stay
abbrev pub changed : Account → State → (fuel seconds : ℕ) → Account
changed l state fuel seconds = record { state = state; zero_fuel = l.zero_fuel; fuel = fuel; reserve = l.reserve; seconds = seconds }

-- refused by e unless the test holds
abbrev pub unless : {A : Type 0} → Refusal → Bool → Result A Refusal → Result A Refusal
unless e test r = cond test r (Err e)

abbrev pub and_then : {A B : Type 0} → Result A Refusal → (A → Result B Refusal) → Result B Refusal
and_then (Ok a) f = f a
and_then (Err e) f = Err e

abbrev pub most_grams : ℕ
most_grams = 10 ^ 9

abbrev pub most_seconds : ℕ
most_seconds = 10 ^ 6

-- Starts.

abbrev pub start_grams : Start → Bool
start_grams s = nat_le s.zero_fuel most_grams && (nat_le s.fuel most_grams && nat_le (reserve_or_default s.reserve) most_grams)

abbrev pub first_account : Start → Account
first_account s = record { state = Stand; zero_fuel = in_mg s.zero_fuel; fuel = in_mg s.fuel; reserve = starting_reserve s; seconds = 0 }

abbrev pub start_outcome : Aircraft → Start → Result Account Refusal
start_outcome a s =
    unless refusal.Grams (start_grams s)
    (unless refusal.ZeroFuel (nat_le a.masses.minimum s.zero_fuel)
    (unless refusal.Overweight (nat_le (starting_mass s) (in_mg a.masses.maximum)) (Ok (first_account s))))

-- what is kept where a start is accepted
abbrev pub begun : {A : Type 0} → (A → Account) → Result A Refusal → Result Account Refusal
begun kept = result_map_both kept (λ e. e)

-- Later calls.

pub record Done (A : Type 0) : Type 0 where
  pub answer : A
  pub left : Account

abbrev pub Outcome : Type 0 → Type 0
Outcome A = Result (Done A) Refusal

abbrev pub answered : {A : Type 0} → Outcome A → Result A Refusal
answered (Ok d) = Ok d.answer
answered (Err e) = Err e

abbrev pub left_by : {A : Type 0} → Account → Outcome A → Account
left_by l (Ok d) = d.left
left_by l (Err e) = l

-- on the account l a call with the outcome o was answered by r, and left the account m
pub record Leaves {A : Type 0} (l : Account) (o : Outcome A) (r : Result A Refusal) (m : Account) : Type 0 where
  pub answer : r ≡ answered o
  pub left : m ≡ left_by l o

abbrev pub silent : Account → Outcome (Unit {0})
silent l = Ok (record { answer = tt; left = l })

-- the fuel that a leg leaves, refused where it burns more than there is
abbrev pub leg_fuelled : Account → State → (seconds : ℕ) → Flown → Outcome Flown
leg_fuelled l next seconds a =
    unless refusal.FuelShort (nat_le a.burn l.fuel) (Ok (record { answer = a; left = changed l next (l.fuel - a.burn) (l.seconds + seconds) }))

-- a leg that the state takes, with figures that the aircraft takes
abbrev pub leg_taken : Setting → Account → Phase → State → Figures → Outcome Flown
leg_taken w l p next x =
    unless refusal.FlownSeconds (nat_le (l.seconds + x.seconds) most_seconds)
    (and_then (leg_answer w.aircraft w.engine w.air p x (mass_of l)) (leg_fuelled l next x.seconds))

abbrev pub leg_outcome : Setting → Account → (phase : ℕ) → Figures → Outcome Flown
leg_outcome w l n x =
    and_then (phase_numbered n) (λ p.
    and_then (next_state l.state (transition.Leg p)) (λ next.
    and_then (taken_figures w.aircraft x) (leg_taken w l p next)))

-- no less than a gram
abbrev pub some_grams : ℕ → Bool
some_grams = from_to 1 most_grams

abbrev pub uplift_outcome : Aircraft → Account → (grams : ℕ) → Outcome (Unit {0})
uplift_outcome a l grams =
    unless refusal.Grams (some_grams grams)
    (and_then (next_state l.state transition.Uplift) (λ next.
    unless refusal.Overweight (nat_le (mass_of l + in_mg grams) (in_mg a.masses.maximum)) (silent (changed l next (l.fuel + in_mg grams) l.seconds))))

abbrev pub jettison_outcome : Account → (grams : ℕ) → Outcome (Unit {0})
jettison_outcome l grams =
    unless refusal.Grams (some_grams grams)
    (and_then (next_state l.state transition.Jettison) (λ next.
    unless refusal.FuelShort (nat_le (in_mg grams) l.fuel) (silent (changed l next (l.fuel - in_mg grams) l.seconds))))

abbrev pub touchdown_outcome : Account → Outcome (Unit {0})
touchdown_outcome l = and_then (next_state l.state transition.Touchdown) (λ next. silent (changed l next l.fuel l.seconds))

abbrev pub outcome : Setting → Account → (c : Call) → Outcome (Answer c)
outcome w l (Leg n x) = leg_outcome w l n x
outcome w l (Uplift grams) = uplift_outcome w.aircraft l grams
outcome w l (Jettison grams) = jettison_outcome l grams
outcome w l Touchdown = touchdown_outcome l
