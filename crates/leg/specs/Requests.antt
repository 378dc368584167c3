-- Which figures of a leg are taken.
use Rattle.std.specs.Prelude.{ℕ, ◌≤◌, Bool, cond, ◌&&◌, Ok, Err, Result, nat_le}
use Rattle.refusal.specs.declared.refusal.Refusal.{Refusal}
use Rattle.refusal.specs.declared.refusal.Refusal.TheVariants.{Altitude, Speed, Calibrated, Seconds}
use Rattle.aircraft.specs.declared.record.Aircraft.{Aircraft}
use Rattle.leg.specs.declared.figures.Figures.{Figures}
use Rattle.leg.specs.declared.request.Request.{Request}

abbrev pub figures_of : Request → Figures
figures_of r = record { altitude = r.altitude; speed = r.speed; calibrated = r.calibrated; seconds = r.seconds }

abbrev pub from_to : (low high n : ℕ) → Bool
from_to low high n = nat_le low n && nat_le n high

-- the figures that an aircraft takes; the first one out of its range refuses them
abbrev pub taken_figures : Aircraft → Figures → Result Figures Refusal
taken_figures a f =
    cond (nat_le f.altitude a.ceiling)
    (cond (from_to 300 7000 f.speed)
    (cond (from_to 20 500 f.calibrated)
    (cond (from_to 1 60 f.seconds) (Ok f) (Err Seconds))
    (Err Calibrated))
    (Err Speed))
    (Err Altitude)

-- the figures in a request
abbrev pub requested : Result Request Refusal → Result Figures Refusal
requested (Ok r) = Ok (figures_of r)
requested (Err e) = Err e

-- the ranges that the leg's arithmetic rests on
pub record InRange (f : Figures) : Type 0 where
  pub low : f.altitude ≤ 60000
  pub slowest : 300 ≤ f.speed
  pub fastest : f.speed ≤ 7000
  pub shortest : 1 ≤ f.seconds
  pub longest : f.seconds ≤ 60
