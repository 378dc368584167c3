-- The burn of a leg is within its phase's rate of the exact burn at the same mass.
--   thrust_error flow_error     how far thrust used and flow used are from their exact values, by phase
use Rattle.std.proofs.Common.{◌≡◌, ℕ, ◌+◌, ◌*◌, ◌^◌, ◌≤◌, Bool, true, false, ◌&&◌, pos, arith, rules}
use Rattle.std.specs.Int.{int_div_euclid}
use Rattle.exact.specs.Rational.{ℚ, nat, ◌≤ℚ◌, ◌<ℚ◌, Near}
use Rattle.exact.proofs.Laws.{nat-≥0, nat-≤, near_weaken}
use Rattle.aircraft.specs.declared.record.Aircraft.{Aircraft}
use Rattle.aircraft.specs.declared.record.Descent.{Descent}
use Rattle.aircraft.specs.declared.words.Configuration.{Configuration}
use Rattle.air.specs.Day.{Air}
use Rattle.engine.specs.Meaning.{KindMeaning, KindLaws}
use Rattle.leg.specs.declared.phase.Phase.{Phase}
use Rattle.leg.specs.declared.phase.Phase.TheVariants as phase
use Rattle.leg.specs.declared.figures.Figures.{Figures}
use Rattle.leg.specs.Requests.{InRange}
use Rattle.leg.specs.Configurations.{descent_factor, needs_nominal}
use Rattle.leg.specs.Rules.{warming, weight, thrust_used}
use Rattle.leg.specs.Legs.{density_at, deviation_at, leg_force, leg_drag, leg_available, leg_flow}
use Rattle.leg.specs.Exact.{exact_leg_force, exact_weight, exact_drag, exact_available, exact_thrust, exact_flow, exact_burn_with}
use Rattle.leg.specs.Nearness.{leg_rate, DragBounds, Accepted, BurnNear}
use Rattle.leg.proofs.Near.Drag.{force_near, weight_near, drag_near, force_positive}
use Rattle.leg.proofs.Near.Slope.{exact_weight_low, exact_drag_low}
use Rattle.leg.proofs.Near.Thrust.{ThrustNear, temperature_near, held_high, exact_temperature_low, exact_temperature_high, available_near, climbing_near, cruising_near, descending_near}
use Rattle.leg.proofs.Near.Flow.{nominal_near, climbing_flow_near, cruising_flow_near, descending_flow_near, burned_near}

abbrev thrust_error : Phase → ℕ
thrust_error phase.Climb = 21
thrust_error phase.Cruise = 75
thrust_error phase.Descent = 22

abbrev flow_error : Phase → ℕ
flow_error phase.Climb = 335
flow_error phase.Cruise = 1103
flow_error phase.Descent = 339

descent_factor_high : (d : Descent) (c : Configuration) (h : ℕ) → descent_factor d c h ≤ 10 ^ 8
descent_factor_high d c h = search rules

module _ (a : Aircraft) (air : Air) (f : Figures) where
  pub leg_force_near : Near (nat (leg_force a air f)) (exact_leg_force a air f) (nat 2)
  unfolding exact_leg_force
  leg_force_near = force_near (density_at air f) f.speed a.wing a.wing_most

  pub leg_available_near : (k : KindMeaning) → KindLaws k → InRange f → ThrustNear (leg_available a k air f) (exact_available a k air f) 21
  unfolding exact_available
  leg_available_near k laws range =
      available_near _ _ (temperature_near a.temperature (deviation_at air f)) (held_high (int_div_euclid (warming a.temperature (deviation_at air f)) (pos 1000))) _ _
      (search rules)
      (exact_temperature_low a.temperature (deviation_at air f))
      (exact_temperature_high a.temperature (deviation_at air f))

  module _ (mass : ℕ) (light : 2 * 10 ^ 8 ≤ mass) (lift : 10 * weight mass ≤ 3 * leg_force a air f) where
    pub exact_force_positive : nat 0 <ℚ exact_leg_force a air f
    exact_force_positive =
        force_positive (weight mass) (leg_force a air f) (exact_weight (nat mass)) (exact_leg_force a air f) (omega arith) lift (weight_near mass) leg_force_near

    leg_drag_near : (pair : ℕ × ℕ) → DragBounds pair → Near (nat (leg_drag a air pair f mass)) (exact_drag a air pair f (nat mass)) (nat 75)
    unfolding exact_drag
    leg_drag_near pair bounds =
        drag_near (weight mass) (leg_force a air f) (exact_weight (nat mass)) (exact_leg_force a air f) (omega arith) lift (weight_near mass) leg_force_near pair bounds

    pub leg_exact_drag_low : (pair : ℕ × ℕ) (x : ℚ) → nat 0 ≤ℚ x → nat 0 ≤ℚ exact_drag a air pair f x
    unfolding exact_drag
    leg_exact_drag_low pair x low = exact_drag_low (exact_leg_force a air f) exact_force_positive pair (exact_weight x) (exact_weight_low x low)

-- what is not refused and needed
needed : (need refused : Bool) → need && refused ≡ false → need ≡ true → refused ≡ false
needed need refused p q = cc

-- the thrust used in a phase
abbrev leg_thrust : Aircraft → KindMeaning → Air → Phase → Configuration → ℕ × ℕ → Figures → ℕ → ℕ
leg_thrust a k air p c pair f mass = thrust_used p (leg_drag a air pair f mass) (leg_available a k air f) (descent_factor a.descent c f.altitude)

module _ (a : Aircraft) (k : KindMeaning) (air : Air) (c : Configuration) (pair : ℕ × ℕ) (f : Figures) (mass : ℕ) (laws : KindLaws k) (bounds : DragBounds pair) where
  leg_thrust_near : (p : Phase) → Accepted a k air p c f mass → ThrustNear (leg_thrust a k air p c pair f mass) (exact_thrust a k air p c pair f (nat mass)) (thrust_error p)
  unfolding exact_thrust
  leg_thrust_near phase.Climb ok = climbing_near _ _ (leg_available_near a air f k laws ok.figures) (leg_drag a air pair f mass) _ _
  leg_thrust_near phase.Cruise ok =
      cruising_near _ _ (leg_available_near a air f k laws ok.figures) _ _ _
      (leg_drag_near a air f mass ok.light ok.lift pair bounds)
      (leg_exact_drag_low a air f mass ok.light ok.lift pair (nat mass) (nat-≥0 mass))
  leg_thrust_near phase.Descent ok =
      descending_near _ _ (leg_available_near a air f k laws ok.figures) (leg_drag a air pair f mass) _ _ (descent_factor_high a.descent c f.altitude)

  leg_nominal_near : (e t n : ℕ) (x : ℚ) → InRange f → 4001 * e ≤ 1000 * t → k.refuses f.speed ≡ false → ThrustNear n x e → Near (nat (k.nominal f.speed n)) (k.exact_nominal f.speed x) (nat (250 + t))
  leg_nominal_near e t n x range p burns thrust = nominal_near k laws f.speed range.slowest range.fastest burns n x e t p thrust

  leg_flow_near : (p : Phase) (n : ℕ) (x : ℚ) → Accepted a k air p c f mass → ThrustNear n x (thrust_error p) → Near (nat (leg_flow a k p c f n)) (exact_flow a k p c f x) (nat (flow_error p))
  unfolding exact_flow
  leg_flow_near phase.Climb n x ok thrust =
      climbing_flow_near c a.cruise _ (k.idle f.altitude) _ _ (leg_nominal_near 21 85 n x ok.figures (omega arith) ok.flow thrust)
  leg_flow_near phase.Cruise n x ok thrust =
      cruising_flow_near c a.cruise _ (k.idle f.altitude) _ _ a.cruise_most (leg_nominal_near 75 301 n x ok.figures (omega arith) ok.flow thrust)
  leg_flow_near phase.Descent n x ok thrust =
      descending_flow_near c a.cruise _ _ _ _
      (λ h. leg_nominal_near 22 89 n x ok.figures (omega arith) (needed (needs_nominal phase.Descent c) (k.refuses f.speed) ok.flow h) thrust)
      (near_weaken (laws.idle_near f.altitude ok.figures.low) (nat-≤ (omega arith)))

rate_enough : (p : Phase) → flow_error p + 60 ≤ 60 * leg_rate p
rate_enough p = search rules

pub burn_near : BurnNear
unfolding exact_burn_with
burn_near a k air p c pair f mass laws day bounds ok =
    burned_near (leg_rate p) (leg_flow a k p c f (leg_thrust a k air p c pair f mass)) f.seconds (exact_flow a k p c f (exact_thrust a k air p c pair f (nat mass))) (rate_enough p) ok.figures.shortest
    (leg_flow_near a k air c pair f mass laws bounds p (leg_thrust a k air p c pair f mass) (exact_thrust a k air p c pair f (nat mass)) ok
    (leg_thrust_near a k air c pair f mass laws bounds p ok))
