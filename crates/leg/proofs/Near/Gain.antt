-- The exact burn of a leg does not fall as the mass grows, and gains no more than the mass does.
use Rattle.std.proofs.Common.{ℕ, ◌+◌, ◌^◌, [], ◌∷◌, arith}
use Rattle.exact.specs.Rational.{ℚ, nat, ◌+ℚ◌, ◌-ℚ◌, ◌*ℚ◌, ◌≤ℚ◌, ◌≈◌}
use Rattle.exact.proofs.Laws.{≤_refl, ≤_trans, ≈_refl, ≈→≤, min_mono}
use Rattle.exact.proofs.Linear.{linear, at, con, ◌⊕◌, ◌⊛◌, ◌≼◌, ◌≋◌, near}
use Rattle.aircraft.specs.declared.record.Aircraft.{Aircraft}
use Rattle.aircraft.specs.declared.words.Configuration.{Configuration}
use Rattle.air.specs.Day.{Air}
use Rattle.engine.specs.Meaning.{KindMeaning, KindLaws}
use Rattle.leg.specs.declared.phase.Phase.TheVariants.{Climb, Cruise, Descent}
use Rattle.leg.specs.declared.figures.Figures.{Figures}
use Rattle.leg.specs.Rules.{weight}
use Rattle.leg.specs.Legs.{leg_force}
use Rattle.leg.specs.Exact.{exact_weight, exact_leg_force, exact_drag, exact_available, exact_cruise_cap, exact_thrust_used, exact_flow_used, exact_burned, exact_thrust, exact_flow, exact_burn_with}
use Rattle.leg.specs.Nearness.{DragBounds, Accepted, BurnRises, BurnGains}
use Rattle.leg.proofs.Near.Drag.{weight_near}
use Rattle.leg.proofs.Near.Thrust.{exact_cruising_low, exact_cruising_high}
use Rattle.leg.proofs.Near.Slope.{more, scaled_rises, scaled_gains, least_gains, exact_weight_is, exact_weight_low, exact_weight_rises, exact_weight_gains, exact_drag_rises, exact_drag_gains}
use Rattle.leg.proofs.Near.Burn.{leg_force_near, leg_available_near, exact_force_positive, leg_exact_drag_low}

-- an accepted cruise at an exact mass x, and at a greater x' up to 100 kg above its mass
module _ (a : Aircraft) (k : KindMeaning) (air : Air) (c : Configuration) (pair : ℕ × ℕ) (f : Figures) (mass : ℕ) (laws : KindLaws k) (bounds : DragBounds pair) (ok : Accepted a k air Cruise c f mass)
    (x x' : ℚ) (low : nat 0 ≤ℚ x) (h : x ≤ℚ x') (high : x' ≤ℚ nat (mass + 10 ^ 8)) where
  -- both weights together are below the force
  both_light : exact_weight x' +ℚ exact_weight x ≤ℚ exact_leg_force a air f
  both_light =
      linear (x ∷ x' ∷ nat mass ∷ exact_weight x ∷ exact_weight x' ∷ exact_weight (nat mass) ∷ nat (weight mass) ∷ nat (leg_force a air f) ∷ exact_leg_force a air f ∷ [])
      (at 0 ≼ at 1 ∷ at 1 ≼ at 2 ⊕ con (10 ^ 8) ∷ (10 ^ 9) ⊛ at 3 ≋ 980665 ⊛ at 0 ∷ (10 ^ 9) ⊛ at 4 ≋ 980665 ⊛ at 1 ∷ (10 ^ 9) ⊛ at 5 ≋ 980665 ⊛ at 2 ∷ near (at 6) (at 5) (con 2) ∷ near (at 7) (at 8) (con 2) ∷ 10 ⊛ at 6 ≼ 3 ⊛ at 7 ∷ con 196133 ≼ at 6 ∷ [])
      (at 4 ⊕ at 3 ≼ at 8)
      (λ d u w p h. omega arith)
      (h, (≤_trans high (omega arith), (exact_weight_is x, (exact_weight_is x', (exact_weight_is (nat mass), (weight_near mass, (leg_force_near a air f, (omega (arith, ok.lift), (omega (arith, ok.light), tt)))))))))

  drag_rises : exact_drag a air pair f x ≤ℚ exact_drag a air pair f x'
  unfolding exact_drag
  drag_rises =
      exact_drag_rises (exact_leg_force a air f) (exact_force_positive a air f mass ok.light ok.lift) (exact_weight x) (exact_weight x') (exact_weight_low x low) (exact_weight_rises x x' h) pair bounds

  by_weight : exact_drag a air pair f x' -ℚ exact_drag a air pair f x ≤ℚ nat 50 *ℚ (exact_weight x' -ℚ exact_weight x)
  unfolding exact_drag
  by_weight =
      exact_drag_gains (exact_leg_force a air f) (exact_force_positive a air f mass ok.light ok.lift) (exact_weight x) (exact_weight x') (exact_weight_low x low) (exact_weight_rises x x' h) pair bounds both_light

  -- at most 0.05 mN a milligram
  drag_gains : nat 20 *ℚ (exact_drag a air pair f x' -ℚ exact_drag a air pair f x) ≤ℚ x' -ℚ x
  drag_gains =
      linear ((x' -ℚ x) ∷ (exact_weight x' -ℚ exact_weight x) ∷ (exact_drag a air pair f x' -ℚ exact_drag a air pair f x) ∷ [])
      (1000 ⊛ at 1 ≼ at 0 ∷ at 2 ≼ 50 ⊛ at 1 ∷ [])
      (20 ⊛ at 2 ≼ at 0)
      (λ d u w p h. omega arith)
      (exact_weight_gains x x' h, (by_weight, tt))

  thrust : ℚ → ℚ
  thrust y = exact_thrust a k air Cruise c pair f y

  thrust_low : nat 0 ≤ℚ thrust x
  unfolding thrust exact_thrust
  thrust_low = exact_cruising_low _ _ (leg_available_near a air f k laws ok.figures) _ _ (leg_exact_drag_low a air f mass ok.light ok.lift pair x low)

  thrust_high : thrust x' ≤ℚ nat (10 ^ 10)
  unfolding thrust exact_thrust
  thrust_high = exact_cruising_high _ _ (leg_available_near a air f k laws ok.figures) _ _

  thrust_rises : thrust x ≤ℚ thrust x'
  unfolding thrust exact_thrust exact_thrust_used
  thrust_rises = min_mono drag_rises (≤_refl _)

  thrust_gains : thrust x' -ℚ thrust x ≤ℚ exact_drag a air pair f x' -ℚ exact_drag a air pair f x
  unfolding thrust exact_thrust exact_thrust_used
  thrust_gains = least_gains (exact_cruise_cap (exact_available a k air f)) drag_rises

  nominal : ℚ → ℚ
  nominal y = k.exact_nominal f.speed (thrust y)

  nominal_rises : nominal x ≤ℚ nominal x'
  unfolding nominal
  nominal_rises = laws.nominal_rises f.speed (thrust x) (thrust x') ok.figures.slowest ok.figures.fastest ok.flow thrust_low thrust_rises thrust_high

  nominal_gains : nat 1000 *ℚ (nominal x' -ℚ nominal x) ≤ℚ nat 4001 *ℚ (thrust x' -ℚ thrust x)
  unfolding nominal
  nominal_gains = laws.nominal_gains f.speed (thrust x) (thrust x') ok.figures.slowest ok.figures.fastest ok.flow thrust_low thrust_rises thrust_high

  flow : ℚ → ℚ
  flow y = exact_flow a k Cruise c f (thrust y)

  flow_rises : flow x ≤ℚ flow x'
  unfolding flow nominal exact_flow exact_flow_used
  flow_rises = scaled_rises a.cruise (10 ^ 5) 2 (omega arith) a.cruise_most (nominal x) (nominal x') nominal_rises

  flow_gains : flow x' -ℚ flow x ≤ℚ nat 2 *ℚ (nominal x' -ℚ nominal x)
  unfolding flow nominal exact_flow exact_flow_used
  flow_gains = scaled_gains a.cruise (10 ^ 5) 2 (omega arith) a.cruise_most (nominal x) (nominal x') nominal_rises

  pub cruise_burn_rises : exact_burn_with a k air Cruise c pair f x ≤ℚ exact_burn_with a k air Cruise c pair f x'
  unfolding flow thrust exact_burn_with exact_burned
  cruise_burn_rises = scaled_rises f.seconds 60 1 (omega arith) ok.figures.longest (flow x) (flow x') flow_rises

  by_flow : exact_burn_with a k air Cruise c pair f x' -ℚ exact_burn_with a k air Cruise c pair f x ≤ℚ nat 1 *ℚ (flow x' -ℚ flow x)
  unfolding flow thrust exact_burn_with exact_burned
  by_flow = scaled_gains f.seconds 60 1 (omega arith) ok.figures.longest (flow x) (flow x') flow_rises

  pub cruise_burn_gains : exact_burn_with a k air Cruise c pair f x' -ℚ exact_burn_with a k air Cruise c pair f x ≤ℚ x' -ℚ x
  cruise_burn_gains =
      linear ((x' -ℚ x) ∷ (exact_drag a air pair f x' -ℚ exact_drag a air pair f x) ∷ (thrust x' -ℚ thrust x) ∷ (nominal x' -ℚ nominal x) ∷ (flow x' -ℚ flow x) ∷ (exact_burn_with a k air Cruise c pair f x' -ℚ exact_burn_with a k air Cruise c pair f x) ∷ [])
      (con 0 ≼ at 0 ∷ 20 ⊛ at 1 ≼ at 0 ∷ at 2 ≼ at 1 ∷ 1000 ⊛ at 3 ≼ 4001 ⊛ at 2 ∷ at 4 ≼ 2 ⊛ at 3 ∷ at 5 ≼ 1 ⊛ at 4 ∷ [])
      (at 5 ≼ at 0)
      (λ d u w p h. omega arith)
      (more h, (drag_gains, (thrust_gains, (nominal_gains, (flow_gains, (by_flow, tt))))))

-- in climb and descent the exact burn does not go by the mass
module _ (a : Aircraft) (k : KindMeaning) (air : Air) (c : Configuration) (pair : ℕ × ℕ) (f : Figures) (x x' : ℚ) where
  climb_steady : exact_burn_with a k air Climb c pair f x ≈ exact_burn_with a k air Climb c pair f x'
  unfolding exact_burn_with exact_thrust exact_thrust_used
  climb_steady = ≈_refl _

  descent_steady : exact_burn_with a k air Descent c pair f x ≈ exact_burn_with a k air Descent c pair f x'
  unfolding exact_burn_with exact_thrust exact_thrust_used
  descent_steady = ≈_refl _

steady : {b b' : ℚ} → b ≈ b' → b' -ℚ b ≤ℚ nat 0
steady e = grind arith

steady_gains : {b b' x x' : ℚ} → b ≈ b' → x ≤ℚ x' → b' -ℚ b ≤ℚ x' -ℚ x
steady_gains e h = ≤_trans (steady e) (more h)

pub burn_rises : BurnRises
burn_rises a k air Climb c pair f mass laws day bounds ok x x' low h high = ≈→≤ (climb_steady a k air c pair f x x')
burn_rises a k air Cruise c pair f mass laws day bounds ok x x' low h high = cruise_burn_rises a k air c pair f mass laws bounds ok x x' low h high
burn_rises a k air Descent c pair f mass laws day bounds ok x x' low h high = ≈→≤ (descent_steady a k air c pair f x x')

pub burn_gains : BurnGains
burn_gains a k air Climb c pair f mass laws day bounds ok x x' low h high = steady_gains (climb_steady a k air c pair f x x') h
burn_gains a k air Cruise c pair f mass laws day bounds ok x x' low h high = cruise_burn_gains a k air c pair f mass laws bounds ok x x' low h high
burn_gains a k air Descent c pair f mass laws day bounds ok x x' low h high = steady_gains (descent_steady a k air c pair f x x') h
