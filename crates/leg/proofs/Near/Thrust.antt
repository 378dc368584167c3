-- The temperature factor, the available thrust and the thrust used are near their exact values, and stay within 0 and 10¹⁰ mN.
use Rattle.std.proofs.Common.{ℕ, ◌+◌, ◌-◌, ◌*◌, ◌/◌, ◌^◌, ◌<◌, ◌≤◌, [], ◌∷◌, ℤ, pos, arith, rules}
use Rattle.exact.specs.Rational.{ℚ, nat, int, ◌-ℚ◌, ◌*ℚ◌, ◌÷ℚ◌, minℚ, maxℚ, ◌≤ℚ◌, ◌≈◌, Near}
use Rattle.exact.proofs.Laws.{≤_trans, ≈_refl, nat-≥0, nat-≤, nat-<, nat-−, nat-*, nat_min, left_max, max-≤, min_left, min_right, ≤_min, *-≥0, *_mono₂, ÷-≤, near-≈, near_same, near_weaken, near-−, near_product, near_min, near_held, near_int_floor}
use Rattle.exact.proofs.Linear.{linear, at, con, ◌⊕◌, ◌⊛◌, ◌≼◌, ◌≋◌}
use Rattle.engine.specs.Bounds.{product, quotient, share}
use Rattle.engine.specs.Rounding.{near_over, times_near}
use Rattle.std.specs.Int.{int_div_euclid}
use Rattle.aircraft.specs.declared.record.Temperature.{Temperature}
use Rattle.leg.specs.declared.phase.Phase.TheVariants.{Climb, Cruise, Descent}
use Rattle.leg.specs.Rules.{greatest_loss, warming, held_loss, temperature_factor, available_thrust, cruise_cap, thrust_used}
use Rattle.leg.specs.Exact.{exact_temperature, exact_available_thrust, exact_cruise_cap, exact_thrust_used}

held_is : (z : ℤ) → nat (held_loss z) ≈ maxℚ (nat 0) (minℚ (nat greatest_loss) (int z))
held_is z = search rules

pub held_high : (z : ℤ) → held_loss z ≤ greatest_loss
held_high z = search rules

pub temperature_near : (t : Temperature) (deviation : ℤ) → Near (nat (temperature_factor t deviation)) (exact_temperature t deviation) (nat 1)
unfolding exact_temperature
temperature_near t deviation =
    near-≈ (held_is (int_div_euclid (warming t deviation) (pos 1000))) (≈_refl _) (near_held (nat 0) (nat greatest_loss) (near_int_floor (warming t deviation) 1000 (omega arith)))

pub exact_temperature_low : (t : Temperature) (deviation : ℤ) → nat 0 ≤ℚ exact_temperature t deviation
unfolding exact_temperature
exact_temperature_low t deviation = left_max _ _

pub exact_temperature_high : (t : Temperature) (deviation : ℤ) → exact_temperature t deviation ≤ℚ nat greatest_loss
unfolding exact_temperature
exact_temperature_high t deviation = max-≤ (nat-≥0 greatest_loss) (min_left _ _)

-- a thrust within e of its exact value, both within 0 and 10¹⁰ mN
pub record ThrustNear (n : ℕ) (x : ℚ) (e : ℕ) : Type 0 where
  pub near : Near (nat n) x (nat e)
  pub high : n ≤ 10 ^ 10
  pub exact_low : nat 0 ≤ℚ x
  pub exact_high : x ≤ℚ nat (10 ^ 10)

-- what a loss leaves of 10⁹ parts, and of a thrust in their proportion
module _ (e : ℕ) (y : ℚ) (loss : Near (nat e) y (nat 1)) (small : e ≤ greatest_loss) where
  left_near : Near (nat (10 ^ 9 - e)) (nat (10 ^ 9) -ℚ y) (nat 1)
  left_near = near_weaken (near-≈ (nat-− (omega arith)) (≈_refl _) (near-− (near_same (≈_refl (nat (10 ^ 9))) (nat-≥0 0)) loss)) (omega arith)

  module _ (n : ℕ) (x : ℚ) (standard : ThrustNear n x 10) where
    product_near : Near (nat (n * (10 ^ 9 - e))) (x *ℚ (nat (10 ^ 9) -ℚ y)) (nat (2 * 10 ^ 10))
    product_near =
        near_weaken
        (near-≈ (nat-* n (10 ^ 9 - e)) (≈_refl _) (near_product (nat-≥0 (10 ^ 9 - e)) standard.exact_low standard.near left_near))
        (linear (nat (10 ^ 9 - e) ∷ x ∷ x *ℚ nat 1 ∷ []) (at 0 ≼ con (10 ^ 9) ∷ at 1 ≼ con (10 ^ 10) ∷ at 2 ≋ at 1 ∷ []) (10 ⊛ at 0 ⊕ at 2 ≼ con (2 * 10 ^ 10)) (λ d u w p h. omega arith)
        (nat-≤ (omega arith), (standard.exact_high, (omega arith, tt))))

    pub available_near : nat 0 ≤ℚ y → y ≤ℚ nat greatest_loss → ThrustNear (available_thrust n e) (exact_available_thrust x y) 21
    unfolding exact_available_thrust
    available_near low high =
        record {
          near = near_over (10 ^ 9) 21 (omega arith) (omega arith) product_near;
          high = omega (arith, share n (10 ^ 9 - e) (10 ^ 9) (omega arith), standard.high);
          exact_low = grind (arith, *-≥0 standard.exact_low left_low);
          exact_high = ÷-≤ {x = x *ℚ (nat (10 ^ 9) -ℚ y)} {y = nat (10 ^ 9)} (nat-< {b = 10 ^ 9} (omega arith)) (*_mono₂ standard.exact_low (nat-≥0 (10 ^ 9)) standard.exact_high left_high);
        }
      where
        left_low : nat 0 ≤ℚ nat (10 ^ 9) -ℚ y
        left_low = omega arith

        left_high : nat (10 ^ 9) -ℚ y ≤ℚ nat (10 ^ 9)
        left_high = omega arith

module _ (n : ℕ) (x : ℚ) (available : ThrustNear n x 21) where
  -- m parts of b
  share_near : (m b t : ℕ) → 0 < b → m ≤ b → 21 * m + b ≤ t * b → ThrustNear (m * n / b) (nat m *ℚ x ÷ℚ nat b) t
  share_near m b t p q r =
      record {
        near = times_near m b t p r available.near;
        high = quotient (m * n) b (10 ^ 10) (product b (10 ^ 10) q available.high);
        exact_low = grind (arith, available.exact_low);
        exact_high = ÷-≤ {x = nat m *ℚ x} {y = nat b} (nat-< p) (≤_trans (*_mono₂ (nat-≥0 m) (nat-≥0 (10 ^ 10)) (nat-≤ q) available.exact_high) (omega arith));
      }

  cap_near : ThrustNear (cruise_cap n) (exact_cruise_cap x) 21
  unfolding exact_cruise_cap
  cap_near = share_near 95 100 21 (omega arith) (omega arith) (omega arith)

  pub climbing_near : (d : ℕ) (y : ℚ) (factor : ℕ) → ThrustNear (thrust_used Climb d n factor) (exact_thrust_used Climb y x factor) 21
  unfolding exact_thrust_used
  climbing_near d y factor = available

  pub exact_cruising_low : (y : ℚ) (factor : ℕ) → nat 0 ≤ℚ y → nat 0 ≤ℚ exact_thrust_used Cruise y x factor
  unfolding exact_thrust_used
  exact_cruising_low y factor low = ≤_min low cap_near.exact_low

  pub exact_cruising_high : (y : ℚ) (factor : ℕ) → exact_thrust_used Cruise y x factor ≤ℚ nat (10 ^ 10)
  unfolding exact_thrust_used
  exact_cruising_high y factor = ≤_trans (min_right y (exact_cruise_cap x)) cap_near.exact_high

  -- with a drag within 75
  pub cruising_near : (d : ℕ) (y : ℚ) (factor : ℕ) → Near (nat d) y (nat 75) → nat 0 ≤ℚ y → ThrustNear (thrust_used Cruise d n factor) (exact_thrust_used Cruise y x factor) 75
  unfolding exact_thrust_used
  cruising_near d y factor drag low =
      record {
        near = near-≈ (nat_min d (cruise_cap n)) (≈_refl _) (near_min drag (near_weaken cap_near.near (nat-≤ (omega arith))));
        high = omega (arith, cap_near.high);
        exact_low = exact_cruising_low y factor low;
        exact_high = exact_cruising_high y factor;
      }

  pub descending_near : (d : ℕ) (y : ℚ) (factor : ℕ) → factor ≤ 10 ^ 8 → ThrustNear (thrust_used Descent d n factor) (exact_thrust_used Descent y x factor) 22
  unfolding exact_thrust_used
  descending_near d y factor p = share_near factor (10 ^ 8) 22 (omega arith) p (omega arith)
