-- The laws of a kind by formulas: from its thrust and its specific consumption to all the laws of a kind.
use Rattle.std.specs.Prelude.{◌≡◌, ℕ, ◌^◌, ◌≤◌, false}
use Rattle.std.proofs.Common.{arith, ltb-false}
use Rattle.exact.specs.Rational.{ℚ, nat, ◌≤ℚ◌, Near}
use Rattle.exact.proofs.Laws.{near_weaken, nat-≤}
use Rattle.engine.specs.Meaning.{KindLaws}
use Rattle.engine.specs.Formulas.{KindFormulas, burning, too_thirsty}
use Rattle.engine.specs.Rounding.{near_high}
use Rattle.engine.specs.Flows.{flow_high, flow_near, exact_flow_low, exact_flow_rises, exact_flow_high, exact_flow_gains, idle_high, exact_idle_low, idle_near}

-- thrust that leaves room for its rounding
pub record ThrustClose (thrust : ℕ) (exact : ℚ) : Type 0 where
  pub high : thrust ≤ 9999999990
  pub near : Near (nat thrust) exact (nat 10)
  pub low : nat 0 ≤ℚ exact

pub record ConsumptionClose (consumption : ℕ) (exact : ℚ) : Type 0 where
  pub near : Near (nat consumption) exact (nat 2)
  pub low : nat 0 ≤ℚ exact

pub record FormulasClose (k : KindFormulas) : Type 0 where
  pub thrust : (h v : ℕ) → h ≤ 60000 → 300 ≤ v → ThrustClose (k.thrust h v) (k.exact_thrust h v)
  pub consumption : (v : ℕ) → v ≤ 7000 → ConsumptionClose (k.consumption v) (k.exact_consumption v)

pub burning_laws : (k : KindFormulas) → FormulasClose k → KindLaws (burning k)
burning_laws k c =
    record {
      thrust_high = λ h v p q r. omega (arith, (c.thrust h v p q).high);
      exact_thrust_low = λ h v p q r. (c.thrust h v p q).low;
      exact_thrust_high = λ h v p q r. near_high (10 ^ 10) (omega (arith, (c.thrust h v p q).high)) (c.thrust h v p q).near;
      thrust_near = λ h v p q r. (c.thrust h v p q).near;
      nominal_high = λ v n p q r s. flow_high (k.consumption v) n (frugal v r) s;
      exact_nominal_low = λ v x p q r s t. exact_flow_low (k.exact_consumption v) (c.consumption v q).low x s;
      exact_nominal_high = λ v x p q r s t. exact_flow_high (k.exact_consumption v) (c.consumption v q).low (exact_high v q r) x s t;
      nominal_near = λ v n p q r s. flow_near (k.consumption v) (k.exact_consumption v) n s (c.consumption v q).near;
      idle_high = λ h p. omega (arith, idle_high k.fuel h);
      exact_idle_low = λ h p. exact_idle_low k.fuel h;
      exact_idle_high = λ h p. near_high (10 ^ 11) (omega (arith, idle_high k.fuel h)) (idle_near k.fuel h);
      idle_near = λ h p. near_weaken (idle_near k.fuel h) (nat-≤ (omega arith));
      nominal_rises = λ v x x' p q r s t z. exact_flow_rises (k.exact_consumption v) (c.consumption v q).low x x' t;
      nominal_gains = λ v x x' p q r s t z. exact_flow_gains (k.exact_consumption v) (c.consumption v q).low (exact_high v q r) x x' t;
    }
  where
    frugal : (v : ℕ) → too_thirsty (k.consumption v) ≡ false → k.consumption v ≤ 400000000
    frugal v r = omega (arith, ltb-false 400000000 (k.consumption v) r)

    exact_high : (v : ℕ) → v ≤ 7000 → too_thirsty (k.consumption v) ≡ false → k.exact_consumption v ≤ℚ nat 400000002
    exact_high v q r = near_high 400000002 (omega (arith, frugal v r)) (c.consumption v q).near
