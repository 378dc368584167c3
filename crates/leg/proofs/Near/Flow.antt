-- Flow and burn are near their exact values, by phase.
use Rattle.std.proofs.Common.{◌≡◌, ℕ, ◌+◌, ◌*◌, ◌^◌, ◌≤◌, max, true, false, [], ◌∷◌, ⊎_elim, mul-le-mul_right, arith, rules}
use Rattle.exact.specs.Rational.{ℚ, nat, maxℚ, ◌≤ℚ◌, Near}
use Rattle.exact.proofs.Laws.{≤_total, ≈_refl, nat-≥0, nat-≤, nat_max, near-≈, near_sym, near_trans, near_weaken, near_max}
use Rattle.exact.proofs.Linear.{linear, at, ◌⊖◌, ◌⊛◌, ◌≼◌, near}
use Rattle.engine.specs.Meaning.{KindMeaning, KindLaws}
use Rattle.engine.specs.Rounding.{near_times}
use Rattle.aircraft.specs.declared.words.Configuration.{Configuration}
use Rattle.leg.specs.declared.phase.Phase.TheVariants.{Climb, Cruise, Descent}
use Rattle.leg.specs.Configurations.{needs_nominal}
use Rattle.leg.specs.Rules.{flow_used, burned}
use Rattle.leg.specs.Exact.{exact_flow_used, exact_burned}
use Rattle.leg.proofs.Near.Thrust.{ThrustNear}

-- flow at a speed at which it is not refused
module _ (k : KindMeaning) (laws : KindLaws k) (v : ℕ) (slowest : 300 ≤ v) (fastest : v ≤ 7000) (burns : k.refuses v ≡ false) where
  -- a thrust that is near gives a flow that is near: 4,001 mg/min for a newton
  pub exact_nominal_near : (x x' : ℚ) (e t : ℕ) → nat 0 ≤ℚ x → x ≤ℚ nat (10 ^ 10) → nat 0 ≤ℚ x' → x' ≤ℚ nat (10 ^ 10) → 4001 * e ≤ 1000 * t → Near x x' (nat e) → Near (k.exact_nominal v x) (k.exact_nominal v x') (nat t)
  exact_nominal_near x x' e t low high low' high' p n = ⊎_elim (λ h. rising x x' low h high' n) (λ h. near_sym (rising x' x low' h high (near_sym n))) (≤_total x x')
    where
      rising : (x x' : ℚ) → nat 0 ≤ℚ x → x ≤ℚ x' → x' ≤ℚ nat (10 ^ 10) → Near x x' (nat e) → Near (k.exact_nominal v x) (k.exact_nominal v x') (nat t)
      rising x x' low h high n =
          linear (x ∷ x' ∷ k.exact_nominal v x ∷ k.exact_nominal v x' ∷ nat e ∷ nat t ∷ [])
          (at 2 ≼ at 3 ∷ 1000 ⊛ (at 3 ⊖ at 2) ≼ 4001 ⊛ (at 1 ⊖ at 0) ∷ near (at 0) (at 1) (at 4) ∷ 4001 ⊛ at 4 ≼ 1000 ⊛ at 5 ∷ [])
          (near (at 2) (at 3) (at 5))
          (λ d u w p h. omega arith)
          (laws.nominal_rises v x x' slowest fastest burns low h high, (laws.nominal_gains v x x' slowest fastest burns low h high, (n, (omega arith, tt))))

  -- with what the kind itself rounds
  pub nominal_near : (n : ℕ) (x : ℚ) (e t : ℕ) → 4001 * e ≤ 1000 * t → ThrustNear n x e → Near (nat (k.nominal v n)) (k.exact_nominal v x) (nat (250 + t))
  nominal_near n x e t p thrust =
      near_weaken
      (near_trans
      (laws.nominal_near v n slowest fastest burns thrust.high)
      (exact_nominal_near (nat n) x e t (nat-≥0 n) (nat-≤ thrust.high) thrust.exact_low thrust.exact_high p thrust.near))
      (omega arith)

-- the flow used, from nominal and idle flow

pub climbing_flow_near : {e : ℕ} (c : Configuration) (factor m i : ℕ) (x y : ℚ) → Near (nat m) x (nat e) → Near (nat (flow_used Climb c factor m i)) (exact_flow_used Climb c factor x y) (nat e)
unfolding exact_flow_used
climbing_flow_near c factor m i x y n = n

pub cruising_flow_near : (c : Configuration) (factor m i : ℕ) (x y : ℚ) → factor ≤ 200000 → Near (nat m) x (nat 551) → Near (nat (flow_used Cruise c factor m i)) (exact_flow_used Cruise c factor x y) (nat 1103)
unfolding exact_flow_used
cruising_flow_near c factor m i x y p n = near_times factor (10 ^ 5) 1103 (omega arith) (omega arith) n

greater_flow_near : {e : ℕ} (m i : ℕ) (x y : ℚ) → Near (nat m) x (nat e) → Near (nat i) y (nat e) → Near (nat (max m i)) (maxℚ x y) (nat e)
greater_flow_near m i x y n h = near-≈ (nat_max m i) (≈_refl _) (near_max n h)

-- where no nominal flow is needed, none is asked to be near
pub descending_flow_near : {e : ℕ} (c : Configuration) (factor m i : ℕ) (x y : ℚ) → (needs_nominal Descent c ≡ true → Near (nat m) x (nat e)) → Near (nat i) y (nat e) → Near (nat (flow_used Descent c factor m i)) (exact_flow_used Descent c factor x y) (nat e)
unfolding exact_flow_used
descending_flow_near c factor m i x y n h = search (rules, greater_flow_near)

-- a flow's error in mg/min against a rate in mg a second
pub burned_near : {e : ℕ} (rate flow s : ℕ) (x : ℚ) → e + 60 ≤ 60 * rate → 1 ≤ s → Near (nat flow) x (nat e) → Near (nat (burned flow s)) (exact_burned x s) (nat (rate * s))
unfolding exact_burned
burned_near rate flow s x p q n = near_times s 60 (rate * s) (omega arith) (omega (arith, mul-le-mul_right s p)) n
