-- What an engine kind means, what it answers to each question, and the laws that every kind keeps.
--   KindMeaning                                   answered and exact values, and the speeds at which nominal flow is refused
--   thrust_answer nominal_answer idle_answer      the answer to a question, refusals in their order
--   KindLaws                                      what holds of every kind, for questions that are not refused
-- Altitude counts in ft, true airspeed in 0.1 kt, thrust in mN, flow in mg/min.
use Rattle.std.specs.Prelude.{◌≡◌, ℕ, ◌^◌, ◌≤◌, Bool, false, cond, ◌&&◌, Ok, Err, Result, nat_le}
use Rattle.refusal.specs.declared.refusal.Refusal.{Refusal}
use Rattle.refusal.specs.declared.refusal.Refusal.TheVariants.{TooHigh, Speed, Flow}
use Rattle.exact.specs.Rational.{ℚ, nat, ◌-ℚ◌, ◌*ℚ◌, ◌≤ℚ◌, Near}

pub record KindMeaning : Type 0 where
  -- standard-day thrust at an altitude and a speed
  pub thrust : ℕ → ℕ → ℕ
  -- nominal flow at a speed and a thrust
  pub nominal : ℕ → ℕ → ℕ
  -- idle flow at an altitude
  pub idle : ℕ → ℕ
  pub exact_thrust : ℕ → ℕ → ℚ
  -- fractional thrusts too
  pub exact_nominal : ℕ → ℚ → ℚ
  pub exact_idle : ℕ → ℚ
  -- the speeds at which nominal flow is refused
  pub refuses : ℕ → Bool

-- the altitudes, speeds and thrusts that a kind is asked about
abbrev pub asked_altitude : ℕ → Bool
asked_altitude h = nat_le h 60000

abbrev pub asked_speed : ℕ → Bool
asked_speed v = nat_le 300 v && nat_le v 7000

abbrev pub asked_thrust : ℕ → Bool
asked_thrust n = nat_le n (10 ^ 10)

abbrev pub thrust_answer : KindMeaning → ℕ → ℕ → Result ℕ Refusal
thrust_answer k h v =
    cond (asked_altitude h) (cond (asked_speed v) (Ok (k.thrust h v)) (Err Speed)) (Err TooHigh)

abbrev pub nominal_answer : KindMeaning → ℕ → ℕ → Result ℕ Refusal
nominal_answer k v n =
    cond (asked_speed v) (cond (asked_thrust n) (cond (k.refuses v) (Err Flow) (Ok (k.nominal v n))) (Err Flow)) (Err Speed)

abbrev pub idle_answer : KindMeaning → ℕ → Result ℕ Refusal
idle_answer k h = cond (asked_altitude h) (Ok (k.idle h)) (Err TooHigh)

pub record KindLaws (k : KindMeaning) : Type 0 where
  pub thrust_high : (h v : ℕ) → h ≤ 60000 → 300 ≤ v → v ≤ 7000 → k.thrust h v ≤ 10 ^ 10
  pub exact_thrust_low : (h v : ℕ) → h ≤ 60000 → 300 ≤ v → v ≤ 7000 → nat 0 ≤ℚ k.exact_thrust h v
  pub exact_thrust_high : (h v : ℕ) → h ≤ 60000 → 300 ≤ v → v ≤ 7000 → k.exact_thrust h v ≤ℚ nat (10 ^ 10)
  pub thrust_near : (h v : ℕ) → h ≤ 60000 → 300 ≤ v → v ≤ 7000 → Near (nat (k.thrust h v)) (k.exact_thrust h v) (nat 10)
  pub nominal_high : (v n : ℕ) → 300 ≤ v → v ≤ 7000 → k.refuses v ≡ false → n ≤ 10 ^ 10 → k.nominal v n ≤ 10 ^ 11
  pub exact_nominal_low : (v : ℕ) (x : ℚ) → 300 ≤ v → v ≤ 7000 → k.refuses v ≡ false → nat 0 ≤ℚ x → x ≤ℚ nat (10 ^ 10) → nat 0 ≤ℚ k.exact_nominal v x
  pub exact_nominal_high : (v : ℕ) (x : ℚ) → 300 ≤ v → v ≤ 7000 → k.refuses v ≡ false → nat 0 ≤ℚ x → x ≤ℚ nat (10 ^ 10) → k.exact_nominal v x ≤ℚ nat (10 ^ 11)
  pub nominal_near : (v n : ℕ) → 300 ≤ v → v ≤ 7000 → k.refuses v ≡ false → n ≤ 10 ^ 10 → Near (nat (k.nominal v n)) (k.exact_nominal v (nat n)) (nat 250)
  pub idle_high : (h : ℕ) → h ≤ 60000 → k.idle h ≤ 10 ^ 11
  pub exact_idle_low : (h : ℕ) → h ≤ 60000 → nat 0 ≤ℚ k.exact_idle h
  pub exact_idle_high : (h : ℕ) → h ≤ 60000 → k.exact_idle h ≤ℚ nat (10 ^ 11)
  pub idle_near : (h : ℕ) → h ≤ 60000 → Near (nat (k.idle h)) (k.exact_idle h) (nat 250)
  -- more thrust never burns less
  pub nominal_rises : (v : ℕ) (x x' : ℚ) → 300 ≤ v → v ≤ 7000 → k.refuses v ≡ false → nat 0 ≤ℚ x → x ≤ℚ x' → x' ≤ℚ nat (10 ^ 10) → k.exact_nominal v x ≤ℚ k.exact_nominal v x'
  -- and at most 4,001 mg/min more for a newton more
  pub nominal_gains : (v : ℕ) (x x' : ℚ) → 300 ≤ v → v ≤ 7000 → k.refuses v ≡ false → nat 0 ≤ℚ x → x ≤ℚ x' → x' ≤ℚ nat (10 ^ 10) → nat 1000 *ℚ (k.exact_nominal v x' -ℚ k.exact_nominal v x) ≤ℚ nat 4001 *ℚ (x' -ℚ x)
