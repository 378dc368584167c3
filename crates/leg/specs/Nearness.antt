-- How near the leg in whole numbers is to the exact leg at the same mass, and how the exact burn goes with the mass.
--   leg_rate                             the rate of a phase in mg a second
--   BurnNear BurnRises BurnGains         three claims of every accepted leg, over any drag pair
use Rattle.std.specs.Prelude.{◌≡◌, ℕ, ◌+◌, ◌*◌, ◌^◌, ◌≤◌, false}
use Rattle.exact.specs.Rational.{ℚ, nat, ◌-ℚ◌, ◌≤ℚ◌, Near}
use Rattle.aircraft.specs.declared.record.Aircraft.{Aircraft}
use Rattle.aircraft.specs.declared.words.Configuration.{Configuration}
use Rattle.air.specs.Day.{Air, AirLaws}
use Rattle.engine.specs.Meaning.{KindMeaning, KindLaws}
use Rattle.leg.specs.declared.phase.Phase.{Phase}
use Rattle.leg.specs.declared.phase.Phase.TheVariants.{Climb, Cruise, Descent}
use Rattle.leg.specs.declared.figures.Figures.{Figures}
use Rattle.leg.specs.Requests.{InRange}
use Rattle.leg.specs.Rules.{weight}
use Rattle.leg.specs.Legs.{leg_force, leg_refuses_flow, flown_with}
use Rattle.leg.specs.Exact.{exact_burn_with}

abbrev pub leg_rate : Phase → ℕ
leg_rate Climb = 10
leg_rate Cruise = 50
leg_rate Descent = 10

-- CD0, with a gear's, at most 0.94, and CD2 at most 0.47
pub record DragBounds (pair : ℕ × ℕ) : Type 0 where
  pub parasitic : pair.0 ≤ 94000000
  pub induced : pair.1 ≤ 47000000

-- a leg at a mass from 0.2 to 900 t that its wing lifts and whose flow is not refused
pub record Accepted (a : Aircraft) (k : KindMeaning) (air : Air) (p : Phase) (c : Configuration) (f : Figures) (mass : ℕ) : Type 0 where
  pub figures : InRange f
  pub light : 2 * 10 ^ 8 ≤ mass
  pub heavy : mass ≤ 9 * 10 ^ 11
  pub lift : 10 * weight mass ≤ 3 * leg_force a air f
  pub flow : leg_refuses_flow k p c f ≡ false

-- what is said of every accepted leg with every kind and day that keep their laws
abbrev pub OfEveryLeg : (Aircraft → KindMeaning → Air → Phase → Configuration → ℕ × ℕ → Figures → ℕ → Type 0) → Type 0
OfEveryLeg claim =
    (a : Aircraft) (k : KindMeaning) (air : Air) (p : Phase) (c : Configuration) (pair : ℕ × ℕ) (f : Figures) (mass : ℕ) →
    KindLaws k → AirLaws air → DragBounds pair → Accepted a k air p c f mass → claim a k air p c pair f mass

-- the burn is within its phase's rate of the exact burn at the same mass
abbrev pub BurnNear : Type 0
BurnNear =
    OfEveryLeg (λ a k air p c pair f mass.
    Near (nat (flown_with a k air p c pair f mass).burn) (exact_burn_with a k air p c pair f (nat mass)) (nat (leg_rate p * f.seconds)))

-- the exact burn does not fall as the mass grows, up to 100 kg above the leg's mass
abbrev pub BurnRises : Type 0
BurnRises =
    OfEveryLeg (λ a k air p c pair f mass.
    (x x' : ℚ) → nat 0 ≤ℚ x → x ≤ℚ x' → x' ≤ℚ nat (mass + 10 ^ 8) →
    exact_burn_with a k air p c pair f x ≤ℚ exact_burn_with a k air p c pair f x')

-- and gains no more than the mass does
abbrev pub BurnGains : Type 0
BurnGains =
    OfEveryLeg (λ a k air p c pair f mass.
    (x x' : ℚ) → nat 0 ≤ℚ x → x ≤ℚ x' → x' ≤ℚ nat (mass + 10 ^ 8) →
    exact_burn_with a k air p c pair f x' -ℚ exact_burn_with a k air p c pair f x ≤ℚ x' -ℚ x)
