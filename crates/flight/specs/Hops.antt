-- The chain of a hop, and what is claimed of it.
use Rattle.std.specs.Prelude.{ℕ, [], ◌∷◌, None}
use Rattle.leg.specs.declared.figures.Figures.{Figures}
use Rattle.flight.specs.declared.hop.Hop.{Hop}
use Rattle.flight.specs.declared.call.Call.TheVariants.{Leg, Uplift, Touchdown}
use Rattle.flight.specs.Calls.{Setting}
use Rattle.flight.specs.Claims.{Claims}

abbrev pub HopClaims : Setting → (zero_fuel grams : ℕ) → Figures → Hop → Type 0
HopClaims w zero_fuel grams x h =
    Claims w (record { zero_fuel = zero_fuel; fuel = 0; reserve = None })
    (record { call = Touchdown; answer = h.landed } ∷ (record { call = Leg 1 x; answer = h.flown } ∷ (record { call = Uplift grams; answer = h.uplifted } ∷ [])))
    h.reading
