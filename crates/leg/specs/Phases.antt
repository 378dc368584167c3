-- The number of each phase, and which phase a number names.
use Rattle.std.specs.Prelude.{ℕ, cond, List, [], ◌∷◌, Ok, Err, Result, ◌==◌}
use Rattle.refusal.specs.declared.refusal.Refusal.{Refusal}
use Rattle.refusal.specs.declared.refusal.Refusal.TheVariants as refusal
use Rattle.leg.specs.declared.phase.Phase.{Phase}
use Rattle.leg.specs.declared.phase.Phase.TheVariants.{Climb, Cruise, Descent}

abbrev pub phase_number : Phase → ℕ
phase_number Climb = 1
phase_number Cruise = 2
phase_number Descent = 3

-- the first of some whose number it is
abbrev pub first_numbered : List Phase → ℕ → Result Phase Refusal
first_numbered [] n = Err refusal.Phase
first_numbered (p ∷ ps) n = cond (n == phase_number p) (Ok p) (first_numbered ps n)

abbrev pub phase_numbered : ℕ → Result Phase Refusal
phase_numbered = first_numbered (Climb ∷ Cruise ∷ Descent ∷ [])
