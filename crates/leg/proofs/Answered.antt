-- What an answer tells: figures that are taken are in range; an accepted leg is lifted, its flow is not refused, and it is flown over its own drag pair.
use Rattle.std.proofs.Common.{◌≡◌, ℕ, ◌*◌, ◌^◌, ◌≤◌, Ok, rules}
use Rattle.std.proofs.lemmas.Bool.Decides.{nat_tests}
use Rattle.aircraft.specs.declared.record.Aircraft.{Aircraft}
use Rattle.aircraft.specs.declared.words.Configuration.{Configuration}
use Rattle.air.specs.Day.{Air}
use Rattle.engine.specs.Meaning.{KindMeaning}
use Rattle.leg.specs.declared.phase.Phase.{Phase}
use Rattle.leg.specs.declared.flown.Flown.{Flown}
use Rattle.leg.specs.declared.request.Request.{Request}
use Rattle.leg.specs.declared.figures.Figures.{Figures}
use Rattle.leg.specs.Requests.{InRange, figures_of, taken_figures}
use Rattle.leg.specs.Configurations.{configuration_of, drag_pair}
use Rattle.leg.specs.Legs.{leg_answer, flown_with}
use Rattle.leg.specs.Nearness.{DragBounds, Accepted}

pub taken_is : (a : Aircraft) (f g : Figures) → Ok g ≡ taken_figures a f → (g ≡ f) × InRange f
taken_is a f g e = search (rules, nat_tests)

pub requested_in_range : (r : Request) → InRange (figures_of r)
requested_in_range r = search rules

-- the drag pair of every configuration keeps the bounds
pub drag_pair_bounds : (a : Aircraft) (c : Configuration) → DragBounds (drag_pair a c)
drag_pair_bounds a c = search rules

pub accepted : (a : Aircraft) (k : KindMeaning) (air : Air) (p : Phase) (f : Figures) (mass : ℕ) (r : Flown) → InRange f → 2 * 10 ^ 8 ≤ mass → mass ≤ 9 * 10 ^ 11 → Ok r ≡ leg_answer a k air p f mass → Accepted a k air p (configuration_of a p f) f mass × (r ≡ flown_with a k air p (configuration_of a p f) (drag_pair a (configuration_of a p f)) f mass)
accepted a k air p f mass r figures light heavy e = search (rules, nat_tests)
