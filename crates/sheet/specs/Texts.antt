-- The text of an answer and of a refused aircraft file, byte for byte.
use Rattle.std.specs.Prelude.{ℕ, Bool, cond, List, [], ◌∷◌, ◌++◌, codes, decimal, Ok, Err, Result}
use Rattle.refusal.specs.declared.fault.Fault.{Fault}
use Rattle.refusal.specs.declared.refusal.Refusal.{Refusal}
use Rattle.refusal.specs.Numbers.{refusal_number, fault_figures}
use Rattle.aircraft.specs.Words.{configuration_word}
use Rattle.flight.specs.declared.reading.Reading.{Reading}
use Rattle.leg.specs.declared.flown.Flown.{Flown}
use Rattle.sheet.specs.declared.answer.Answer.{Answer}
use Rattle.sheet.specs.declared.answer.Answer.TheVariants as answer

abbrev pub mark_text : Bool → List ℕ
mark_text up = cond up (codes "1") (codes "0")

-- mass and fuel in mg, and the minimum-fuel mark
abbrev pub figures_text : Reading → List ℕ
figures_text r = decimal r.mass ++ (32 ∷ (decimal r.fuel ++ (32 ∷ mark_text r.minimum)))

-- configuration, thrust and drag in mN, flow in mg/min, burn in mg and whether the thrust was limited
abbrev pub flown_text : Flown → List ℕ
flown_text x =
    configuration_word x.configuration
    ++ (32 ∷ (decimal x.thrust ++ (32 ∷ (decimal x.drag ++ (32 ∷ (decimal x.flow ++ (32 ∷ (decimal x.burn ++ (32 ∷ mark_text x.limited)))))))))

abbrev pub answer_text : Answer → List ℕ
answer_text (answer.Day line) = line.now ++ (10 ∷ [])
answer_text (answer.Start r) = codes "start " ++ (figures_text r ++ (10 ∷ []))
answer_text (answer.Leg x r) = codes "leg " ++ (flown_text x ++ (32 ∷ (figures_text r ++ (10 ∷ []))))
answer_text (answer.Uplift r) = codes "uplift " ++ (figures_text r ++ (10 ∷ []))
answer_text (answer.Jettison r) = codes "jettison " ++ (figures_text r ++ (10 ∷ []))
answer_text (answer.Touchdown r) = codes "touchdown " ++ (figures_text r ++ (10 ∷ []))

-- what is written to a line
abbrev pub line_text : Result Answer Refusal → List ℕ
line_text (Ok a) = answer_text a
line_text (Err e) = codes "no " ++ (decimal (refusal_number e) ++ (10 ∷ []))

-- number, line and field
abbrev pub fault_text : Fault → List ℕ
fault_text f = codes "no " ++ (fault_figures f ++ (10 ∷ []))
