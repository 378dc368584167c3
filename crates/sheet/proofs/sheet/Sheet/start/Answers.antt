use Rattle.std.proofs.Common.{◌≡◌, Ok, Some, refl, ap}
use Rattle.sheet.specs.declared.answer.Answer.TheVariants as answer
use Rattle.sheet.proofs.sheet.Sheet.start.Goals as goal

pub returns : goal.returns
returns c =
    let noted : c.args.self.now.day ≡ Some c.in_ok-day.day = c.in_ok-day.ensures.ok_part in
    rw noted (record {
      result = Ok c.in_ok-flight.flight;
      started = c.in_ok-flight.ensures;
      judged =
          record {
            said = ap (λ r. Ok (answer.Start r)) c.reading-reading.ensures.answer;
            flight_is = refl;
            day_is = refl;
            keeps = record { aircraft_is = refl; kind_is = refl };
            book = rw c.reading-reading.ensures.answer at c.reading-reading.ensures.claims;
          };
    })
