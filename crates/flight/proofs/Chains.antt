-- Every chain keeps its claims, by induction over it, and so does every run, which is a chain.
use Rattle.std.proofs.Common.{◌≡◌, ℕ, ◌+◌, ◌≤◌, List, ◌∷◌, map, Result, sym, ◌∙◌, subst, arith}
use Rattle.std.proofs.Math.Logic.{∥∥₁_map}
use Rattle.refusal.specs.declared.refusal.Refusal.{Refusal}
use Rattle.exact.specs.Rational.{nat, ◌+ℚ◌, ◌-ℚ◌, ◌≤ℚ◌, ◌<ℚ◌}
use Rattle.aircraft.specs.declared.record.Aircraft.{Aircraft}
use Rattle.engine.specs.declared.kind.Kind as Kind
use Rattle.air.specs.declared.day.Day as Day
use Rattle.air.specs.Day.{Air, AirLaws}
use Rattle.engine.specs.Meaning.{KindMeaning, KindLaws}
use Rattle.leg.specs.declared.phase.Phase.{Phase}
use Rattle.leg.specs.declared.phase.Phase.TheVariants.{Climb, Cruise, Descent}
use Rattle.leg.specs.Nearness.{leg_rate, BurnNear, BurnRises, BurnGains}
use Rattle.flight.specs.declared.flight.Flight.{Flight}
use Rattle.flight.specs.declared.start.Start.{Start}
use Rattle.flight.specs.declared.call.Call.{Call}
use Rattle.flight.specs.Calls.{Setting, starting_reserve, Answer, Event}
use Rattle.flight.specs.Book.{told, book_mass, drift_rate, tolerance}
use Rattle.flight.specs.Account.{Account}
use Rattle.flight.specs.Accounts.{reading_of, outcome, answered, left_by}
use Rattle.flight.specs.Runs.{account, FlightOf, setting, Made, Run, started, then}
use Rattle.flight.specs.Chain.{Chain, begins, goes_on, Chained}
use Rattle.flight.specs.Claims.{Claims, KeepsToTheBook, SomeBook}
use Rattle.flight.proofs.Marks.{mark_up, mark_down}
use Rattle.flight.proofs.Kept.{InStep, begun_in_step, kept}

covers_legs : (p : Phase) → leg_rate p ≤ drift_rate p
covers_legs Climb = omega arith
covers_legs Cruise = omega arith
covers_legs Descent = omega arith

module _ (near : BurnNear) (rises : BurnRises) (gains : BurnGains) where
  module _ (w : Setting) (kind : KindLaws w.engine) (day : AirLaws w.air) (s : Start) where
    -- at any rate that covers the error of a leg and is at most 100 mg a second
    in_step : (rate : Phase → ℕ) (covers : (p : Phase) → leg_rate p ≤ rate p) (modest : (p : Phase) → rate p ≤ 100) {es : List Event} {l : Account} → Chain w s es l → InStep rate w s es l
    in_step rate covers modest (begins {l} e) = begun_in_step rate w s l e
    in_step rate covers modest (goes_on {es} {l} k c) = kept near rises gains rate covers modest w kind day s es l (in_step rate covers modest k) c

    claims : (es : List Event) (l : Account) → Chain w s es l → Claims w s es (reading_of l)
    claims es l k =
        let i = in_step drift_rate covers_legs (λ p. omega arith) k in
        let Up : ℕ → ℕ → Type 0 = λ z r. book_mass w s (map told es) -ℚ nat z <ℚ nat (r + tolerance (map told es)) in
        let Down : ℕ → ℕ → Type 0 = λ z r. nat r ≤ℚ (book_mass w s (map told es) -ℚ nat z) +ℚ nat (tolerance (map told es)) in
        record {
          close = i.close;
          mark_up = λ q. subst (λ z. Up z (starting_reserve s)) i.empty (subst (Up l.zero_fuel) i.reserved (mark_up l.zero_fuel l.fuel l.reserve _ _ i.close q));
          mark_down = λ q. subst (λ z. Down z (starting_reserve s)) i.empty (subst (Down l.zero_fuel) i.reserved (mark_down l.zero_fuel l.fuel l.reserve _ _ i.close q));
          balance = i.balance;
        }

  pub some_book : (w : Setting) (kind : KindLaws w.engine) (day : AirLaws w.air) (l : Account) → ∥ Chained w l ∥₁ → ∥ SomeBook w (reading_of l) ∥₁
  some_book w kind day l h =
      ∥∥₁_map h (λ (k : Chained w l). record { start = k.start; events = k.events; claims = claims w kind day k.start k.events l k.chain })

-- the flight of a run, and the chain of its calls
module _ {K D : Type 0} {k : Kind.Ghosts K} {d : Day.Ghosts D} (engine : K → KindMeaning) (air : D → Air) (aircraft : Aircraft) (kind : K) (day : D) (s : Start) where
  record Reached (es : List Event) (f : Flight K D k d) : Type 0 where
    pub same : FlightOf aircraft kind day f
    pub chain : Chain (setting engine air aircraft kind day) s es (account f)

  same_setting : (f : Flight K D k d) → FlightOf aircraft kind day f → setting engine air f.aircraft f.kind f.day ≡ setting engine air aircraft kind day
  same_setting f o = let a = o.aircraft_is in let b = o.kind_is in let c = o.day_is in rw (a, b, c)

  one_more : (es : List Event) (f g : Flight K D k d) (c : Call) (r : Result (Answer c) Refusal) → Made engine air f c r g → Reached es f → Reached (record { call = c; answer = r } ∷ es) g
  one_more es f g c r made before =
      let w = setting engine air aircraft kind day in
      let o = before.same in
      let Goes : Setting → Type 0 = λ v. r ≡ answered (outcome v (account f) c) in
      let Leaves : Setting → Type 0 = λ v. account g ≡ left_by (account f) (outcome v (account f) c) in
      let answer : Goes w = subst Goes (same_setting f o) made.answer in
      let left : Leaves w = subst Leaves (same_setting f o) made.left in
      record {
        same = record { aircraft_is = made.same.aircraft_is ∙ o.aircraft_is; kind_is = made.same.kind_is ∙ o.kind_is; day_is = made.same.day_is ∙ o.day_is };
        chain = rw (answer, left) (goes_on before.chain c);
      }

  reached : {es : List Event} {f : Flight K D k d} → Run engine air aircraft kind day s es f → Reached es f
  reached (started {f} e) = record { same = e.same; chain = begins (sym e.answer) }
  reached (then {f} {g} {es} {c} {r} run e) = one_more es f g c r e (reached run)

pub keeps_to_the_book : (near : BurnNear) (rises : BurnRises) (gains : BurnGains) {K D : Type 0} {k : Kind.Ghosts K} {d : Day.Ghosts D} (engine : K → KindMeaning) (air : D → Air) (lawful : (k : K) → KindLaws (engine k)) (bounded : (d : D) → AirLaws (air d)) (f : Flight K D k d) → KeepsToTheBook engine air f (reading_of (account f))
keeps_to_the_book near rises gains engine air lawful bounded f aircraft kind day s es run =
    claims near rises gains (setting engine air aircraft kind day) (lawful kind) (bounded day) s es (account f) (reached engine air aircraft kind day s run).chain
