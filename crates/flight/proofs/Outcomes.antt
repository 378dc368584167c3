-- What is known of a call's outcome where it is accepted.
use Rattle.std.proofs.Common.{◌≡◌, ℕ, ◌+◌, ◌-◌, ◌^◌, ◌≤◌, Bool, true, false, leb, Ok, Err, Result, sym, refl, subst}
use Rattle.std.proofs.lemmas.Bool.{leb-true}
use Rattle.refusal.specs.declared.refusal.Refusal.{Refusal}
use Rattle.refusal.specs.declared.refusal.Refusal.TheVariants as refusal
use Rattle.leg.specs.declared.flown.Flown.{Flown}
use Rattle.leg.specs.declared.phase.Phase.{Phase}
use Rattle.leg.specs.Phases.{phase_numbered}
use Rattle.leg.specs.declared.figures.Figures.{Figures}
use Rattle.leg.specs.Requests.{InRange, taken_figures}
use Rattle.leg.specs.Legs.{leg_answer}
use Rattle.leg.proofs.Answered.{taken_is}
use Rattle.flight.specs.declared.status.State.{State}
use Rattle.flight.specs.declared.states.Transition.TheVariants as transition
use Rattle.flight.specs.declared.call.Call.TheVariants.{Leg}
use Rattle.flight.specs.Calls.{Setting}
use Rattle.flight.specs.States.{next_state}
use Rattle.flight.specs.Account.{Account}
use Rattle.flight.specs.Accounts.{mass_of, changed, unless, and_then, most_seconds, Done, Outcome, leg_fuelled, leg_taken, outcome}

pub then_ok : {A B : Type 0} (r : Result A Refusal) (f : A → Result B Refusal) (b : B) → and_then r f ≡ Ok b → (a : A) × (r ≡ Ok a) × (f a ≡ Ok b)
then_ok (Ok a) f b q = (a, refl, q)
then_ok (Err e) f b q = absurd cc

pub unless_ok : {A : Type 0} (e : Refusal) (test : Bool) (r : Result A Refusal) (a : A) → unless e test r ≡ Ok a → (test ≡ true) × (r ≡ Ok a)
unless_ok e true r a q = (refl, q)
unless_ok e false r a q = absurd cc

pub record LegAccepted (w : Setting) (l : Account) (n : ℕ) (x : Figures) (d : Done Flown) : Type 0 where
  pub phase : Phase
  pub next : State
  pub numbered : phase_numbered n ≡ Ok phase
  pub range : InRange x
  pub short : l.seconds + x.seconds ≤ 10 ^ 6
  pub flew : leg_answer w.aircraft w.engine w.air phase x (mass_of l) ≡ Ok d.answer
  pub enough : d.answer.burn ≤ l.fuel
  pub left : d.left ≡ changed l next (l.fuel - d.answer.burn) (l.seconds + x.seconds)

module _ (w : Setting) (l : Account) (n : ℕ) (x : Figures) (d : Done Flown) where
  fuelled_ok : (p : Phase) (next : State) (a : Flown) → phase_numbered n ≡ Ok p → InRange x → l.seconds + x.seconds ≤ 10 ^ 6 → leg_answer w.aircraft w.engine w.air p x (mass_of l) ≡ Ok a → leg_fuelled l next x.seconds a ≡ Ok d → LegAccepted w l n x d
  fuelled_ok p next a numbered range short flew q =
      let done : Done Flown = record { answer = a; left = changed l next (l.fuel - a.burn) (l.seconds + x.seconds) } in
      let enough = unless_ok refusal.FuelShort (leb a.burn l.fuel) (Ok done) d q in
      let o : Ok done ≡ Ok d = enough.1 in
      let is : done ≡ d = cc in
      let facts : LegAccepted w l n x done = record { phase = p; next = next; numbered = numbered; range = range; short = short; flew = flew; enough = leb-true a.burn l.fuel enough.0; left = refl } in
      subst (LegAccepted w l n x) is facts

  taken_ok : (p : Phase) (next : State) → phase_numbered n ≡ Ok p → InRange x → leg_taken w l p next x ≡ Ok d → LegAccepted w l n x d
  taken_ok p next numbered range q =
      let answer = leg_answer w.aircraft w.engine w.air p x (mass_of l) in
      let short = unless_ok refusal.FlownSeconds (leb (l.seconds + x.seconds) most_seconds) (and_then answer (leg_fuelled l next x.seconds)) d q in
      let flew = then_ok answer (leg_fuelled l next x.seconds) d short.1 in
      fuelled_ok p next flew.0 numbered range (leb-true (l.seconds + x.seconds) most_seconds short.0) flew.1 flew.2

  pub leg_ok : outcome w l (Leg n x) ≡ Ok d → LegAccepted w l n x d
  leg_ok q =
      let from_state : Phase → State → Outcome Flown = λ p next. and_then (taken_figures w.aircraft x) (leg_taken w l p next) in
      let from_phase : Phase → Outcome Flown = λ p. and_then (next_state l.state (transition.Leg p)) (from_state p) in
      let numbered = then_ok (phase_numbered n) from_phase d q in
      let p = numbered.0 in
      let state = then_ok (next_state l.state (transition.Leg p)) (from_state p) d numbered.2 in
      let taken = then_ok (taken_figures w.aircraft x) (leg_taken w l p state.0) d state.2 in
      let figures = taken_is w.aircraft x taken.0 (sym taken.1) in
      let P : Figures → Type 0 = λ y. leg_taken w l p state.0 y ≡ Ok d in
      taken_ok p state.0 numbered.1 figures.1 (subst P figures.0 taken.2)
