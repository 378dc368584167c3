-- Some chain leads to a flight after each of its calls.
use Rattle.std.proofs.Common.{◌≡◌, ◌∷◌, sym, subst}
use Rattle.std.proofs.Math.Logic.{∥∥₁_map}
use Rattle.flight.specs.declared.call.Call.{Call}
use Rattle.flight.specs.Calls.{Setting}
use Rattle.flight.specs.Account.{Account}
use Rattle.flight.specs.Accounts.{outcome, answered, left_by}
use Rattle.flight.specs.Chain.{Chained, goes_on}

pub one_more : (w : Setting) (c : Call) (l m : Account) → ∥ Chained w l ∥₁ → m ≡ left_by l (outcome w l c) → ∥ Chained w m ∥₁
one_more w c l m h e =
    let On : Account → Type 0 = λ x. ∥ Chained w x ∥₁ in
    subst On (sym e) (∥∥₁_map h (λ (k : Chained w l). record { start = k.start; events = record { call = c; answer = answered (outcome w l c) } ∷ k.events; chain = goes_on k.chain c }))
