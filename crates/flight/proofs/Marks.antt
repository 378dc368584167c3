-- What a minimum-fuel mark tells of the fuel of a book that the flight's mass is near to.
use Rattle.std.proofs.Common.{◌≡◌, ℕ, ◌+◌, true, false, ltb, [], ◌∷◌, arith}
use Rattle.std.proofs.lemmas.Bool.{ltb-true, ltb-false}
use Rattle.exact.specs.Rational.{ℚ, nat, ◌+ℚ◌, ◌-ℚ◌, ◌≤ℚ◌, ◌<ℚ◌, Near}
use Rattle.exact.proofs.Laws.{nat-≤, nat-<, nat-+}
use Rattle.exact.proofs.Linear.{linear, at, ◌⊕◌, ◌⊖◌, ◌≼◌, ◌≺◌, ◌≋◌, near}

pub mark_up : (zero_fuel fuel reserve τ : ℕ) (B : ℚ) → Near (nat (zero_fuel + fuel)) B (nat τ) → ltb fuel reserve ≡ true → B -ℚ nat zero_fuel <ℚ nat (reserve + τ)
mark_up z f r τ B h q =
    linear (nat z ∷ nat f ∷ nat r ∷ nat τ ∷ B ∷ nat (z + f) ∷ nat (r + τ) ∷ []) (near (at 5) (at 4) (at 3) ∷ at 5 ≋ at 0 ⊕ at 1 ∷ at 6 ≋ at 2 ⊕ at 3 ∷ at 1 ≺ at 2 ∷ []) (at 4 ⊖ at 0 ≺ at 6) (λ d u w p h. omega arith) (h, (nat-+ z f, (nat-+ r τ, (nat-< (ltb-true f r q), tt))))

pub mark_down : (zero_fuel fuel reserve τ : ℕ) (B : ℚ) → Near (nat (zero_fuel + fuel)) B (nat τ) → ltb fuel reserve ≡ false → nat reserve ≤ℚ (B -ℚ nat zero_fuel) +ℚ nat τ
mark_down z f r τ B h q =
    linear (nat z ∷ nat f ∷ nat r ∷ nat τ ∷ B ∷ nat (z + f) ∷ []) (near (at 5) (at 4) (at 3) ∷ at 5 ≋ at 0 ⊕ at 1 ∷ at 2 ≼ at 1 ∷ []) (at 2 ≼ (at 4 ⊖ at 0) ⊕ at 3) (λ d u w p h. omega arith) (h, (nat-+ z f, (nat-≤ (ltb-false f r q), tt)))
