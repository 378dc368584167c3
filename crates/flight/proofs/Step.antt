-- One leg of a flight and of its book: two masses come no further apart than the leg's own error.
use Rattle.std.proofs.Common.{ℕ, ◌+◌, ◌-◌, ◌^◌, ◌≤◌, [], ◌∷◌, ⊎_elim, arith}
use Rattle.exact.specs.Rational.{ℚ, nat, ◌+ℚ◌, ◌-ℚ◌, ◌≤ℚ◌, Near}
use Rattle.exact.proofs.Laws.{≤_total, nat-≤, nat-≥0, nat-+, nat-−}
use Rattle.exact.proofs.Linear.{linear, at, con, ◌⊕◌, ◌⊖◌, ◌≼◌, ◌≋◌, near}

-- β is the exact burn by mass, m the flight's mass, b its burn, B the book's mass; τ is how near the masses are before, ρ how near the burns are
module _ (β : ℚ → ℚ) (m b τ ρ : ℕ) (B : ℚ) (rises : (x x' : ℚ) → nat 0 ≤ℚ x → x ≤ℚ x' → x' ≤ℚ nat (m + 10 ^ 8) → β x ≤ℚ β x') (gains : (x x' : ℚ) → nat 0 ≤ℚ x → x ≤ℚ x' → x' ≤ℚ nat (m + 10 ^ 8) → β x' -ℚ β x ≤ℚ x' -ℚ x) (small : τ ≤ 10 ^ 8) (heavy : 10 ^ 8 ≤ m) (enough : b ≤ m) (masses : Near (nat m) B (nat τ)) (burns : Near (nat b) (β (nat m)) (nat ρ)) where
  book_low : nat 0 ≤ℚ B
  book_low =
      linear (nat m ∷ B ∷ nat τ ∷ []) (near (at 0) (at 1) (at 2) ∷ at 2 ≼ con (10 ^ 8) ∷ con (10 ^ 8) ≼ at 0 ∷ []) (con 0 ≼ at 1) (λ d u w p h. omega arith) (masses, (nat-≤ small, (nat-≤ heavy, tt)))

  book_high : B ≤ℚ nat (m + 10 ^ 8)
  book_high =
      linear (nat m ∷ B ∷ nat τ ∷ nat (m + 10 ^ 8) ∷ []) (near (at 0) (at 1) (at 2) ∷ at 2 ≼ con (10 ^ 8) ∷ at 3 ≋ at 0 ⊕ con (10 ^ 8) ∷ []) (at 1 ≼ at 3) (λ d u w p h. omega arith) (masses, (nat-≤ small, (nat-+ m (10 ^ 8), tt)))

  flight_high : nat m ≤ℚ nat (m + 10 ^ 8)
  flight_high = nat-≤ (omega arith)

  -- whichever is the heavier
  lighter_flight : nat m ≤ℚ B → Near (nat (m - b)) (B -ℚ β B) (nat (ρ + τ))
  lighter_flight h =
      linear (nat m ∷ B ∷ nat τ ∷ nat b ∷ β (nat m) ∷ β B ∷ nat ρ ∷ nat (m - b) ∷ nat (ρ + τ) ∷ [])
      (near (at 0) (at 1) (at 2) ∷ at 0 ≼ at 1 ∷ at 4 ≼ at 5 ∷ at 5 ⊖ at 4 ≼ at 1 ⊖ at 0 ∷ near (at 3) (at 4) (at 6) ∷ at 7 ≋ at 0 ⊖ at 3 ∷ at 8 ≋ at 6 ⊕ at 2 ∷ [])
      (near (at 7) (at 1 ⊖ at 5) (at 8))
      (λ d u w p h. (omega arith, omega arith))
      (masses, (h, (rises (nat m) B (nat-≥0 m) h book_high, (gains (nat m) B (nat-≥0 m) h book_high, (burns, (nat-− enough, (nat-+ ρ τ, tt)))))))

  lighter_book : B ≤ℚ nat m → Near (nat (m - b)) (B -ℚ β B) (nat (ρ + τ))
  lighter_book h =
      linear (nat m ∷ B ∷ nat τ ∷ nat b ∷ β (nat m) ∷ β B ∷ nat ρ ∷ nat (m - b) ∷ nat (ρ + τ) ∷ [])
      (near (at 0) (at 1) (at 2) ∷ at 1 ≼ at 0 ∷ at 5 ≼ at 4 ∷ at 4 ⊖ at 5 ≼ at 0 ⊖ at 1 ∷ near (at 3) (at 4) (at 6) ∷ at 7 ≋ at 0 ⊖ at 3 ∷ at 8 ≋ at 6 ⊕ at 2 ∷ [])
      (near (at 7) (at 1 ⊖ at 5) (at 8))
      (λ d u w p h. (omega arith, omega arith))
      (masses, (h, (rises B (nat m) book_low h flight_high, (gains B (nat m) book_low h flight_high, (burns, (nat-− enough, (nat-+ ρ τ, tt)))))))

  pub after_leg : Near (nat (m - b)) (B -ℚ β B) (nat (ρ + τ))
  after_leg = ⊎_elim lighter_flight lighter_book (≤_total (nat m) B)

-- the same grams put into both, or thrown out of both
pub after_uplift : (m g τ : ℕ) (B : ℚ) → Near (nat m) B (nat τ) → Near (nat (m + g)) (B +ℚ nat g) (nat τ)
after_uplift m g τ B h =
    linear (nat m ∷ B ∷ nat τ ∷ nat g ∷ nat (m + g) ∷ []) (near (at 0) (at 1) (at 2) ∷ at 4 ≋ at 0 ⊕ at 3 ∷ []) (near (at 4) (at 1 ⊕ at 3) (at 2)) (λ d u w p h. (omega arith, omega arith)) (h, (nat-+ m g, tt))

pub after_jettison : (m g τ : ℕ) (B : ℚ) → g ≤ m → Near (nat m) B (nat τ) → Near (nat (m - g)) (B -ℚ nat g) (nat τ)
after_jettison m g τ B e h =
    linear (nat m ∷ B ∷ nat τ ∷ nat g ∷ nat (m - g) ∷ []) (near (at 0) (at 1) (at 2) ∷ at 4 ≋ at 0 ⊖ at 3 ∷ []) (near (at 4) (at 1 ⊖ at 3) (at 2)) (λ d u w p h. (omega arith, omega arith)) (h, (nat-− e, tt))
