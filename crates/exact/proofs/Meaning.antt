-- The exact numbers are fractions of whole numbers; the quotient undoes the product; least, greatest, size and distance go by the order.
use Rattle.std.proofs.Common.{◌≡◌, ℕ, ◌+◌, ◌*◌, ℤ, pos, negsuc, ◌+ℤ◌, ◌*ℤ◌, refl, ap, arith}
use borrow.Author.Differences.{ints, up, down, same_in, same_out, at_most_in, le_out, below_in, lt_out, product_is, sum_is_lem}
use Rattle.exact.specs.Rational.{ℚ, int, ◌+ℚ◌, ◌*ℚ◌}
use Rattle.exact.specs.Meaning.{numer, denom, AsFractions, UndoesProduct, ByOrder}
use Rattle.exact.proofs.Laws.{≤_trans, ≈_sym, near_out, near_in, ÷-*_not_zero, ÷_zero, min_left, min_right, ≤_min, left_max, right_max, max-≤, ≤_abs, neg-≤_abs, abs-≤}

numer_is : (x : ℚ) → up (numer x) + x.minus ≡ down (numer x) + x.plus
numer_is x = omega (arith, ints)

-- the numerator of x brought to the denominator of y
brought : (x y : ℚ) → up (numer x *ℤ denom y) + x.minus * y.den ≡ down (numer x *ℤ denom y) + x.plus * y.den
brought x y = omega (arith, product_is (numer x) (denom y), ap (λ (n : ℕ). n * y.den) (numer_is x))

whole_number : (z : ℤ) → (numer (int z) ≡ z) × (denom (int z) ≡ pos 1)
whole_number (pos n) = (omega (arith, ints), refl)
whole_number (negsuc n) = (omega (arith, ints), refl)

sum_of_fractions : (x y : ℚ) → numer (x +ℚ y) ≡ (numer x *ℤ denom y) +ℤ (numer y *ℤ denom x)
sum_of_fractions x y = same_in _ _ (omega (arith, numer_is (x +ℚ y), brought x y, brought y x, sum_is_lem (numer x *ℤ denom y) (numer y *ℤ denom x)))

product_of_fractions : (x y : ℚ) → numer (x *ℚ y) ≡ numer x *ℤ numer y
product_of_fractions x y = same_in _ _ (omega (arith, numer_is (x *ℚ y), product_is (numer x) (numer y), ap (λ (n : ℕ). n * y.plus) (numer_is x), ap (λ (n : ℕ). n * y.minus) (numer_is x), ap (λ (n : ℕ). up (numer x) * n) (numer_is y), ap (λ (n : ℕ). down (numer x) * n) (numer_is y)))

pub as_fractions : AsFractions
as_fractions = record {
  positive = λ x. omega (arith, ints);
  whole = whole_number;
  at_most = λ x y. (λ h. at_most_in _ _ (omega (arith, h.le, brought x y, brought y x)), λ h. record { le = omega (arith, le_out _ _ h, brought x y, brought y x) });
  less = λ x y. (λ h. below_in _ _ (omega (arith, h.lt, brought x y, brought y x)), λ h. record { lt = omega (arith, lt_out _ _ h, brought x y, brought y x) });
  equal = λ x y. (λ h. same_in _ _ (omega (arith, h.eq, brought x y, brought y x)), λ h. record { eq = omega (arith, same_out _ _ h, brought x y, brought y x) });
  sum = λ x y. (sum_of_fractions x y, refl);
  product = λ x y. (product_of_fractions x y, refl);
  opposite = λ x. (omega (arith, ints), refl);
}

pub undoes_product : UndoesProduct
undoes_product = record { by_other = λ x y s. ÷-*_not_zero x (λ e. s (≈_sym e)); by_zero = λ x y e. ÷_zero x (≈_sym e) }

pub by_order : ByOrder
by_order = record {
  least = λ x y z. (λ h. (≤_trans h (min_left x y), ≤_trans h (min_right x y)), λ h. ≤_min h.0 h.1);
  greatest = λ x y z. (λ h. (≤_trans (left_max x y) h, ≤_trans (right_max x y) h), λ h. max-≤ h.0 h.1);
  size = λ x z. (λ h. (≤_trans (≤_abs x) h, ≤_trans (neg-≤_abs x) h), λ h. abs-≤ h.0 h.1);
  distance = λ x y e. (near_out, λ h. near_in h.0 h.1);
}
