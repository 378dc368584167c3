-- Digits one by one.
use Rattle.std.proofs.Common.{◌≡◌, ℕ, ◌+◌, ◌-◌, ◌*◌, ◌^◌, ◌<◌, ◌≤◌, true, false, List, length, get_or, drop, None, pow-suc, add-one, arith}
use native.Mathlib.Nat.{pow-le-pow_right}
use Rattle.std.proofs.lemmas.Bool.{le-leb}
use Rattle.std.proofs.lemmas.List.{drop_more}
use Rattle.std.proofs.lemmas.Bool.Decides.{nat_tests}
use Rattle.text.specs.Digits.{digit, digits_of, number_written}

pub digits_yes : (n i : ℕ) (s : List ℕ) → i < length s → digit (get_or s i 0) ≡ true → digits_of (n * 10 + (get_or s i 0 - 48)) (drop (i + 1) s) ≡ digits_of n (drop i s)
digits_yes n i s h e = rw (drop_more s i 0, e)

pub digits_no : (n i : ℕ) (s : List ℕ) → i < length s → digit (get_or s i 0) ≡ false → digits_of n (drop i s) ≡ None
digits_no n i s h e = rw (drop_more s i 0, e)

pub more_digits : (n d i : ℕ) → n < 10 ^ i → d < 10 → n * 10 + d < 10 ^ (i + 1)
more_digits n d i p q = let e : 10 ^ (i + 1) ≡ 10 ^ i * 10 = rw add-one (pow-suc 10 i) in omega (arith, e)

-- nineteen digits fit
pub fits_more : (n d i : ℕ) → i < 19 → n < 10 ^ i → d < 10 → n * 10 + d < 2 ^ 64
fits_more n d i h p q = omega (arith, more_digits n d i p q, pow-le-pow_right {n = 10} (omega arith) {i = i + 1} {j = 19} (omega arith))

pub nineteen_at_most : (s : List ℕ) → length s ≤ 19 → number_written s ≡ digits_of 0 s
nineteen_at_most s h = rw (le-leb (length s) 19 h)

pub digit_low : (b : ℕ) → digit b ≡ true → b - 48 < 10
digit_low b e = grind (arith, nat_tests)
