-- How large the figures of a leg get.
use Rattle.std.proofs.Common.{ℕ, ◌-◌, ◌*◌, ◌/◌, ◌^◌, ◌≤◌, arith}
use Rattle.engine.specs.Bounds.{product, quotient}

-- the divisor is a numeral, so that `omega` divides
pub moving_high : (density v : ℕ) → density ≤ 150000 → v ≤ 7000 → density * (v * v) ≤ 7350000000000
moving_high density v p q = product 150000 49000000 p (product 7000 7000 q q)

pub force_high : (q s : ℕ) → q ≤ 97260009259 → s ≤ 10 ^ 6 → q * s / 10 ^ 6 ≤ 97260009259
force_high q s p r = omega (arith, product 97260009259 (10 ^ 6) p r)

pub parasitic_high : (cd0 q : ℕ) → cd0 ≤ 94000000 → q ≤ 97260009259 → cd0 * q ≤ 9142440870346000000
parasitic_high cd0 q p r = product 94000000 97260009259 p r

pub square_high : (w : ℕ) → w ≤ 882598500 → w * w ≤ 778980112202250000
square_high w p = product 882598500 882598500 p p

-- a lifted weight's square over the force is at most three tenths of the weight
pub loading_high : (w q : ℕ) → w ≤ 882598500 → 10 * w ≤ 3 * q → 10 * (w * w) / q ≤ 2647795500
loading_high w q p lift =
    quotient (10 * (w * w)) q 2647795500 (omega (arith, product {a = 10 * w} {b = w} (3 * q) 882598500 lift p))

pub induced_high : (cd2 x : ℕ) → cd2 ≤ 47000000 → x ≤ 2647795500 → cd2 * x ≤ 124446388500000000
induced_high cd2 x p q = product 47000000 2647795500 p q

pub left_high : (n e : ℕ) → n ≤ 10000000000 → n * (1000000000 - e) ≤ 10000000000 * 1000000000
left_high n e p = product 10000000000 1000000000 p (omega arith)

pub used_high : (s n : ℕ) → s ≤ 100000000 → n ≤ 10000000000 → s * n ≤ 1000000000000000000
used_high s n p q = product 100000000 10000000000 p q
