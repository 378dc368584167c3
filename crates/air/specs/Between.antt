-- The value between two neighbouring levels.
use Rattle.std.specs.Prelude.{ℕ, ◌-◌, ℤ, pos, ◌+ℤ◌, ◌-ℤ◌, ◌*ℤ◌}
use Rattle.std.specs.Int.{int_div_euclid}

-- x0 at h0 and x1 at h1 give x0 + ⌊(x1 − x0) × (h − h0) / (h1 − h0)⌋ at h: by a divisor above 0, `int_div_euclid` rounds toward minus infinity
abbrev pub between : ℤ → ℤ → ℕ → ℕ → ℕ → ℤ
between x0 x1 h0 h1 h = x0 +ℤ int_div_euclid ((x1 -ℤ x0) *ℤ pos (h - h0)) (pos (h1 - h0))
