-- The standard day: its 61 densities, what holds of the whole table, and the meaning that rests on it.
use Rattle.std.specs.Prelude.{◌≡◌, ℕ, ◌+◌, ◌*◌, ◌/◌, ◌<◌, ◌≤◌, cond, List, [], ◌∷◌, length, ℤ, pos, nat_lt, slice_index, unsigned_abs}
use Rattle.air.specs.Day.{Air}
use Rattle.air.specs.Between.{between}

-- standard densities in 10⁻⁵ kg/m³, one for each 1,000 ft from 0 to 60,000
unfoldable pub table : List ℕ
table =
    122500 ∷ 118955 ∷ 115490 ∷ 112102 ∷ 108791 ∷ 105555 ∷ 102393 ∷ 99304 ∷ 96287 ∷ 93341 ∷ 90464 ∷
    87655 ∷ 84914 ∷ 82238 ∷ 79628 ∷ 77082 ∷ 74598 ∷ 72176 ∷ 69815 ∷ 67513 ∷ 65269 ∷ 63084 ∷ 60954 ∷
    58880 ∷ 56861 ∷ 54895 ∷ 52981 ∷ 51119 ∷ 49307 ∷ 47545 ∷ 45831 ∷ 44165 ∷ 42546 ∷ 40973 ∷ 39444 ∷
    37960 ∷ 36518 ∷ 34833 ∷ 33199 ∷ 31641 ∷ 30156 ∷ 28741 ∷ 27392 ∷ 26107 ∷ 24881 ∷ 23714 ∷ 22601 ∷
    21540 ∷ 20530 ∷ 19566 ∷ 18648 ∷ 17773 ∷ 16939 ∷ 16144 ∷ 15386 ∷ 14664 ∷ 13976 ∷ 13320 ∷ 12695 ∷
    12100 ∷ 11532 ∷ []

-- each entry is less than the one before
abbrev pub Falling : List ℕ → Type 0
Falling t = (k : ℕ) → k + 1 < length t → slice_index t (k + 1) < slice_index t k

-- each entry is at least low and at most high
abbrev pub Within : ℕ → ℕ → List ℕ → Type 0
Within low high t = (k : ℕ) → k < length t → (low ≤ slice_index t k) × (slice_index t k ≤ high)

-- the density at k thousand feet
abbrev pub level : ℕ → ℕ
level k = slice_index table k

-- the density at h feet: between the level below and the level above; 60,000 ft has its own level alone
unfoldable pub standard_density : ℕ → ℤ
standard_density h =
    cond (nat_lt h 60000)
    (between (pos (level (h / 1000))) (pos (level (h / 1000 + 1))) (1000 * (h / 1000)) (1000 * (h / 1000 + 1)) h)
    (pos (level 60))

-- no density is negative, so that its count is the density itself
abbrev pub Counted : Type 0
Counted = (h : ℕ) → pos (unsigned_abs (standard_density h)) ≡ standard_density h

abbrev pub standard_air : Air
standard_air = record { pair = λ h. (unsigned_abs (standard_density h), pos 0) }
