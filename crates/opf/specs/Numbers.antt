-- The number that a field prints, and its value as a whole count of a unit.
use Rattle.std.specs.Prelude.{ℕ, ◌+◌, ◌*◌, ◌/◌, ◌%◌, ◌^◌, Bool, true, false, cond, not, ◌&&◌, ◌||◌, List, length, take, drop, ℤ, pos, negsuc, ◌-ℤ◌, int_le, Some, None, Option, ◌==◌, nat_le, slice_index}
use Rattle.text.specs.Digits.{digits_of}
use Rattle.opf.specs.declared.number.Number.{Number}
use Rattle.opf.specs.declared.number.Quantity.{Quantity}

-- whether the exponent's sign is a minus; it is a plus or a minus
abbrev pub lowers : ℕ → Option Bool
lowers b = cond (b == 45) (Some true) (cond (b == 43) (Some false) None)

abbrev pub signed_value : Bool → ℕ → ℤ
signed_value negative v = cond negative (pos 0 -ℤ pos v) (pos v)

abbrev pub number_from : Bool → Option ℕ → Option Bool → Option ℕ → Option Number
number_from m None l e = None
number_from m (Some d) None e = None
number_from m (Some d) (Some l) None = None
number_from m (Some d) (Some l) (Some e) = Some (record { negative = m; digits = d; exponent = signed_value l e })

-- a point, five digits, E, a sign and two digits
abbrev pub unsigned_number : Bool → List ℕ → Option Number
unsigned_number m t =
    cond (length t == 10 && (slice_index t 0 == 46 && slice_index t 6 == 69))
    (number_from m (digits_of 0 (take 5 (drop 1 t))) (lowers (slice_index t 7)) (digits_of 0 (drop 8 t)))
    None

-- an optional minus stands before it
unfoldable pub number_of : List ℕ → Option Number
number_of s = cond (slice_index s 0 == 45) (unsigned_number true (drop 1 s)) (unsigned_number false s)

abbrev pub raised : ℤ → ℕ
raised (pos n) = n
raised (negsuc n) = 0

abbrev pub lowered : ℤ → ℕ
lowered (pos n) = 0
lowered (negsuc n) = n + 1

-- The value is the five digits times ten to the exponent less five. At a unit of ten to the -u it is
-- digits × 10 ^ (raising u x) / 10 ^ (lowering x) units.
abbrev pub raising : ℕ → Number → ℕ
raising u x = u + raised x.exponent

abbrev pub lowering : Number → ℕ
lowering x = 5 + lowered x.exponent

-- d × 10 ^ up / 10 ^ down, where that is whole
unfoldable pub fixed_point : ℕ → ℕ → ℕ → Option ℕ
fixed_point d up down = cond ((d * 10 ^ up) % (10 ^ down) == 0) (Some ((d * 10 ^ up) / (10 ^ down))) None

abbrev pub whole_count : ℕ → Number → Option ℕ
whole_count u x = fixed_point x.digits (raising u x) (lowering x)

-- a count within its range; only zero may have a minus
abbrev pub within : Quantity ℕ → Bool → ℕ → Bool
within q negative v = (nat_le q.low v && nat_le v q.high) && (v == 0 || not negative)

abbrev pub kept : {X : Type 0} → Bool → X → Option X
kept b x = cond b (Some x) None

abbrev pub natural_from : Quantity ℕ → Bool → Option ℕ → Option ℕ
natural_from q m None = None
natural_from q m (Some v) = kept (within q m v) v

unfoldable pub natural_in : Quantity ℕ → Number → Option ℕ
natural_in q x = natural_from q x.negative (whole_count q.decimals x)

abbrev pub between : Quantity ℤ → ℤ → Bool
between q z = int_le q.low z && int_le z q.high

-- a count of either sign within its range
abbrev pub signed_from : Quantity ℤ → Bool → Option ℕ → Option ℤ
signed_from q m None = None
signed_from q m (Some v) = kept (between q (signed_value m v)) (signed_value m v)

unfoldable pub signed_in : Quantity ℤ → Number → Option ℤ
signed_in q x = signed_from q x.negative (whole_count q.decimals x)
