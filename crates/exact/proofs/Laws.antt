-- The laws of the exact numbers, all under this one name.
pub mod Order
pub mod Whole
pub mod Products
pub mod Quotients
pub mod Bounds
pub mod Nearness
pub use Order.{≤_refl, ≤_trans, ≤_antisym, either-≤, ≤_total, ≈_refl, ≈_sym, ≡→≈, ≈→≤, ≈→≥, ≈_trans, <→≤, <-≤_trans, ≤-<_trans, <_or-≥, <→≱, near_out, near_in}
pub use Whole.{nat-≤, nat-<, nat-≥0, ≤_nat, nat-+, nat-*, nat-−, nat_max, nat_min, nat_monus, int-+, int_neg, int-−, int-*, int_max, int_min, int-≤, int-<, ≤_int}
pub use Products.{≈_by, +_comm, +_assoc, *_comm, *_assoc, *_one, *_zero, zero-*, neg-*, *_neg, *-+, +-*, *-−, difference_of_squares, cross, +_mono, −_mono, neg_mono, neg-≈, +-≈, −-≈, *_mono, *_mono_left, *_mono₂, *-≥0, *_pos, *-≈, *_cancel}
pub use Quotients.{zero_or_not, ÷-*_not_zero, ÷_zero, >0→not_zero, ÷-*, ÷-≤, ≤-÷, ÷_mono, ÷-≥0, ÷_pos, ÷_falls, shrink, *_cancel-≈, ÷_unique, *_not_zero, zero-÷, ÷-≈, *-÷, +-÷, neg-÷, −-÷, ÷_one, ÷-÷, floor_low, floor_high, int_floor_low, int_floor_high}
pub use Bounds.{min_left, min_right, left_max, right_max, min_either, max_either, ≤_min, max-≤, min_mono, max_mono, min-≈, max-≈, ≤_abs, neg-≤_abs, abs_either, abs-≤, abs-≥0}
pub use Nearness.{near-≥0, near_same, near_sym, near-≈, near_weaken, near_trans, near_below, near-+, near-−, near-*, near-*_left, near_product, near-÷, near_min, near_max, near_min_with, near_max_with, near_held, near_floor, near_int_floor, near_floor_of, near_int_floor_of}
