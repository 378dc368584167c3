-- The meanings of the bench day and of any day, and which pairs a bench takes.
use Rattle.std.specs.Prelude.{ℕ, cond, ◌&&◌, ℤ, pos, negsuc, Ok, Err, Result, int_le, nat_le}
use Rattle.refusal.specs.declared.refusal.Refusal.{Refusal}
use Rattle.refusal.specs.declared.refusal.Refusal.TheVariants.{BenchPair}
use Rattle.air.specs.Day.{Air}
use Rattle.air.specs.Standard.{standard_air}
use Rattle.air.specs.declared.bench.Bench.{Bench}
use Rattle.air.specs.declared.days.AnyDay.{AnyDay}
use Rattle.air.specs.declared.days.AnyDay.TheVariants as any

-- one pair at every altitude
abbrev pub bench_air : Bench → Air
bench_air b = record { pair = λ h. (b.density, b.deviation) }

-- the pair of a new bench: density 5,000 to 150,000, deviation −5,000 to 5,000; else a refusal
abbrev pub bench_pair : ℕ → ℤ → Result (ℕ × ℤ) Refusal
bench_pair density deviation =
    cond (nat_le 5000 density && nat_le density 150000 && int_le (negsuc 4999) deviation && int_le deviation (pos 5000)) (Ok (density, deviation)) (Err BenchPair)

-- the pair that a bench holds
abbrev pub held : Result Bench Refusal → Result (ℕ × ℤ) Refusal
held (Ok b) = Ok (b.density, b.deviation)
held (Err e) = Err e

-- each kind of day by its own meaning
abbrev pub any_air : AnyDay → Air
any_air (any.Bench b) = bench_air b
any_air (any.Standard s) = standard_air
