-- The figures of a fuel table: the mass of each column, how far a flow is from the printed one, and the worst of these differences.
use Rattle.std.specs.Prelude.{ℕ, ◌+◌, ◌-◌, ◌*◌, ◌/◌, Some, None, Ok, Err, Option, Result}
use Rattle.aircraft.specs.declared.record.Aircraft.{Aircraft}
use Rattle.leg.specs.declared.flown.Flown.{Flown}
use Rattle.refusal.specs.declared.refusal.Refusal.{Refusal}
use Rattle.fueltable.specs.declared.column.Column.{Column}
use Rattle.fueltable.specs.declared.column.Column.TheVariants as in_column
use Rattle.fueltable.specs.declared.figures.Tenths.{Tenths}
use Rattle.fueltable.specs.declared.figures.Thousandths.{Thousandths}
use Rattle.fueltable.specs.declared.tally.Tally.{Tally}
use Rattle.fueltable.specs.declared.tally.Worst.{Worst}

-- in g: 1.2 times the minimum, the maximum, or the reference mass
abbrev pub column_mass : Column → Aircraft → ℕ
column_mass in_column.Low a = a.masses.minimum * 12 / 10
column_mass in_column.Nominal a = a.masses.reference
column_mass in_column.High a = a.masses.maximum
column_mass in_column.Climb a = a.masses.reference
column_mass in_column.Descent a = a.masses.reference

-- in g/min, of a flow in whole g/min and one printed in 0.1 kg/min
abbrev pub apart : ℕ → ℕ → ℕ
apart computed printed = (computed - printed * 100) + (printed * 100 - computed)

abbrev pub difference_of : Result Flown Refusal → Option Tenths → Option Thousandths
difference_of (Ok flown) (Some printed) = Some (record { 0 = apart (flown.flow / 1000) printed.0 })
difference_of (Ok flown) None = None
difference_of (Err refusal) printed = None

-- 0 where none was counted
abbrev pub difference_of_worst : Option Worst → ℕ
difference_of_worst None = 0
difference_of_worst (Some worst) = worst.difference.0

abbrev pub farthest : Tally → ℕ
farthest tally = difference_of_worst tally.worst
