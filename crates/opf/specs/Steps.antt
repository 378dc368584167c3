-- The plain record after one more data line.
use Rattle.std.specs.Prelude.{◌≡◌, ℕ, Bool, cond, ◌&&◌, List, is_some, Some, None, Ok, Err, Option, Result, ◌==◌, nat_le, slice_index_or, slice_set}
use Rattle.refusal.specs.declared.fault.Fault.{Fault}
use Rattle.aircraft.specs.declared.words.Configuration.{Configuration}
use Rattle.aircraft.specs.declared.draft.Draft.{Draft}
use Rattle.aircraft.specs.declared.draft.DraftRow.{DraftRow}
use Rattle.aircraft.specs.Words.{configuration_row}
use Rattle.opf.specs.DataLines.{Fields, natural, engine_of, masses_of, configuration_of, row_of, thrust_of, descent_of, consumption_of, idle_of}
use Rattle.opf.specs.Quantities as quantity

-- the configurations of which a row is filled
abbrev pub filled : Draft → Configuration → Bool
filled d c = is_some (slice_index_or d.rows (configuration_row c) None)

abbrev pub rows_with : List (Option DraftRow) → Option Configuration → DraftRow → List (Option DraftRow)
rows_with rows None row = rows
rows_with rows (Some c) row = slice_set rows (configuration_row c) (Some row)

abbrev pub after_line : ℕ → Draft → Fields → Draft
after_line k d fs =
    record {
      engine = cond (k == 1) (engine_of fs) d.engine;
      masses = cond (k == 2) (masses_of fs) d.masses;
      ceiling = cond (k == 3) (natural fs 3 quantity.ceiling) d.ceiling;
      wing = cond (k == 4) (natural fs 2 quantity.wing_area) d.wing;
      rows = cond (nat_le 5 k && nat_le k 9) (rows_with d.rows (configuration_of fs) (row_of fs)) d.rows;
      gear = cond (k == 13) (natural fs 3 quantity.drag) d.gear;
      thrust = cond (k == 16) (thrust_of d.engine fs) d.thrust;
      descent = cond (k == 17) (descent_of fs) d.descent;
      consumption = cond (k == 19) (consumption_of fs) d.consumption;
      idle = cond (k == 20) (idle_of fs) d.idle;
      cruise = cond (k == 21) (natural fs 1 quantity.cruise_factor) d.cruise;
    }

-- the record after the line, unless it has a fault
abbrev pub Takes : Result (Unit {0}) Fault → Option Fault → Draft → Draft → Type 0
Takes (Ok x) o d e = (o ≡ None) × (d ≡ e)
Takes (Err f) o d e = o ≡ Some f
