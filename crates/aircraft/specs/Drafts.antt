-- The plain record before anything is read, and with one row filled.
use Rattle.std.specs.Prelude.{[], ◌∷◌, pos, Some, None, slice_set}
use Rattle.aircraft.specs.declared.words.Configuration.{Configuration}
use Rattle.aircraft.specs.declared.words.EngineType.TheVariants as engine
use Rattle.aircraft.specs.declared.draft.Draft.{Draft}
use Rattle.aircraft.specs.declared.draft.DraftRow.{DraftRow}
use Rattle.aircraft.specs.Words.{configuration_row}

abbrev pub empty_draft : Draft
empty_draft =
    record {
      engine = engine.Jet;
      masses = record { reference = 0; minimum = 0; maximum = 0 };
      ceiling = 0;
      wing = 0;
      rows = None ∷ None ∷ None ∷ None ∷ None ∷ [];
      gear = 0;
      thrust = record { ctc1 = 0; ctc2 = 0; ctc3 = pos 0; ctc4 = pos 0; ctc5 = 0 };
      descent = record { low = 0; high = 0; level = 0; approach = 0; landing = 0 };
      consumption = record { cf1 = 0; cf2 = 0 };
      idle = record { cf3 = 0; cf4 = 0 };
      cruise = 0;
    }

abbrev pub with_row : Draft → Configuration → DraftRow → Draft
with_row d c row =
    record {
      engine = d.engine;
      masses = d.masses;
      ceiling = d.ceiling;
      wing = d.wing;
      rows = slice_set d.rows (configuration_row c) (Some row);
      gear = d.gear;
      thrust = d.thrust;
      descent = d.descent;
      consumption = d.consumption;
      idle = d.idle;
      cruise = d.cruise;
    }
