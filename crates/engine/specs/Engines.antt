-- The meaning of each kind, and the engine of an aircraft: the kind that its record's engine names.
use Rattle.aircraft.specs.declared.record.Aircraft.{Aircraft}
use Rattle.aircraft.specs.declared.record.Engine.{Engine}
use Rattle.aircraft.specs.declared.record.Engine.TheVariants as record_engine
use Rattle.engine.specs.declared.any.AnyKind.{AnyKind}
use Rattle.engine.specs.declared.any.AnyKind.TheVariants as any
use Rattle.engine.specs.Meaning.{KindMeaning}
use Rattle.engine.specs.Jets.{jet_engine}
use Rattle.engine.specs.Turboprops.{turboprop_engine}

abbrev pub any_engine : AnyKind → KindMeaning
any_engine (any.Jet j) = jet_engine j.coefficients
any_engine (any.Turboprop t) = turboprop_engine t.coefficients

abbrev pub engine_by : Engine → KindMeaning
engine_by (record_engine.Jet c) = jet_engine c
engine_by (record_engine.Turboprop c) = turboprop_engine c

abbrev pub engine_of : Aircraft → KindMeaning
engine_of a = engine_by a.engine
