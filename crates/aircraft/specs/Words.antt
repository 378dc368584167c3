-- The word of each engine type and configuration, the row of a configuration, and which of them a word names.
use Rattle.std.specs.Prelude.{ℕ, List, [], ◌∷◌, codes, Option, Result}
use Rattle.std.specs.List.{find}
use Rattle.std.specs.Option.{ok_or}
use Rattle.std.specs.Str.{bytes_eq}
use Rattle.aircraft.specs.declared.words.EngineType.{EngineType}
use Rattle.aircraft.specs.declared.words.EngineType.TheVariants as engine
use Rattle.aircraft.specs.declared.words.Configuration.{Configuration}
use Rattle.aircraft.specs.declared.words.Configuration.TheVariants as flaps
use Rattle.aircraft.specs.declared.words.UnknownWord.{UnknownWord}
use Rattle.aircraft.specs.declared.record.Engine.{Engine}
use Rattle.aircraft.specs.declared.record.Engine.TheVariants as record_engine

abbrev pub engine_word : EngineType → List ℕ
engine_word engine.Jet = codes "Jet"
engine_word engine.Turboprop = codes "Turboprop"

abbrev pub engine_type : Engine → EngineType
engine_type (record_engine.Jet c) = engine.Jet
engine_type (record_engine.Turboprop c) = engine.Turboprop

abbrev pub configuration_word : Configuration → List ℕ
configuration_word flaps.Cruise = codes "CR"
configuration_word flaps.InitialClimb = codes "IC"
configuration_word flaps.TakeOff = codes "TO"
configuration_word flaps.Approach = codes "AP"
configuration_word flaps.Landing = codes "LD"

abbrev pub configuration_row : Configuration → ℕ
configuration_row flaps.Cruise = 0
configuration_row flaps.InitialClimb = 1
configuration_row flaps.TakeOff = 2
configuration_row flaps.Approach = 3
configuration_row flaps.Landing = 4

-- the first of some whose word is the given one
abbrev pub first_named : {X : Type 0} → (X → List ℕ) → List X → List ℕ → Option X
first_named word xs s = find (λ x. bytes_eq s (word x)) xs

abbrev pub engine_named : List ℕ → Option EngineType
engine_named = first_named engine_word (engine.Jet ∷ engine.Turboprop ∷ [])

abbrev pub configuration_named : List ℕ → Option Configuration
configuration_named =
    first_named configuration_word (flaps.Cruise ∷ flaps.InitialClimb ∷ flaps.TakeOff ∷ flaps.Approach ∷ flaps.Landing ∷ [])

-- what is named, or that the word is unknown
abbrev pub known : {X : Type 0} → Option X → Result X UnknownWord
known o = ok_or o record {}
