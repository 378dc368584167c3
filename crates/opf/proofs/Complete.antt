-- A file without a fault gives a plain record within its ranges, and an aircraft with these values is what the file prints.
use Rattle.std.proofs.Common.{◌≡◌, ℕ, ◌-◌, ◌≤◌, Bool, true, leb, List, [], ◌∷◌, length, get_or, take, ℤ, is_some, Some, None, Ok, Option, IfSome, unwrap_or, sym, refl, ap, ◌∙◌, subst, arith}
use Rattle.std.proofs.lemmas.List.{get_or-take}
use Rattle.std.proofs.lemmas.Bool.{leb-true, le-leb, and_parts}
use Rattle.refusal.specs.declared.fault.Fault.{Fault}
use Rattle.refusal.specs.declared.fault.Fault.TheVariants as fault
use Rattle.aircraft.specs.declared.words.EngineType.{EngineType}
use Rattle.aircraft.specs.declared.words.EngineType.TheVariants as engine
use Rattle.aircraft.specs.declared.words.Configuration.{Configuration}
use Rattle.aircraft.specs.declared.words.Configuration.TheVariants as flaps
use Rattle.aircraft.specs.declared.record.Aircraft.{Aircraft}
use Rattle.aircraft.specs.declared.record.Engine.{Engine}
use Rattle.aircraft.specs.declared.record.Engine.TheVariants as kind
use Rattle.aircraft.specs.declared.record.Temperature.{Temperature}
use Rattle.aircraft.specs.declared.record.Row.{Row}
use Rattle.aircraft.specs.declared.draft.Draft.{Draft}
use Rattle.aircraft.specs.declared.draft.DraftRow.{DraftRow}
use Rattle.aircraft.specs.declared.draft.DraftThrust.{DraftThrust}
use Rattle.aircraft.specs.Words.{engine_word, engine_type, engine_named}
use Rattle.opf.specs.declared.number.Quantity.{Quantity}
use Rattle.opf.specs.Faults.{unless, or_else, first_of, judge}
use Rattle.opf.specs.Text.{lines}
use Rattle.opf.specs.Fields.{field}
use Rattle.opf.specs.DataLines.{Fields, nth_line, natural, engine_of, masses_of, in_order, thrust_of, thrust_faults, row_from, line_naming, configuration_lines, parasitic, one_faults, two_faults}
use Rattle.opf.specs.Files.{draft_of, lines_fault, data_lines, read_file}
use Rattle.opf.specs.Records.{values_of, thrust_values, row_values, Ranged, GivenRow, RangedThrust}
use Rattle.opf.specs.Printed.{Prints, PrintsCount, line_of, RowPrinted, ThrustPrinted, Printed}
use Rattle.opf.specs.Quantities as quantity
use Rattle.opf.proofs.Accepted.{NaturalRead, natural_clear, IntegerRead, integer_clear}
use Rattle.opf.proofs.Drafts.{none_first, first_is}
use Rattle.opf.proofs.Judged.{Whole, line_clear, test_holds, whole_from}
use Rattle.opf.proofs.Configurations.{RowRead, row_read}

-- What each line gives.

pub record MassesRead (fs : Fields) : Type 0 where
  pub reference : NaturalRead fs 1 quantity.mass
  pub minimum : NaturalRead fs 2 quantity.mass
  pub maximum : NaturalRead fs 3 quantity.mass
  pub lower : natural fs 2 quantity.mass ≤ natural fs 1 quantity.mass
  pub upper : natural fs 1 quantity.mass ≤ natural fs 3 quantity.mass

pub record ThrustRead (e : EngineType) (fs : Fields) : Type 0 where
  pub ctc1 : NaturalRead fs 1 (quantity.ctc1 e)
  pub ctc2 : NaturalRead fs 2 quantity.ctc2
  pub ctc3 : IntegerRead fs 3 (quantity.ctc3 e)
  pub ctc4 : IntegerRead fs 4 quantity.ctc4
  pub ctc5 : NaturalRead fs 5 quantity.ctc5

pub record DescentRead (fs : Fields) : Type 0 where
  pub low : NaturalRead fs 1 quantity.descent_factor
  pub high : NaturalRead fs 2 quantity.descent_factor
  pub level : NaturalRead fs 3 quantity.descent_level
  pub approach : NaturalRead fs 4 quantity.descent_factor
  pub landing : NaturalRead fs 5 quantity.descent_factor

thrust_clear : (e : EngineType) (n : ℕ) (fs : Fields) → first_of (thrust_faults e n fs) ≡ None → ThrustRead e fs
thrust_clear e n fs h =
    let a = none_first _ _ h in
    let b = none_first _ _ a.1 in
    let c = none_first _ _ b.1 in
    let d = none_first _ _ c.1 in
    let f = none_first _ _ d.1 in
    let g = none_first _ _ f.1 in
    record {
      ctc1 = natural_clear n fs 1 (quantity.ctc1 e) b.0;
      ctc2 = natural_clear n fs 2 quantity.ctc2 c.0;
      ctc3 = integer_clear n fs 3 (quantity.ctc3 e) d.0;
      ctc4 = integer_clear n fs 4 quantity.ctc4 f.0;
      ctc5 = natural_clear n fs 5 quantity.ctc5 g.0;
    }

thrust_ranged : (e : EngineType) (fs : Fields) → ThrustRead e fs → RangedThrust e (thrust_of e fs)
thrust_ranged engine.Jet fs r =
    record {
      ctc1_least = r.ctc1.least;
      ctc1_most = r.ctc1.most;
      ctc2_least = r.ctc2.least;
      ctc2_most = r.ctc2.most;
      ctc3_least = r.ctc3.least;
      ctc3_most = r.ctc3.most;
    }
thrust_ranged engine.Turboprop fs r =
    record { ctc1_most = r.ctc1.most; ctc2_least = r.ctc2.least; ctc2_most = r.ctc2.most; ctc3_least = r.ctc3.least; ctc3_most = r.ctc3.most }

drag_most : (c : Configuration) (x : ℕ) → x ≤ (quantity.parasitic_drag c).high → x ≤ 47000000
drag_most flaps.Cruise x h = h
drag_most flaps.InitialClimb x h = h
drag_most flaps.TakeOff x h = h
drag_most flaps.Approach x h = h
drag_most flaps.Landing x h = h

-- CD0 has one unit in every configuration
eight : (c : Configuration) (s : List ℕ) (v : ℕ) → PrintsCount s (quantity.parasitic_drag c) v → PrintsCount s quantity.drag v
eight flaps.Cruise s v p = p
eight flaps.InitialClimb s v p = p
eight flaps.TakeOff s v p = p
eight flaps.Approach s v p = p
eight flaps.Landing s v p = p

-- the first three coefficients, by engine
thrust_printed : (en : Engine) (t : Temperature) (e : EngineType) (fs : Fields) → engine_type en ≡ e → thrust_values en t ≡ thrust_of e fs → ThrustRead e fs → ThrustPrinted fs en
thrust_printed (kind.Jet c) t engine.Jet fs h v r =
    record {
      ctc1 = subst (λ (x : ℕ). PrintsCount (field fs 1) (quantity.ctc1 engine.Jet) x) (sym (ap (λ (y : DraftThrust). y.ctc1) v)) r.ctc1.prints;
      ctc2 = subst (λ (x : ℕ). PrintsCount (field fs 2) quantity.ctc2 x) (sym (ap (λ (y : DraftThrust). y.ctc2) v)) r.ctc2.prints;
      ctc3 = subst (λ (x : ℤ). Prints (field fs 3) quantity.jet_ctc3 x) (sym (ap (λ (y : DraftThrust). y.ctc3) v)) r.ctc3.prints;
    }
thrust_printed (kind.Jet c) t engine.Turboprop fs h v r = absurd (let z : ◌≡◌ {A = ℕ} 0 1 = cc in omega arith)
thrust_printed (kind.Turboprop c) t engine.Jet fs h v r = absurd (let z : ◌≡◌ {A = ℕ} 0 1 = cc in omega arith)
thrust_printed (kind.Turboprop c) t engine.Turboprop fs h v r =
    record {
      ctc1 = subst (λ (x : ℕ). PrintsCount (field fs 1) (quantity.ctc1 engine.Turboprop) x) (sym (ap (λ (y : DraftThrust). y.ctc1) v)) r.ctc1.prints;
      ctc2 = subst (λ (x : ℕ). PrintsCount (field fs 2) quantity.ctc2 x) (sym (ap (λ (y : DraftThrust). y.ctc2) v)) r.ctc2.prints;
      ctc3 = subst (λ (x : ℤ). Prints (field fs 3) quantity.turboprop_ctc3 x) (sym (ap (λ (y : DraftThrust). y.ctc3) v)) r.ctc3.prints;
    }

-- the last two coefficients, which every engine has alike
temperature_is : (en : Engine) (t : Temperature) → ((thrust_values en t).ctc4 ≡ t.ctc4) × ((thrust_values en t).ctc5 ≡ t.ctc5)
temperature_is (kind.Jet c) t = (refl, refl)
temperature_is (kind.Turboprop c) t = (refl, refl)

-- the row that is read
abbrev row_that : {d : List Fields} {c : Configuration} → RowRead d c → DraftRow
row_that {d} {c} r = record { stall = natural r.fs (length r.fs - 3) quantity.stall_speed; cd0 = natural r.fs (length r.fs - 2) (quantity.parasitic_drag c); cd2 = natural r.fs (length r.fs - 1) quantity.drag }

row_is : {d : List Fields} {c : Configuration} (r : RowRead d c) → row_from (line_naming c (configuration_lines d)) ≡ Some (row_that r)
row_is r = ap row_from r.line ∙ ap (λ (o : Option Configuration). Some (record { stall = natural r.fs (length r.fs - 3) quantity.stall_speed; cd0 = natural r.fs (length r.fs - 2) (parasitic o); cd2 = natural r.fs (length r.fs - 1) quantity.drag })) r.own

some_same : {X : Type 0} {x y : X} → Some x ≡ Some y → x ≡ y
some_same e = cc

row_ranged : {d : List Fields} {c : Configuration} → RowRead d c → GivenRow (row_from (line_naming c (configuration_lines d)))
row_ranged {d} {c} r =
    subst GivenRow (sym (row_is r))
    (record { slowest = r.stall.least; fastest = r.stall.most; parasitic = drag_most c _ r.cd0.most; induced = r.cd2.most })

engine_worded : (s : List ℕ) (o : Option EngineType) → engine_named s ≡ o → is_some o ≡ true → s ≡ engine_word (unwrap_or o engine.Jet)
engine_worded s None e h = absurd (let z : ◌≡◌ {A = ℕ} 0 1 = cc in omega arith)
engine_worded s (Some x) e h = first_is engine_word (engine.Jet ∷ engine.Turboprop ∷ []) s x e

module _ {d : List Fields} (w : Whole d) where
  engine_read : field (nth_line d 1) 4 ≡ engine_word (engine_of (nth_line d 1))
  engine_read =
      let r = line_clear w 1 (omega arith) (omega arith) in
      let a = none_first _ _ r.1 in
      let b = none_first _ _ a.1 in
      engine_worded (field (nth_line d 1) 4) (engine_named (field (nth_line d 1) 4)) refl (test_holds (is_some (engine_named (field (nth_line d 1) 4))) (fault.Word r.0 4) b.0)

  masses_read : MassesRead (nth_line d 2)
  masses_read =
      let r = line_clear w 2 (omega arith) (omega arith) in
      let fs = nth_line d 2 in
      let a = none_first _ _ r.1 in
      let b = none_first _ _ a.1 in
      let c = none_first _ _ b.1 in
      let e = none_first _ _ c.1 in
      let f = none_first _ _ e.1 in
      let order = and_parts _ _ (test_holds (in_order (masses_of fs)) (fault.MassOrder r.0) f.0) in
      record {
        reference = natural_clear r.0 fs 1 quantity.mass b.0;
        minimum = natural_clear r.0 fs 2 quantity.mass c.0;
        maximum = natural_clear r.0 fs 3 quantity.mass e.0;
        lower = leb-true _ _ order.0;
        upper = leb-true _ _ order.1;
      }

  -- a line of which field k is read by itself
  one_read : (k : ℕ) (q : Quantity ℕ) (n : ℕ) (fs : Fields) → first_of (one_faults n fs k q) ≡ None → NaturalRead fs k q
  one_read k q n fs h = natural_clear n fs k q (none_first _ _ (none_first _ _ h).1).0

  ceiling_read : NaturalRead (nth_line d 3) 3 quantity.ceiling
  ceiling_read = let r = line_clear w 3 (omega arith) (omega arith) in one_read 3 quantity.ceiling r.0 (nth_line d 3) r.1

  wing_read : NaturalRead (nth_line d 4) 2 quantity.wing_area
  wing_read = let r = line_clear w 4 (omega arith) (omega arith) in one_read 2 quantity.wing_area r.0 (nth_line d 4) r.1

  gear_read : NaturalRead (nth_line d 13) 3 quantity.drag
  gear_read = let r = line_clear w 13 (omega arith) (omega arith) in one_read 3 quantity.drag r.0 (nth_line d 13) r.1

  cruise_read : NaturalRead (nth_line d 21) 1 quantity.cruise_factor
  cruise_read = let r = line_clear w 21 (omega arith) (omega arith) in one_read 1 quantity.cruise_factor r.0 (nth_line d 21) r.1

  thrust_read : ThrustRead (engine_of (nth_line d 1)) (nth_line d 16)
  thrust_read =
      let r = line_clear w 16 (omega arith) (omega arith) in
      subst (λ (x : Fields). ThrustRead (engine_of x) (nth_line d 16)) (get_or-take 15 d 0 [] (omega arith))
      (thrust_clear (engine_of (nth_line (take 15 d) 1)) r.0 (nth_line d 16) r.1)

  descent_read : DescentRead (nth_line d 17)
  descent_read =
      let r = line_clear w 17 (omega arith) (omega arith) in
      let fs = nth_line d 17 in
      let a = none_first _ _ r.1 in
      let b = none_first _ _ a.1 in
      let c = none_first _ _ b.1 in
      let e = none_first _ _ c.1 in
      let f = none_first _ _ e.1 in
      let g = none_first _ _ f.1 in
      record {
        low = natural_clear r.0 fs 1 quantity.descent_factor b.0;
        high = natural_clear r.0 fs 2 quantity.descent_factor c.0;
        level = natural_clear r.0 fs 3 quantity.descent_level e.0;
        approach = natural_clear r.0 fs 4 quantity.descent_factor f.0;
        landing = natural_clear r.0 fs 5 quantity.descent_factor g.0;
      }

  -- a line of which fields 1 and 2 are read
  two_read : (q s : Quantity ℕ) (n : ℕ) (fs : Fields) → first_of (two_faults n fs q s) ≡ None → NaturalRead fs 1 q × NaturalRead fs 2 s
  two_read q s n fs h =
      let a = none_first _ _ h in
      let b = none_first _ _ a.1 in
      (natural_clear n fs 1 q b.0, natural_clear n fs 2 s (none_first _ _ b.1).0)

  consumption_read : NaturalRead (nth_line d 19) 1 quantity.cf1 × NaturalRead (nth_line d 19) 2 quantity.cf2
  consumption_read = let r = line_clear w 19 (omega arith) (omega arith) in two_read quantity.cf1 quantity.cf2 r.0 (nth_line d 19) r.1

  idle_read : NaturalRead (nth_line d 20) 1 quantity.cf3 × NaturalRead (nth_line d 20) 2 quantity.cf4
  idle_read = let r = line_clear w 20 (omega arith) (omega arith) in two_read quantity.cf3 quantity.cf4 r.0 (nth_line d 20) r.1

  pub all_ranged : Ranged (draft_of d)
  all_ranged =
      record {
        masses = record { light = masses_read.minimum.least; lower = masses_read.lower; upper = masses_read.upper; heavy = masses_read.maximum.most };
        ceiling_least = ceiling_read.least;
        ceiling_most = ceiling_read.most;
        wing_least = wing_read.least;
        wing_most = wing_read.most;
        rows =
            record {
              cruise = row_ranged (row_read w flaps.Cruise);
              initial = row_ranged (row_read w flaps.InitialClimb);
              takeoff = row_ranged (row_read w flaps.TakeOff);
              approach = row_ranged (row_read w flaps.Approach);
              landing = row_ranged (row_read w flaps.Landing);
              clean = subst (λ (o : Option DraftRow). IfSome o (λ r. 100000 ≤ r.cd0)) (sym (row_is (row_read w flaps.Cruise))) (row_read w flaps.Cruise).cd0.least;
            };
        gear_most = gear_read.most;
        thrust = thrust_ranged (engine_of (nth_line d 1)) (nth_line d 16) thrust_read;
        temperature = record { cold = thrust_read.ctc4.least; warm = thrust_read.ctc4.most; steep = thrust_read.ctc5.most };
        descent = record { low = descent_read.low.most; high = descent_read.high.most; level = descent_read.level.most; approach = descent_read.approach.most; landing = descent_read.landing.most };
        fuel =
            record {
              cf1_least = consumption_read.0.least;
              cf1_most = consumption_read.0.most;
              cf2_least = consumption_read.1.least;
              cf2_most = consumption_read.1.most;
              cf3_least = idle_read.0.least;
              cf3_most = idle_read.0.most;
              cf4_least = idle_read.1.least;
              cf4_most = idle_read.1.most;
            };
        cruise_least = cruise_read.least;
        cruise_most = cruise_read.most;
      }

  -- an aircraft with these values
  module _ (a : Aircraft) (same : values_of a ≡ draft_of d) where
    -- a count that the record holds is the one that the field prints
    prints : {fs : Fields} {k : ℕ} {q : Quantity ℕ} (g : Draft → ℕ) → g (draft_of d) ≡ natural fs k q → NaturalRead fs k q → PrintsCount (field fs k) q (g (values_of a))
    prints {fs} {k} {q} g e r = subst (λ (v : ℕ). PrintsCount (field fs k) q v) (sym (ap g same ∙ e)) r.prints

    row_printed : (c : Configuration) (r : Row) (g : Draft → Option DraftRow) → g (draft_of d) ≡ row_from (line_naming c (configuration_lines d)) → Some (row_values r) ≡ g (values_of a) → RowPrinted (line_of d c) c r
    row_printed c r g e f =
        let x = row_read w c in
        let held : row_values r ≡ row_that x = some_same (f ∙ ap g same ∙ e ∙ row_is x) in
        subst (λ (fs : Fields). RowPrinted fs c r) (sym (ap (λ (o : Option Fields). unwrap_or o []) x.line))
        (record {
          word = x.word;
          stall = subst (λ (v : ℕ). PrintsCount (field x.fs (length x.fs - 3)) quantity.stall_speed v) (sym (ap (λ (y : DraftRow). y.stall) held)) x.stall.prints;
          cd0 = subst (λ (v : ℕ). PrintsCount (field x.fs (length x.fs - 2)) quantity.drag v) (sym (ap (λ (y : DraftRow). y.cd0) held)) (eight c (field x.fs (length x.fs - 2)) _ x.cd0.prints);
          cd2 = subst (λ (v : ℕ). PrintsCount (field x.fs (length x.fs - 1)) quantity.drag v) (sym (ap (λ (y : DraftRow). y.cd2) held)) x.cd2.prints;
        })

    pub all_printed : Printed d a
    all_printed =
        record {
          engine = engine_read ∙ ap engine_word (sym (ap (λ (x : Draft). x.engine) same));
          reference = prints (λ x. x.masses.reference) refl masses_read.reference;
          minimum = prints (λ x. x.masses.minimum) refl masses_read.minimum;
          maximum = prints (λ x. x.masses.maximum) refl masses_read.maximum;
          ceiling = prints (λ x. x.ceiling) refl ceiling_read;
          wing = prints (λ x. x.wing) refl wing_read;
          cruise_row = row_printed flaps.Cruise a.rows.cruise (λ x. get_or x.rows 0 None) refl refl;
          initial_row = row_printed flaps.InitialClimb a.rows.initial (λ x. get_or x.rows 1 None) refl refl;
          takeoff_row = row_printed flaps.TakeOff a.rows.takeoff (λ x. get_or x.rows 2 None) refl refl;
          approach_row = row_printed flaps.Approach a.rows.approach (λ x. get_or x.rows 3 None) refl refl;
          landing_row = row_printed flaps.Landing a.rows.landing (λ x. get_or x.rows 4 None) refl refl;
          gear = prints (λ x. x.gear) refl gear_read;
          thrust = thrust_printed a.engine a.temperature (engine_of (nth_line d 1)) (nth_line d 16) (ap (λ (x : Draft). x.engine) same) (ap (λ (x : Draft). x.thrust) same) thrust_read;
          ctc4 = subst (λ (v : ℤ). Prints (field (nth_line d 16) 4) quantity.ctc4 v) (sym (ap (λ (x : Draft). x.thrust.ctc4) same) ∙ (temperature_is a.engine a.temperature).0) thrust_read.ctc4.prints;
          ctc5 = subst (λ (v : ℕ). PrintsCount (field (nth_line d 16) 5) quantity.ctc5 v) (sym (ap (λ (x : Draft). x.thrust.ctc5) same) ∙ (temperature_is a.engine a.temperature).1) thrust_read.ctc5.prints;
          low = prints (λ x. x.descent.low) refl descent_read.low;
          high = prints (λ x. x.descent.high) refl descent_read.high;
          level = prints (λ x. x.descent.level) refl descent_read.level;
          approach = prints (λ x. x.descent.approach) refl descent_read.approach;
          landing = prints (λ x. x.descent.landing) refl descent_read.landing;
          cf1 = prints (λ x. x.consumption.cf1) refl consumption_read.0;
          cf2 = prints (λ x. x.consumption.cf2) refl consumption_read.1;
          cf3 = prints (λ x. x.idle.cf3) refl idle_read.0;
          cf4 = prints (λ x. x.idle.cf4) refl idle_read.1;
          cruise = prints (λ x. x.cruise) refl cruise_read;
        }

pub judged_well : {X : Type 0} (o : Option Fault) (x y : X) → Ok x ≡ judge o y → (o ≡ None) × (x ≡ y)
judged_well None x y e = (refl, cc)
judged_well (Some f) x y e = absurd (let z : ◌≡◌ {A = ℕ} 0 1 = cc in omega arith)

-- the lines of a text without a fault
pub whole_text : (ls : List (List ℕ)) → lines_fault 1 [] ls ≡ None → Whole (data_lines ls)
whole_text ls e = whole_from ls 1 [] e (λ k h. absurd (omega arith))

pub read_well : (text : List ℕ) (x : Draft) → length text ≤ 32768 → lines_fault 1 [] (lines text) ≡ None → x ≡ draft_of (data_lines (lines text)) → Ok x ≡ read_file text
read_well text x size e same =
    let fits : leb (length text) 32768 ≡ true = le-leb (length text) 32768 size in
    ap Ok same
    ∙ ap (λ (f : Option Fault). judge f (draft_of (data_lines (lines text))))
    (sym (ap (λ (b : Bool). or_else (unless b fault.FileSize) (lines_fault 1 [] (lines text))) fits ∙ e))
