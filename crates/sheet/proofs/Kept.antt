-- Whatever line a sheet takes, it stays the sheet of its aircraft and kind.
use Rattle.std.proofs.Common.{ℕ, List, Some, None, Ok, Err, Option, Result, refl, ap, ◌∙◌}
use Rattle.refusal.specs.declared.refusal.Refusal.{Refusal}
use Rattle.refusal.specs.declared.refusal.Refusal.TheVariants as refusal
use Rattle.air.specs.declared.days.AnyDay.{AnyDay}
use Rattle.air.specs.Days.{bench_pair}
use Rattle.flight.specs.declared.start.Start.{Start}
use Rattle.sheet.specs.declared.form.Form.{Form}
use Rattle.sheet.specs.declared.form.Form.TheVariants as form
use Rattle.sheet.specs.declared.sheet.Sheet.{Sheet}
use Rattle.sheet.specs.Forms.{form_of}
use Rattle.sheet.specs.Sheets.{OwnFlight, Keeps, Said, Refused, Noted, standard, bench_noted, before_start, DayJudged, StartJudged, StartOn, TakesForm, Takes}

pub refused_keeps : (e : Refusal) (s : Sheet) (a : Said) (t : Sheet) → Refused e s a t → Keeps s t
refused_keeps e s a t h = record { aircraft_is = ap (λ (u : Sheet). u.aircraft) h.untouched; kind_is = ap (λ (u : Sheet). u.kind) h.untouched }

pub day_keeps : (line : List ℕ) (r : Result Noted Refusal) (s : Sheet) (a : Said) (t : Sheet) → DayJudged line r s a t → Keeps s t
day_keeps line (Ok d) s a t h = h.keeps
day_keeps line (Err e) s a t h = refused_keeps e s a t h

pub judged_keeps : (r : Result OwnFlight Refusal) (s : Sheet) (a : Said) (t : Sheet) → StartJudged r s a t → Keeps s t
judged_keeps (Ok g) s a t h = h.keeps
judged_keeps (Err e) s a t h = refused_keeps e s a t h

pub start_keeps : (d : Option AnyDay) (x : Start) (s : Sheet) (a : Said) (t : Sheet) → StartOn d x s a t → Keeps s t
start_keeps None x s a t h = refused_keeps refusal.Script s a t h
start_keeps (Some day) x s a t h = judged_keeps h.result s a t h.judged

pub form_keeps : (line : List ℕ) (f : Option Form) (s : Sheet) (a : Said) (t : Sheet) → TakesForm line f s a t → Keeps s t
form_keeps line None s a t h = refused_keeps refusal.Script s a t h
form_keeps line (Some (form.Bench d v)) s a t h = day_keeps line (before_start s.flight (bench_noted (bench_pair d v))) s a t h
form_keeps line (Some form.Standard) s a t h = day_keeps line (before_start s.flight (Ok standard)) s a t h
form_keeps line (Some (form.Start x)) s a t h = start_keeps s.day x s a t h
form_keeps line (Some (form.Call c)) s a t h = h.keeps

pub takes_keeps : (line : List ℕ) (s : Sheet) (a : Said) (t : Sheet) → Takes line s a t → Keeps s t
takes_keeps line s a t h = form_keeps line (form_of line) s a t h

pub keeps_on : (s t u : Sheet) → Keeps s t → Keeps t u → Keeps s u
keeps_on s t u p q = record { aircraft_is = q.aircraft_is ∙ p.aircraft_is; kind_is = q.kind_is ∙ p.kind_is }

pub keeps_itself : (s : Sheet) → Keeps s s
keeps_itself s = record { aircraft_is = refl; kind_is = refl }
