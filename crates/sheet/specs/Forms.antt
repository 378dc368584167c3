-- The form of a script line: its first word and the numbers after it.
use Rattle.std.specs.Prelude.{ℕ, cond, List, Some, None, codes, Option}
use Rattle.std.specs.Str.{bytes_eq}
use Rattle.text.specs.Bytes.{every, printable}
use Rattle.sheet.specs.declared.form.Form.{Form}
use Rattle.sheet.specs.declared.form.Form.TheVariants as form
use Rattle.flight.specs.declared.call.Call.TheVariants as call
use Rattle.sheet.specs.Words.{first_word, behind, has_more, and_then, number_of, deviation_of}

-- what follows the word `bench`: density and deviation
abbrev pub bench_form : List ℕ → Option Form
bench_form s =
    and_then (number_of (first_word s)) (λ density.
    and_then (deviation_of (behind s)) (λ deviation. Some (form.Bench density deviation)))

-- what follows the word `start`: zero-fuel mass and fuel, and maybe the reserve
abbrev pub reserved_form : ℕ → List ℕ → Option Form
reserved_form zero_fuel s =
    and_then (number_of (first_word s)) (λ fuel.
    and_then (number_of (behind s)) (λ reserve. Some (form.Start (record { zero_fuel = zero_fuel; fuel = fuel; reserve = Some reserve }))))

abbrev pub unreserved_form : ℕ → List ℕ → Option Form
unreserved_form zero_fuel s = and_then (number_of s) (λ fuel. Some (form.Start (record { zero_fuel = zero_fuel; fuel = fuel; reserve = None })))

abbrev pub start_form : List ℕ → Option Form
start_form s =
    and_then (number_of (first_word s)) (λ zero_fuel.
    cond (has_more (behind s)) (reserved_form zero_fuel (behind s)) (unreserved_form zero_fuel (behind s)))

-- what follows the word `leg`: phase, altitude, true and calibrated airspeed, seconds
abbrev pub leg_form : List ℕ → Option Form
leg_form s =
    and_then (number_of (first_word s)) (λ phase.
    and_then (number_of (first_word (behind s))) (λ altitude.
    and_then (number_of (first_word (behind (behind s)))) (λ speed.
    and_then (number_of (first_word (behind (behind (behind s))))) (λ calibrated.
    and_then (number_of (behind (behind (behind (behind s))))) (λ seconds. Some (form.Call (call.Leg phase (record { altitude = altitude; speed = speed; calibrated = calibrated; seconds = seconds }))))))))

abbrev pub uplift_form : List ℕ → Option Form
uplift_form s = and_then (number_of s) (λ grams. Some (form.Call (call.Uplift grams)))

abbrev pub jettison_form : List ℕ → Option Form
jettison_form s = and_then (number_of s) (λ grams. Some (form.Call (call.Jettison grams)))

-- by the first word; `standard` and `touchdown` are the whole line
abbrev pub form_by : List ℕ → List ℕ → Option Form
form_by word s =
    cond (bytes_eq word (codes "leg")) (leg_form (behind s))
    (cond (bytes_eq word (codes "uplift")) (uplift_form (behind s))
    (cond (bytes_eq word (codes "jettison")) (jettison_form (behind s))
    (cond (bytes_eq word (codes "start")) (start_form (behind s))
    (cond (bytes_eq word (codes "bench")) (bench_form (behind s))
    (cond (bytes_eq s (codes "touchdown")) (Some (form.Call call.Touchdown))
    (cond (bytes_eq s (codes "standard")) (Some form.Standard) None))))))

-- every byte of a form is printable
abbrev pub form_of : List ℕ → Option Form
form_of s = cond (every printable s) (form_by (first_word s) s) None
