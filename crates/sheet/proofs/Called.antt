-- A call of a sheet's flight, from the flight's own call and what is read after it.
use Rattle.std.proofs.Common.{◌≡◌, Ok, Err, Result, MatchResult, ap}
use Rattle.refusal.specs.declared.refusal.Refusal.{Refusal}
use Rattle.air.specs.Days.{any_air}
use Rattle.engine.specs.Engines.{any_engine}
use Rattle.flight.specs.declared.call.Call.{Call}
use Rattle.flight.specs.declared.reading.Reading.{Reading}
use Rattle.flight.specs.Calls as calls
use Rattle.flight.specs.Accounts.{reading_of}
use Rattle.flight.specs.Runs.{account, Made}
use Rattle.flight.specs.Claims.{KeepsToTheBook}
use Rattle.std.specs.Result.{IsOkAnd}
use Rattle.sheet.specs.declared.answer.Answer.{Answer}
use Rattle.sheet.specs.Sheets.{OwnFlight, Said, accepted, called, CallMade}

called_is : (c : Call) (r : Result (calls.Answer c) Refusal) (x : Reading) (a : Said) (P : calls.Answer c → Answer → Type 0) → ((y : calls.Answer c) (z : Answer) → P y z → z ≡ accepted c y x) → MatchResult r (λ y. IsOkAnd a (P y)) (λ e. a ≡ Err e) → a ≡ called c r x
called_is c (Ok y) x (Ok z) P p h = ap Ok (p y z h)
called_is c (Ok y) x (Err e) P p h = absurd h
called_is c (Err e) x a P p h = h

pub call_made : (c : Call) (f g : OwnFlight) (r : Result (calls.Answer c) Refusal) (x : Reading) (a : Said) → Made any_engine any_air f c r g → x ≡ reading_of (account g) → KeepsToTheBook any_engine any_air g x → (P : calls.Answer c → Answer → Type 0) → ((y : calls.Answer c) (z : Answer) → P y z → z ≡ accepted c y x) → MatchResult r (λ y. IsOkAnd a (P y)) (λ e. a ≡ Err e) → CallMade c f a g
call_made c f g r x a m e k P p h = record { result = r; made = m; said = rw e at (called_is c r x a P p h); book = rw e at k }
