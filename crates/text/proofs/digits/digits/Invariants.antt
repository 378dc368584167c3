use Rattle.std.proofs.Common.{◌≡◌, ◌^◌, ◌<◌, drop}
use Rattle.text.specs.Digits.{digits_of}
use Rattle.text.proofs.digits.digits.Given as goal

abbrev pub invariant-loop-b : goal.invariant-loop-b
invariant-loop-b l = (digits_of l.n (drop l.b-index l.s) ≡ digits_of 0 l.s) × (l.n < 10 ^ l.b-index)
