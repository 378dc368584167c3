-- A number field by its form and its value.
use Rattle.std.proofs.Common.{◌≡◌, ℕ, is_some, Some, None, Err, Option, Result, unwrap_or, refl, ap, arith}
use Rattle.std.specs.Option.{ok_or}
use Rattle.refusal.specs.declared.fault.Fault.{Fault}
use Rattle.refusal.specs.declared.fault.Fault.TheVariants as fault
use Rattle.opf.specs.declared.number.Number.{Number}
use Rattle.opf.specs.Faults.{unless, Judges}
use Rattle.opf.specs.DataLines.{number_fault, bound}

by_value : {X : Type 0} (v : Option X) (f : Fault) (d : X) → Judges (ok_or v f) (unless (is_some v) f) (unwrap_or v d)
by_value None f d = refl
by_value (Some y) f d = (refl, refl)

module _ {X : Type 0} (n k : ℕ) (value : Number → Option X) (d : X) (o : Option Number) where
  pub without_form : (p : Option Number) (f : Fault) → Err f ≡ ok_or p (fault.NumberForm n k) → p ≡ o → number_fault n k o value ≡ Some f
  without_form None f e h = let f_is : fault.NumberForm n k ≡ f = cc in rw (← h) (ap Some f_is)
  without_form (Some x) f e h = absurd (let z : ◌≡◌ {A = ℕ} 0 1 = cc in omega arith)

  pub with_form : (x : Number) (v : Option X) (r : Result X Fault) → Some x ≡ o → v ≡ value x → r ≡ ok_or v (fault.Value n k) → Judges r (number_fault n k o value) (unwrap_or (bound o value) d)
  with_form x v r e h g = rw (g, h, ← e) (by_value (value x) (fault.Value n k) d)
