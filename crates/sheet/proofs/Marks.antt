-- A mark is printed as the number of its truth.
use Rattle.std.proofs.Common.{◌≡◌, Bool, true, false, arith}
use Rattle.std.specs.Prelude.{decimal}
use Rattle.std.proofs.lemmas.Fmt.{decimal_digit}
use mir.Val.{bool_byte}
use Rattle.sheet.specs.Texts.{mark_text}

pub mark_is : (b : Bool) → decimal (bool_byte b) ≡ mark_text b
mark_is true = decimal_digit 1 (omega arith)
mark_is false = decimal_digit 0 (omega arith)
