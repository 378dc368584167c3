use Rattle.std.proofs.Common.{rules, arith}
use Rattle.std.proofs.lemmas.Str.Pattern.{strip_prefix_char}
use Rattle.sheet.proofs.Named.{no_minus}
use Rattle.sheet.proofs.numbers.deviation.Goals as goal

pub returns-in_err-number-in-None : goal.returns-in_err-number-in-None
returns-in_err-number-in-None c =
    let s = c.args.text.now in
    let unsigned = rw c.in-None.is at (strip_prefix_char 45 s c.strip_prefix.result c.strip_prefix.ensures.cases (omega arith)) in
    rw (no_minus s unsigned) (search rules)
