use Rattle.std.proofs.Common.{◌∙◌, rules}
use Rattle.std.proofs.lemmas.List.{take_rest}
use Rattle.opf.specs.Numbers.{number_of}
use Rattle.opf.proofs.Forms.{no_minus, empty_start}
use Rattle.opf.proofs.number.Number.read.Goals as goal
use Rattle.opf.proofs.number.Number.read.Goals.{in_default-via-then-field-lt1, in_default-via-else-field-lt1+in_default-1}

pub returns-in-45 : goal.returns-in-45
unfolding number_of
returns-in-45 c = search (rules, take_rest c.args.field.now 1)

pub returns-in_default : goal.returns-in_default
returns-in_default c =
    c.unsigned-in_default.ensures
    ∙ no_minus c.args.field.now
    (elim c.in_default.branch [ in_default-via-then-field-lt1 w ↦ search (rules, empty_start) | in_default-via-else-field-lt1+in_default-1 w ↦ search rules ])
