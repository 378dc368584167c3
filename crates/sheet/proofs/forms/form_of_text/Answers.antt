use Rattle.std.proofs.Common.{◌≡◌, sym, length, arith}
use Rattle.std.specs.List.{prefix_len}
use Rattle.sheet.specs.Words.{no_space}
use Rattle.sheet.proofs.Named.{nothing_named}
use Rattle.sheet.proofs.forms.form_of_text.Goals as goal

pub returns-in_default : goal.returns-in_default
returns-in_default c =
    let whole : prefix_len no_space c.args.text.now ≡ length c.args.text.now = c.in-None.ensures.byte (omega arith) (λ w o f. f) in
    sym (nothing_named c.args.text.now whole c.in_default.not-touchdown c.in_default.not-standard)
