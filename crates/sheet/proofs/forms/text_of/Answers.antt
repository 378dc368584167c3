use Rattle.std.proofs.Common.{◌≡◌, true, rules}
use Rattle.text.specs.Bytes.{every, printable}
use Rattle.sheet.proofs.Printable.{text_shown}
use Rattle.sheet.proofs.forms.text_of.Goals as goal

pub returns : goal.returns
returns c =
    let shown : every printable c.args.line.now ≡ true = search rules in
    rw c.ok.ensures.value (text_shown _ c.args.line.now c.from_utf8.result shown c.from_utf8.ensures.cases)
