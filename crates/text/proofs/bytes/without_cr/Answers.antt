use Rattle.std.proofs.Common.{ap, ◌∙◌, Bor, List, ℕ}
use Rattle.text.proofs.Cuts.{stripped}
use Rattle.text.proofs.bytes.without_cr.Goals as goal

pub returns : goal.returns
returns c = ap (λ (x : Bor (List ℕ)). x.now) c.unwrap_or.ensures ∙ stripped c.args.line c.strip_suffix.result c.strip_suffix.ensures.cases
