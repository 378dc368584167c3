use Rattle.std.proofs.Common.{◌∙◌, rules, tests}
use Rattle.std.proofs.lemmas.Iterator.{YieldsList-from_slice}
use Rattle.std.proofs.lemmas.Iterator.Search.{all_from_yields_List}
use Rattle.text.proofs.Every.{all_every}
use Rattle.opf.proofs.LineEnds.{line_end, blank_is}
use Rattle.opf.proofs.file.only_line_ends.Goals as goal

pub returns : goal.returns
returns c =
    let s = c.args.rest.now in
    all_from_yields_List line_end _ _ _ c.all.ensures.ran (YieldsList-from_slice s cc) (λ x b q k. search (rules, tests)) ∙ all_every line_end s ∙ blank_is s
