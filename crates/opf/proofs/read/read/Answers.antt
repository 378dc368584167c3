use Rattle.std.proofs.Common.{[], sym, ◌∙◌, subst, arith}
use Rattle.opf.specs.Text.{lines}
use Rattle.opf.specs.Files.{lines_fault, data_lines, draft_of}
use Rattle.opf.specs.Records.{Ranged}
use Rattle.opf.proofs.Complete.{all_ranged, all_printed, judged_well, whole_text, read_well}
use Rattle.opf.proofs.read.read.Goals as goal

pub finished-requires : goal.finished-requires
finished-requires c =
    let ls = lines c.args.text.now in
    let p = judged_well (lines_fault 1 [] ls) c.in_ok-draft.draft (draft_of (data_lines ls)) c.in_ok-draft.ensures in
    subst Ranged (sym p.1) (all_ranged (whole_text ls p.0))

pub returns : goal.returns
returns c =
    let ls = lines c.args.text.now in
    let p = judged_well (lines_fault 1 [] ls) c.in_ok-draft.draft (draft_of (data_lines ls)) c.in_ok-draft.ensures in
    let same = c.finished.ensures ∙ p.1 in
    record {
      values = read_well c.args.text.now _ (omega arith) p.0 same;
      printed = all_printed (whole_text ls p.0) c.finished.result same;
    }
