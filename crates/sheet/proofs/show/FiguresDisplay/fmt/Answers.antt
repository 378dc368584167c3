use Rattle.sheet.proofs.Marks.{mark_is}
use Rattle.sheet.proofs.show.FiguresDisplay.fmt.Goals as goal

pub returns-clause-writes : goal.returns-clause-writes
returns-clause-writes g c = rw mark_is at (rw c.from-minimum.ensures at c.write.ensures.writes)
