use Rattle.sheet.proofs.Marks.{mark_is}
use Rattle.sheet.proofs.show.LegFiguresDisplay.fmt.Goals as goal

pub returns-clause-writes : goal.returns-clause-writes
returns-clause-writes g c = rw mark_is at (rw c.from-limited.ensures at c.write.ensures.writes)
