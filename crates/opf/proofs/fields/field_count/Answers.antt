use Rattle.std.proofs.Common.{arith, rules}
use Rattle.opf.proofs.Runs.{runs_few}
use Rattle.opf.proofs.fields.field_count.Goals as goal

pub count-requires-clause-fits : goal.count-requires-clause-fits
count-requires-clause-fits c = let few = runs_few c.args.s.now in search rules

pub returns-clause-inside : goal.returns-clause-inside
returns-clause-inside c = omega (arith, runs_few c.args.s.now)
