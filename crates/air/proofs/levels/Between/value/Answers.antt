use Rattle.std.proofs.Common.{arith}
use Rattle.std.proofs.lemmas.Int.{ints}
use Rattle.air.specs.BetweenLemmas.{between_small}
use Rattle.air.proofs.levels.Between.value.Goals as goal

pub overflow_add-result : goal.overflow_add-result
overflow_add-result c =
    let s = c.args.self in
    let b = between_small s.x0 s.x1 s.h0 s.h1 s.h s.lower s.upper s.from s.to in
    omega (arith, ints)

pub returns : goal.returns
returns c =
    let s = c.args.self in
    let b = between_small s.x0 s.x1 s.h0 s.h1 s.h s.lower s.upper s.from s.to in
    omega (arith, ints)
