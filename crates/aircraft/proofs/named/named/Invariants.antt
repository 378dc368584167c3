use Rattle.std.proofs.Common.{◌≡◌, drop}
use Rattle.aircraft.specs.Words.{first_named}
use Rattle.aircraft.proofs.named.named.Given as goal

abbrev pub invariant-loop-kind : goal.invariant-loop-kind
invariant-loop-kind g l = first_named g.K.Worded.own_word (drop l.kind-index l.kinds) l.word ≡ first_named g.K.Worded.own_word l.kinds l.word
