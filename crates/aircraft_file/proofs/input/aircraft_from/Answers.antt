use Rattle.std.proofs.Common.{arith}
use Rattle.aircraft_file.proofs.Cut.{gives_known}
use Rattle.aircraft_file.proofs.input.aircraft_from.Goals as goal

pub returns : goal.returns
returns g c =
    let read = rw c.take.ensures.inner at c.in_ok-read_to_end.ensures.bytes in
    gives_known c.take.result.limit _ _ _ _ _ (omega arith) c.new-bytes.ensures.items read c.as_slice.ensures.value (record { values = c.read.ensures.values; printed = c.read.ensures.printed })
