-- The bytes are written row by row, up to the count or the array's end (Rows); what they then say is `places-written`.
use Rattle.state_bytes.proofs.Rows.{Rows}
use Rattle.state_bytes.proofs.Laws.{place_row}
use Rattle.state_bytes.specs.Flat.{place_size}
use Rattle.state_bytes.proofs.places_to.Given as goal

abbrev pub invariant-loop-p : goal.invariant-loop-p
invariant-loop-p l = Rows place_size (place_row l.ps) l.initial.b l.p l.b
