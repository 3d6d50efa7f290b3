-- What marks held against arrivals come to (E4), in the words of crate `spec_doors`.
use Rattle.std.specs.Prelude.{Result}
use Rattle.spec_model.specs.Basics.{Res}
use Rattle.spec_doors.specs.Held.{Counts}
use Rattle.base_numbers.specs.Refusal.{res_by}
use Rattle.base_numbers.specs.declared.refusal.Refusal.{Refusal}
use Rattle.doors_hold.specs.declared.Counts.{Counts as Countsʰ}

abbrev pub Held : Type 0
Held = Result Countsʰ Refusal

abbrev pub held_of : Held → Res Counts
held_of = res_by λ c. record { pairs = c.pairs; marks = c.marks; arrivals = c.arrivals }
