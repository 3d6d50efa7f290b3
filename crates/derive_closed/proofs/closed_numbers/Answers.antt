-- What the search found, whether there is room, and the new record.
use Rattle.derive_closed.proofs.Numbers.{numbers-known, numbers-full, numbers-new}
use Rattle.derive_closed.proofs.closed_numbers.Goals as goal

pub returns-in-Some : goal.returns-in-Some
returns-in-Some c = numbers-known c.requires.0 c.in-Some.ensures.is c.in-Some.ensures.below

pub returns-then-n-ge-TYPES : goal.returns-then-n-ge-TYPES
returns-then-n-ge-TYPES c = numbers-full c.requires.0 c.in_default.ensures.is c.if-n-ge-TYPES.true

pub returns : goal.returns
returns c = numbers-new c.requires.0 c.in_default.ensures.is c.if-n-ge-TYPES.false c.requires.1 c.requires.2 _ c.get_head-h.ensures _ c.number_type.ensures _ c.put_type.ensures
