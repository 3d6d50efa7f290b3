-- Rests on `derives`: what the recursion gives, as callers use it.
use Rattle.derive_sub_sup.proofs.Ends.{derives}
use Rattle.derive_sub_sup.proofs.sub_type.Goals as goal

pub returns : goal.returns
returns c = derives c.args.c c.sub.ensures
