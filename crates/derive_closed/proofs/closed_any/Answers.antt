-- By the sort of R, which is that of V.
use mathlib.Core.Path.{sym, ◌∙◌}
use Rattle.derive_closed.proofs.Numbers.{alike-ref, alike-number}
use Rattle.derive_sub_sup.proofs.Ends.{derives}
use Rattle.derive_closed.proofs.closed_any.Goals as goal

pub names_ref-requires : goal.names_ref-requires
names_ref-requires c = c.requires.0.limits.types

pub closed-requires : goal.closed-requires
closed-requires c =
    let a = c.args in
    let e = sym c.names_ref.ensures ∙ c.if-names_ref.true in
    (c.requires.0, e, alike-ref a.c.types a.b.now a.r a.v c.requires.1 e)

pub returns-then-names_ref : goal.returns-then-names_ref
returns-then-names_ref c = derives c.args.c c.closed.ensures

pub closed_numbers-requires : goal.closed_numbers-requires
closed_numbers-requires c =
    let a = c.args in
    let w = alike-number a.c.types a.b.now a.r a.v c.requires.1 (sym c.names_ref.ensures ∙ c.if-names_ref.false) in
    (c.requires.0, w.0, w.1)

pub returns : goal.returns
returns c = derives c.args.c c.closed_numbers.ensures
