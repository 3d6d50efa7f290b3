-- What fits is in order, so that times and tolerance can be added, and has no more pairs than marks or arrivals.
use Rattle.std.proofs.Common.{arith, sym}
use Rattle.spec_doors.proofs.Rising.{marks-fit, arrivals-fit, fit-rising}
use Rattle.spec_doors.proofs.Pass.{few-pairs}
use Rattle.doors_hold.proofs.Laws.{fit-tolerance, unfits, all-counted}
use Rattle.doors_hold.proofs.hold.Goals as goal

pub returns-then-not-all_fit : goal.returns-then-not-all_fit
returns-then-not-all_fit c = let a = c.args in unfits a.marks.now a.arrivals.now a.within (sym c.if-not-all_fit.ensures)

pub count_pairs-pairs-requires : goal.count_pairs-pairs-requires
count_pairs-pairs-requires c =
    let a = c.args in
    let f = sym c.if-not-all_fit.ensures in (
      fit-rising a.marks.now (marks-fit a.marks.now a.arrivals.now a.within f),
      fit-rising a.arrivals.now (arrivals-fit a.marks.now a.arrivals.now a.within f),
      fit-tolerance a.marks.now a.arrivals.now a.within f,
    )

pub overflow_sub-result : goal.overflow_sub-result
overflow_sub-result c = let a = c.args in omega (arith, c.count_pairs-pairs.ensures, (few-pairs a.within a.marks.now a.arrivals.now).0)

pub overflow_sub-result-2 : goal.overflow_sub-result-2
overflow_sub-result-2 c = let a = c.args in omega (arith, c.count_pairs-pairs.ensures, (few-pairs a.within a.marks.now a.arrivals.now).1)

pub returns : goal.returns
returns c = let a = c.args in all-counted a.marks.now a.arrivals.now a.within (sym c.if-not-all_fit.ensures) _ c.count_pairs-pairs.ensures
