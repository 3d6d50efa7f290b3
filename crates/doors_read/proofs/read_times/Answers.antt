use Rattle.std.proofs.Common.{◌≡◌, ℕ, ◌<◌, length, arith, rules, None}
use Rattle.doors_read.proofs.Laws.{Scanned, empty-line, begin, no_number, onward, no-space, last, again}
use Rattle.doors_read.proofs.read_times.Goals as goal
use Rattle.doors_read.proofs.read_times.Goals.{After-store}

-- a number is stored: where the line goes on
abbrev next : After-store → ℕ
next c = c.in_ok-x.next

read : (c : After-store) → Scanned c.args.l.now c.loop-x.at c.in_ok-x.x (next c)
read c = record { is = c.in_ok-x.ensures.is; inside = c.in_ok-x.ensures.within.0 }

-- the number does not end the line
short : (c : After-store) → (next c ≡ length c.args.l.now → ⊥) → next c < length c.args.l.now
short c h = omega (arith, (read c).inside, h)

pub returns-then-is_empty-clause-is : goal.returns-then-is_empty-clause-is
returns-then-is_empty-clause-is c = let e : length c.args.l.now ≡ 0 = search rules in empty-line _ _ e

pub loop-x-init : goal.loop-x-init
loop-x-init c = let e : length c.args.l.now ≡ 0 → ⊥ = search rules in begin _ _ e c.requires

pub number_at-requires : goal.number_at-requires
number_at-requires c = c.loop-x.invariant.inside

pub returns-in_err-x-clause-is : goal.returns-in_err-x-clause-is
returns-in_err-x-clause-is c = let e : c.from_residual.result ≡ None = search rules in rw e (no_number _ _ _ _ c.loop-x.invariant c.in_err-x.ensures.is)

pub store-requires : goal.store-requires
store-requires c = c.loop-x.invariant.size

pub overflow_add-n : goal.overflow_add-n
overflow_add-n c = let p = c.loop-x.invariant in omega (arith, p.few, p.inside)

pub returns-then-next-l-clause-is : goal.returns-then-next-l-clause-is
returns-then-next-l-clause-is c =
    let b = (goal.at.returns-then-next-l-clause-is c).After-store in
    last _ _ _ _ c.loop-x.invariant _ _ (read b) _ c.store.ensures c.if-next-l.true

pub bounds-l-next : goal.bounds-l-next
bounds-l-next c = short (goal.at.bounds-l-next c).After-store c.if-next-l.false

pub returns-then-l-next-ne32-clause-is : goal.returns-then-l-next-ne32-clause-is
returns-then-l-next-ne32-clause-is c =
    let b = (goal.at.returns-then-l-next-ne32-clause-is c).After-store in
    no-space _ _ _ _ c.loop-x.invariant _ _ (read b) (short b c.if-next-l.false) c.if-l-next-ne32.true

pub overflow_add-at : goal.overflow_add-at
overflow_add-at c = omega (arith, short (goal.at.overflow_add-at c).After-store c.if-next-l.false)

pub loop-x-smaller : goal.loop-x-smaller
loop-x-smaller c =
    let b = (goal.at.loop-x-smaller c).After-store in
    omega (arith, short b c.if-next-l.false, onward _ _ _ _ c.loop-x.invariant _ _ (read b))

pub loop-x-preserved : goal.loop-x-preserved
loop-x-preserved c =
    let b = (goal.at.loop-x-preserved c).After-store in
    again _ _ _ _ c.loop-x.invariant _ _ (read b) _ c.store.ensures (short b c.if-next-l.false) c.if-l-next-ne32.false
