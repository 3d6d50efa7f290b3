use Rattle.std.proofs.Common.{◌≡◌, ◌<◌, ℕ, ap, sym, subst, ◌∙◌, arith}
use Rattle.spec_model.specs.Table.{max_subjects}
use Rattle.state_record.specs.declared.Call.{Call}
use Rattle.state_record.specs.Counted.{Calls}
use Rattle.state_record.specs.View.{calls_in, blank_call}
use Rattle.state_record.proofs.Kept.{called, calls-from}
use lib.ListN.{get_or}
use Rattle.state_check.specs.Parts.{CallersBelow}
use Rattle.state_check.proofs.Tally.{Tallied, tally-none, tally-more, caller-below, callers-over, callers-few}
use Rattle.state_check.proofs.callers_fit.Goals as goal

-- the caller of call j, read as k
caller-is : (js : Calls) (j k : ℕ) (x : Call) → k ≡ x.caller → x ≡ get_or js.list j blank_call → k ≡ (called js j).caller
caller-is js j k x e f = e ∙ ap (λ (y : Call). y.caller) f

caller-low : (js : Calls) → CallersBelow max_subjects (calls_in js) → (j : ℕ) → j < js.count → (k : ℕ) → k ≡ (called js j).caller → k < max_subjects
caller-low js h j low k e = omega (arith, e, caller-below (called js) js.count (calls_in js) (calls-from js) max_subjects h j low)

pub loop-j-init : goal.loop-j-init
loop-j-init g c = tally-none _

pub bounds-made-k : goal.bounds-made-k
bounds-made-k g c = let js = g.H.Held.calls c.args.h.now in
    caller-low js c.requires.1 c.loop-j.j (omega (arith, c.loop-j-test.true, c.call_count-j-end.ensures)) _ (caller-is js c.loop-j.j _ _ c.from-k.ensures c.call.ensures)

pub returns-then-made-k-ge-CALLS_EACH : goal.returns-then-made-k-ge-CALLS_EACH
returns-then-made-k-ge-CALLS_EACH g c = let js = g.H.Held.calls c.args.h.now in let l = c.loop-j in λ subjects few known.
    sym (callers-over (called js) js.count (calls_in js) (calls-from js) l.j l.made l.invariant (omega (arith, c.loop-j-test.true, c.call_count-j-end.ensures)) _
    (caller-is js l.j _ _ c.from-k.ensures c.call.ensures) c.if-made-k-ge-CALLS_EACH.true subjects few known)

pub bounds-made-k-in-loop-j : goal.bounds-made-k-in-loop-j
bounds-made-k-in-loop-j g c = let js = g.H.Held.calls c.args.h.now in
    caller-low js c.requires.1 c.loop-j.j (omega (arith, c.loop-j-test.true, c.call_count-j-end.ensures)) _ (caller-is js c.loop-j.j _ _ c.from-k.ensures c.call.ensures)

pub bounds-made-k-in-loop-j-2 : goal.bounds-made-k-in-loop-j-2
bounds-made-k-in-loop-j-2 g c = let js = g.H.Held.calls c.args.h.now in
    caller-low js c.requires.1 c.loop-j.j (omega (arith, c.loop-j-test.true, c.call_count-j-end.ensures)) _ (caller-is js c.loop-j.j _ _ c.from-k.ensures c.call.ensures)

pub loop-j-preserved : goal.loop-j-preserved
loop-j-preserved g c = let js = g.H.Held.calls c.args.h.now in let l = c.loop-j in
    let is = caller-is js l.j _ _ c.from-k.ensures c.call.ensures in
    tally-more (called js) l.j l.made l.invariant _ is
    (caller-low js c.requires.1 l.j (omega (arith, c.loop-j-test.true, c.call_count-j-end.ensures)) _ is) c.if-made-k-ge-CALLS_EACH.false

pub returns : goal.returns
returns g c = let js = g.H.Held.calls c.args.h.now in let l = c.loop-j in
    let all : l.j ≡ js.count = omega (arith, l.auto.j-end, c.loop-j-test.false, c.call_count-j-end.ensures) in
    λ subjects few known. sym (callers-few (called js) js.count (calls_in js) (calls-from js) l.made (subst (λ (i : ℕ). Tallied (called js) i l.made) all l.invariant) subjects few)
