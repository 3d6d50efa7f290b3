use Prim.Native.Nat.{◌+◌}
use native.Mathlib.Omega.{arith}
use Rattle.text_cursor.proofs.Laws.{clear_none, clear-more}
use Rattle.text_cursor.proofs.line_end.Goals as goal

pub loop-e-init : goal.loop-e-init
loop-e-init c = (clear_none c.args.s.now c.args.at, omega arith)

pub returns-then-s-e-eq10 : goal.returns-then-s-e-eq10
returns-then-s-e-eq10 c = let l = c.loop-e in
    let test = c.loop-e-test.true in let room = l.invariant.1 in
    record { clear = l.invariant.0; found = λ _. c.if-s-e-eq10.true }

pub returns-then-s-e-eq10-2 : goal.returns-then-s-e-eq10-2
returns-then-s-e-eq10-2 c = let l = c.loop-e in
    let test = c.loop-e-test.true in let room = l.invariant.1 in
    let c1 = clear-more _ _ l.e (l.e + 1) (omega arith) (omega (arith, test, room)) c.if-s-e-eq10.false l.invariant.0 in
    record { clear = c1; found = λ _. c.if-s-e-eq10-2.true }

pub returns-then-s-e-eq10-3 : goal.returns-then-s-e-eq10-3
returns-then-s-e-eq10-3 c = let l = c.loop-e in
    let test = c.loop-e-test.true in let room = l.invariant.1 in
    let c1 = clear-more _ _ l.e (l.e + 1) (omega arith) (omega (arith, test, room)) c.if-s-e-eq10.false l.invariant.0 in
    let c2 = clear-more _ _ (l.e + 1) (l.e + 2) (omega arith) (omega (arith, test, room)) c.if-s-e-eq10-2.false c1 in
    record { clear = c2; found = λ _. c.if-s-e-eq10-3.true }

pub returns-then-s-e-eq10-4 : goal.returns-then-s-e-eq10-4
returns-then-s-e-eq10-4 c = let l = c.loop-e in
    let test = c.loop-e-test.true in let room = l.invariant.1 in
    let c1 = clear-more _ _ l.e (l.e + 1) (omega arith) (omega (arith, test, room)) c.if-s-e-eq10.false l.invariant.0 in
    let c2 = clear-more _ _ (l.e + 1) (l.e + 2) (omega arith) (omega (arith, test, room)) c.if-s-e-eq10-2.false c1 in
    let c3 = clear-more _ _ (l.e + 2) (l.e + 3) (omega arith) (omega (arith, test, room)) c.if-s-e-eq10-3.false c2 in
    record { clear = c3; found = λ _. c.if-s-e-eq10-4.true }

pub loop-e-preserved : goal.loop-e-preserved
loop-e-preserved c = let l = c.loop-e in
    let test = c.loop-e-test.true in let room = l.invariant.1 in
    let c1 = clear-more _ _ l.e (l.e + 1) (omega arith) (omega (arith, test, room)) c.if-s-e-eq10.false l.invariant.0 in
    let c2 = clear-more _ _ (l.e + 1) (l.e + 2) (omega arith) (omega (arith, test, room)) c.if-s-e-eq10-2.false c1 in
    let c3 = clear-more _ _ (l.e + 2) (l.e + 3) (omega arith) (omega (arith, test, room)) c.if-s-e-eq10-3.false c2 in
    let c4 = clear-more _ _ (l.e + 3) (l.e + 4) (omega arith) (omega (arith, test, room)) c.if-s-e-eq10-4.false c3 in
    (c4, room)

pub end_from-requires : goal.end_from-requires
end_from-requires c = c.loop-e.invariant.0

pub returns : goal.returns
returns c = c.end_from.ensures
