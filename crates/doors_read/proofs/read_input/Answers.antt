-- Behind each line that is read, the whole input is what comes of the lines that are left; a wrong one, or anything behind the third, is refused.
use Rattle.std.proofs.Common.{◌≡◌, List, ℕ, drop, None, Ok, rules}
use Rattle.spec_sheet.specs.Lines.{Row, split, Reading}
use Rattle.spec_doors.specs.Input.{Input, input_lines}
use Rattle.text_cursor.specs.declared.Cursor.{Cursor}
use Rattle.doors_read.specs.View.{Gives}
use Rattle.doors_read.proofs.Input.{behind_arrivals, behind_marks, behind_tolerance, no-tolerance, tolerance, no-times, times, more_left, all_read}
use Rattle.doors_read.proofs.read_input.Goals as goal
use Rattle.doors_read.proofs.read_input.Goals.{In_ok-w, In_ok-m, In_ok-a}

-- what the bytes that are handed in are read as, and their rows from a cursor on
abbrev reading : List ℕ → Reading Input
reading s = input_lines 0 (split s)

abbrev rows : List ℕ → Cursor → List Row
rows s d = split (drop d.at s)

-- behind the tolerance
tolerance-read : (c : In_ok-w) → reading c.args.s.now ≡ behind_tolerance c.in_ok-w.w c.in_ok-w.c.at (rows c.args.s.now c.in_ok-w.c)
tolerance-read c =
    let n = c.next_number-g in
    let o = c.start in
    let e : n.result ≡ Ok (c.in_ok-w.w, c.in_ok-w.c) = search rules in
    tolerance c.args.s.now o.result n.result o.ensures n.ensures.is _ e

-- behind the marks
marks-read : (c : In_ok-m)
    → reading c.args.s.now ≡ behind_tolerance c.in_ok-w.w c.in_ok-w.c.at (rows c.args.s.now c.in_ok-w.c)
    → Gives (reading c.args.s.now) (λ ms. behind_marks c.in_ok-w.w ms c.in_ok-m.d.at (rows c.args.s.now c.in_ok-m.d)) c.next_times.new.items c.in_ok-m.m
marks-read c h =
    let t = c.next_times in
    times (reading c.args.s.now) c.args.s.now c.in_ok-w.c.at (behind_marks c.in_ok-w.w) h _ t.result t.ensures.is _ c.in_ok-m.was

-- behind the arrivals
arrivals-read : (c : In_ok-a) (ms : List ℕ)
    → reading c.args.s.now ≡ behind_marks c.in_ok-w.w ms c.in_ok-m.d.at (rows c.args.s.now c.in_ok-m.d)
    → Gives (reading c.args.s.now) (λ xs. behind_arrivals c.in_ok-w.w ms xs c.in_ok-a.e.at (rows c.args.s.now c.in_ok-a.e)) c.next_times-2.new.items c.in_ok-a.a
arrivals-read c ms h =
    let t = c.next_times-2 in
    times (reading c.args.s.now) c.args.s.now c.in_ok-m.d.at (behind_arrivals c.in_ok-w.w ms) h _ t.result t.ensures.is _ c.in_ok-a.was

pub returns-in_err-w-clause-is : goal.returns-in_err-w-clause-is
returns-in_err-w-clause-is c =
    let n = c.next_number-g in
    let o = c.start in
    let e : c.from_residual.result ≡ None = search rules in
    rw e (no-tolerance c.args.s.now o.result n.result o.ensures n.ensures.is c.in_err-w.ensures.value)

pub returns-in_err-m-clause-is : goal.returns-in_err-m-clause-is
returns-in_err-m-clause-is c =
    let t = c.next_times in
    let p = tolerance-read (goal.at.returns-in_err-m-clause-is c).In_ok-w in
    let e : c.from_residual-in_err-m.result ≡ None = search rules in
    rw e (no-times (reading c.args.s.now) c.args.s.now c.in_ok-w.c.at (behind_marks c.in_ok-w.w) p _ t.result t.ensures.is c.in_err-m.was)

pub returns-in_err-a-clause-is : goal.returns-in_err-a-clause-is
returns-in_err-a-clause-is c =
    let t = c.next_times-2 in
    let b = goal.at.returns-in_err-a-clause-is c in
    let m = marks-read b.In_ok-m (tolerance-read b.In_ok-w) in
    let e : c.from_residual-in_err-a.result ≡ None = search rules in
    rw e (no-times (reading c.args.s.now) c.args.s.now c.in_ok-m.d.at (behind_arrivals c.in_ok-w.w m.times) m.is _ t.result t.ensures.is c.in_err-a.was)

pub returns-then-e-s-clause-is : goal.returns-then-e-s-clause-is
returns-then-e-s-clause-is c =
    let b = goal.at.returns-then-e-s-clause-is c in
    let m = marks-read b.In_ok-m (tolerance-read b.In_ok-w) in
    let a = arrivals-read b.In_ok-a m.times m.is in
    more_left (reading c.args.s.now) c.args.s.now c.in_ok-w.w _ _ _ m.stored _ _ c.in_ok-a.e.at a c.if-e-s.true

pub returns-clause-is : goal.returns-clause-is
returns-clause-is c =
    let b = goal.at.returns-clause-is c in
    let m = marks-read b.In_ok-m (tolerance-read b.In_ok-w) in
    let a = arrivals-read b.In_ok-a m.times m.is in
    all_read (reading c.args.s.now) c.args.s.now c.in_ok-w.w _ _ _ m.stored _ _ c.in_ok-a.e.at a c.if-e-s.false
