use mathlib.Core.Path.{◌≡◌, refl, sym, ap, ◌∙◌}
use Prim.Native.Nat.{ℕ}
use native.Mathlib.Omega.{arith}
use lib.ListN.{length, take}
use borrow.Author.Rules.{rules}
use Rattle.std.specs.Prelude.{Some, None}
use Rattle.spec_model.specs.Check.{RawMethod}
use Rattle.table_record.specs.Store.{raw_in}
use Rattle.table_record.proofs.Laws.{slots_length}
use Rattle.relation_found.specs.Found.{marks_in, queue_in}
use Rattle.relation_found.proofs.Steps.{arguments-differ, arguments-start, arguments-broke, arguments-more, arguments-end}
use Rattle.relation_found.proofs.find_arguments.Goals as goal
use Rattle.relation_found.proofs.find_arguments.Goals.{else-count-other-via-then-count-other+else-used-slots_used, else-count-other-via-else-count-other}

-- a count of slots that a method's count takes as many of
used-slots : (m : RawMethod) (n u : ℕ) → n ≡ m.count → take n m.args ≡ take u m.args → take m.count m.args ≡ take u m.args
used-slots m n u e t = ap (λ (k : ℕ). take k m.args) (sym e) ∙ t

pub returns-then-used-slots_used : goal.returns-then-used-slots_used
returns-then-used-slots_used c =
    let a = c.args in
    let x = raw_in a.b.now a.a a.j in
    let y = raw_in a.b.now a.d a.j in
    let left-slots = slots_length a.b.now a.a a.j c.requires.1 c.requires.3 in
    let right-slots = slots_length a.b.now a.d a.j c.requires.2 c.requires.3 in
    let used = c.slots_used-used in
    let left-used = used-slots x c.method_count-count.result used.result c.method_count-count.ensures (used.ensures.1 x.args left-slots) in
    let other = c.slots_used in
    arguments-differ a.n x.args y.args left-slots right-slots x.count y.count used.result used.ensures.0 left-used
    other.result other.ensures.0 (used-slots y c.method_count-other.result other.result c.method_count-other.ensures (other.ensures.1 y.args right-slots)) c.if-used-slots_used.true

pub loop-i-init : goal.loop-i-init
loop-i-init c =
    let a = c.args in
    (arguments-start a.n (raw_in a.b.now a.a a.j).args (raw_in a.b.now a.d a.j).args (marks_in a.found.now) (queue_in a.found.now) a.tail c.requires.0, refl)

pub find_pair-requires : goal.find_pair-requires
find_pair-requires c = c.loop-i.invariant.0.listed

pub returns-in_err-t : goal.returns-in_err-t
returns-in_err-t c =
    let a = c.args in
    let x = raw_in a.b.now a.a a.j in
    let y = raw_in a.b.now a.d a.j in
    let left-slots = slots_length a.b.now a.a a.j c.requires.1 c.requires.3 in
    let right-slots = slots_length a.b.now a.d a.j c.requires.2 c.requires.3 in
    let used = c.slots_used-used in
    let left-used = used-slots x c.method_count-count.result used.result c.method_count-count.ensures (used.ensures.1 x.args left-slots) in
    let right-used : take y.count y.args ≡ take used.result y.args = elim c.else-count-other.branch as (λ _. take y.count y.args ≡ take used.result y.args) [
      | else-count-other-via-then-count-other+else-used-slots_used w ↦ used-slots y c.method_count-other.result used.result c.method_count-other.ensures
          (w.slots_used.ensures.1 y.args right-slots ∙ ap (λ (m : ℕ). take m y.args) (sym w.if-used-slots_used.false))
      | else-count-other-via-else-count-other w ↦ used-slots y c.method_count-other.result used.result c.method_count-other.ensures
          (ap (λ (m : ℕ). take m y.args) (sym w.if-count-other.false) ∙ used.ensures.1 y.args right-slots)
    ] in
    let e : c.from_residual.result ≡ None = search rules in
    let f : c.find_pair.result ≡ None = search rules in
    rw e (arguments-broke a.n x.args y.args left-slots right-slots x.count y.count used.result
    used.ensures.0 left-used right-used c.loop-i.i
    (omega arith) c.from-x.result c.from-y.result
    (c.from-x.ensures ∙ c.method_argument.ensures) (c.from-y.ensures ∙ c.method_argument-in-loop-i.ensures)
    (rw f at c.find_pair.ensures))

pub loop-i-preserved : goal.loop-i-preserved
loop-i-preserved c =
    let a = c.args in
    let x = raw_in a.b.now a.a a.j in
    let y = raw_in a.b.now a.d a.j in
    let left-slots = slots_length a.b.now a.a a.j c.requires.1 c.requires.3 in
    let right-slots = slots_length a.b.now a.d a.j c.requires.2 c.requires.3 in
    let used = c.slots_used-used in
    let left-used = used-slots x c.method_count-count.result used.result c.method_count-count.ensures (used.ensures.1 x.args left-slots) in
    let right-used : take y.count y.args ≡ take used.result y.args = elim c.else-count-other.branch as (λ _. take y.count y.args ≡ take used.result y.args) [
      | else-count-other-via-then-count-other+else-used-slots_used w ↦ used-slots y c.method_count-other.result used.result c.method_count-other.ensures
          (w.slots_used.ensures.1 y.args right-slots ∙ ap (λ (m : ℕ). take m y.args) (sym w.if-used-slots_used.false))
      | else-count-other-via-else-count-other w ↦ used-slots y c.method_count-other.result used.result c.method_count-other.ensures
          (ap (λ (m : ℕ). take m y.args) (sym w.if-count-other.false) ∙ used.ensures.1 y.args right-slots)
    ] in
    let loop = c.loop-i in
    let find-pair = c.find_pair in
    let f : find-pair.result ≡ Some c.in_ok-t.t = search rules in
    let e : length find-pair.new.found ≡ length loop.found = search rules in (
      arguments-more a.n x.args y.args left-slots right-slots x.count y.count used.result
          used.ensures.0 left-used right-used
          (marks_in a.found.now) (queue_in a.found.now) a.tail loop.i (marks_in loop.found) (queue_in loop.found) loop.t loop.invariant.0
          (omega arith) c.from-x.result c.from-y.result
          (c.from-x.ensures ∙ c.method_argument.ensures) (c.from-y.ensures ∙ c.method_argument-in-loop-i.ensures)
          (marks_in find-pair.new.found) (queue_in find-pair.new.found) c.in_ok-t.t (rw f at find-pair.ensures),
      e ∙ loop.invariant.1,
    )

pub returns : goal.returns
returns c =
    let a = c.args in
    let x = raw_in a.b.now a.a a.j in
    let y = raw_in a.b.now a.d a.j in
    let left-slots = slots_length a.b.now a.a a.j c.requires.1 c.requires.3 in
    let right-slots = slots_length a.b.now a.d a.j c.requires.2 c.requires.3 in
    let used = c.slots_used-used in
    let left-used = used-slots x c.method_count-count.result used.result c.method_count-count.ensures (used.ensures.1 x.args left-slots) in
    let right-used : take y.count y.args ≡ take used.result y.args = elim c.else-count-other.branch as (λ _. take y.count y.args ≡ take used.result y.args) [
      | else-count-other-via-then-count-other+else-used-slots_used w ↦ used-slots y c.method_count-other.result used.result c.method_count-other.ensures
          (w.slots_used.ensures.1 y.args right-slots ∙ ap (λ (m : ℕ). take m y.args) (sym w.if-used-slots_used.false))
      | else-count-other-via-else-count-other w ↦ used-slots y c.method_count-other.result used.result c.method_count-other.ensures
          (ap (λ (m : ℕ). take m y.args) (sym w.if-count-other.false) ∙ used.ensures.1 y.args right-slots)
    ] in
    let loop = c.loop-i in
    arguments-end a.n x.args y.args left-slots right-slots x.count y.count used.result
    used.ensures.0 left-used right-used
    (marks_in a.found.now) (queue_in a.found.now) a.tail loop.i (marks_in loop.found) (queue_in loop.found) loop.t loop.invariant.0
    (omega arith) (omega arith)
