-- One law for each way in which it returns.
use mathlib.Core.Path.{◌≡◌, ap₂, ◌∙◌}
use Prim.Native.Nat.{ℕ}
use mathlib.Core.Bool.{◌&&◌}
use borrow.Author.Rules.{rules}
use Rattle.std.specs.Prelude.{Some, None}
use Rattle.spec_model.specs.Table.{permit}
use Rattle.spec_model.specs.Relations.{state_rule}
use Rattle.spec_model.specs.Check.{state_of}
use Rattle.table_record.specs.Store.{raw_in}
use Rattle.relation_found.specs.Found.{marks_in, queue_in}
use Rattle.relation_found.proofs.Steps.{method-broke, method-bare, method-args, method-answer}
use Rattle.relation_states.specs.Asked.{relation_of}
use Rattle.relation_found.proofs.find_method.Goals as goal

-- what the state rule says of the two methods, and whether both permit
both-states : {A : Type 0} {r : A} {a b x y : ℕ} (f : ℕ → ℕ → A) → r ≡ f a b → a ≡ x → b ≡ y → r ≡ f x y
both-states f e p q = e ∙ ap₂ f p q

pub state_rule-requires : goal.state_rule-requires
state_rule-requires c = c.requires.1

pub returns-then-not-state_rule : goal.returns-then-not-state_rule
returns-then-not-state_rule c =
    let a = c.args in
    let x = raw_in a.b.now a.a a.j in
    let y = raw_in a.b.now a.d a.j in
    let k = relation_of a.k in
    let fine = both-states (λ s t. state_rule k (state_of s) (state_of t)) c.state_rule.ensures c.method_state-x.ensures c.method_state-y.ensures in
    method-broke a.n k x y c.state_rule.result fine c.if-not-state_rule.true

pub returns-then-not-both_permit : goal.returns-then-not-both_permit
returns-then-not-both_permit c =
    let a = c.args in
    let x = raw_in a.b.now a.a a.j in
    let y = raw_in a.b.now a.d a.j in
    let k = relation_of a.k in
    let fine = both-states (λ s t. state_rule k (state_of s) (state_of t)) c.state_rule.ensures c.method_state-x.ensures c.method_state-y.ensures in
    let both = both-states (λ s t. permit (state_of s) && permit (state_of t)) c.both_permit.ensures c.method_state-x.ensures c.method_state-y.ensures in
    method-bare a.n k x y c.state_rule.result fine c.if-not-state_rule.false
    c.both_permit.result both (marks_in a.found.now) (queue_in a.found.now) a.tail c.requires.0 c.if-not-both_permit.true

pub find_arguments-requires : goal.find_arguments-requires
find_arguments-requires c = let p = c.requires in (p.0, p.2, p.3, p.4)

pub returns-in_err-t : goal.returns-in_err-t
returns-in_err-t c =
    let a = c.args in
    let x = raw_in a.b.now a.a a.j in
    let y = raw_in a.b.now a.d a.j in
    let k = relation_of a.k in
    let fine = both-states (λ s t. state_rule k (state_of s) (state_of t)) c.state_rule.ensures c.method_state-x.ensures c.method_state-y.ensures in
    let both = both-states (λ s t. permit (state_of s) && permit (state_of t)) c.both_permit.ensures c.method_state-x.ensures c.method_state-y.ensures in
    let e : c.from_residual.result ≡ None = search rules in
    let f : c.find_arguments.result ≡ None = search rules in
    rw e (method-args a.n k x y c.state_rule.result fine c.if-not-state_rule.false
    c.both_permit.result both c.if-not-both_permit.false
    (rw f at c.find_arguments.ensures))

pub find_answer-requires : goal.find_answer-requires
find_answer-requires c = let f : c.find_arguments.result ≡ Some c.in_ok-t.t = search rules in (rw f at c.find_arguments.ensures).listed

pub returns : goal.returns
returns c =
    let a = c.args in
    let x = raw_in a.b.now a.a a.j in
    let y = raw_in a.b.now a.d a.j in
    let k = relation_of a.k in
    let fine = both-states (λ s t. state_rule k (state_of s) (state_of t)) c.state_rule.ensures c.method_state-x.ensures c.method_state-y.ensures in
    let both = both-states (λ s t. permit (state_of s) && permit (state_of t)) c.both_permit.ensures c.method_state-x.ensures c.method_state-y.ensures in
    let args = c.find_arguments in
    let answer = c.find_answer in
    let f : c.find_arguments.result ≡ Some c.in_ok-t.t = search rules in
    method-answer a.n k x y c.state_rule.result fine c.if-not-state_rule.false
    c.both_permit.result both c.if-not-both_permit.false
    (marks_in a.found.now) (queue_in a.found.now) a.tail
    (marks_in args.new.found) (queue_in args.new.found) c.in_ok-t.t (rw f at args.ensures) (marks_in answer.new.found) (queue_in answer.new.found) answer.result
    c.method_answer.result c.method_answer-2.result c.method_answer.ensures c.method_answer-2.ensures answer.ensures
