use mathlib.Core.Path.{sym, ap, ◌∙◌}
use mathlib.Core.List.{List}
use Prim.Native.Nat.{ℕ}
use Rattle.std.specs.Prelude.{Option, Some}
use lib.IntN.{ℤ, pos}
use lib.ListN.{get_or}
use mir.Facts.{to_z-of_z}
use mir.Syntax.{w64}
use mir.Val.{to_z, of_z}
use borrow.Author.Rules.{rules}
use Rattle.table_record.specs.Store.{table_in}
use Rattle.table_record.proofs.Tables.{ref-table}
use Rattle.state_offers.specs.Steps.{code_of}
use Rattle.state_offers.proofs.Laws.{found, rest-refused, rest-last, rest-silent, rest-next, rest-ends}
use Rattle.state_offers.proofs.type_permits.Goals as goal

-- the number read is kept as 64 bits, from which `to_z-of_z` reads it back
abbrev read : List ℤ → ℕ → ℤ
read w i = to_z w64 (of_z w64 (get_or w i (pos 0)))

pub returns-in_default : goal.returns-in_default
returns-in_default c = let a = c.args in let w = a.chain.now in let i = c.loop-i.i in
    λ l. rest-refused (table_in a.types.now l a.c) w a.t c.loop-i.at i (c.loop-i.invariant l)
    c.loop-i-test.true (read w i) (search (rules, to_z-of_z)) (code_of c.after_method.result) (c.after_method.ensures l) (ap code_of c.in_default.is)

pub returns-then-i-chain : goal.returns-then-i-chain
returns-then-i-chain c = let a = c.args in let w = a.chain.now in let i = c.loop-i.i in
    λ l. rest-last (table_in a.types.now l a.c) w a.t c.loop-i.at i (c.loop-i.invariant l)
    c.loop-i-test.true (read w i) (search (rules, to_z-of_z)) (code_of c.after_method.result) (c.after_method.ensures l)
    (λ z. found c.in-Some.answer (sym (ap code_of c.in-Some.is) ∙ z)) c.if-i-chain.true

pub returns-in_default-answer : goal.returns-in_default-answer
returns-in_default-answer c = let a = c.args in let w = a.chain.now in let i = c.loop-i.i in
    λ l. rest-silent (table_in a.types.now l a.c) w a.t c.loop-i.at i (c.loop-i.invariant l)
    c.loop-i-test.true (read w i) (search (rules, to_z-of_z)) (code_of c.after_method.result) (c.after_method.ensures l)
    (λ z. found c.in-Some.answer (sym (ap code_of c.in-Some.is) ∙ z)) c.if-i-chain.false (ap code_of c.in-Some.is ∙ ap (λ (o : Option ℕ). code_of (Some o)) c.in_default-answer.is)

pub loop-i-preserved : goal.loop-i-preserved
loop-i-preserved c = let a = c.args in let w = a.chain.now in let i = c.loop-i.i in
    λ l. rest-next (table_in a.types.now l a.c) w a.t c.loop-i.at i (c.loop-i.invariant l)
    c.loop-i-test.true (read w i) (search (rules, to_z-of_z)) (code_of c.after_method.result) (c.after_method.ensures l)
    (λ z. found c.in-Some.answer (sym (ap code_of c.in-Some.is) ∙ z)) c.if-i-chain.false c.in-Some-answer.next
    (ap code_of c.in-Some.is ∙ ap (λ (o : Option ℕ). code_of (Some o)) c.in-Some-answer.is)

pub returns : goal.returns
returns c = let a = c.args in let at = c.loop-i.at in
    λ l. c.names_ref.ensures ∙ sym (ref-table a.types.now l a.c at)
    ∙ rest-ends (table_in a.types.now l a.c) a.chain.now a.t at c.loop-i.i (c.loop-i.invariant l)
    c.loop-i-test.false
