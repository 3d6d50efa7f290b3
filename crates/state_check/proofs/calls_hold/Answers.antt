-- The callers of calls that are accepted are known.
use Rattle.std.proofs.Common.{sym, ◌∙◌, arith}
use Rattle.table_check_links.proofs.Steps.{goes}
use Rattle.state_check.specs.Parts.{calls_accepted}
use Rattle.state_check.proofs.Laws.{callers-known}
use Rattle.state_check.proofs.calls_hold.Goals as goal

pub callers_fit-requires : goal.callers_fit-requires
callers_fit-requires g c = let a = c.args in let h = c.requires in
    let known = callers-known a.c (g.H.Held.cells a.h.now).count (g.H.Held.calls a.h.now) (sym c.calls_fit.ensures ∙ c.if-calls_fit.true) in
    (h.1, λ j l. omega (arith, known j l, h.0.subjects))

pub returns-then-calls_fit : goal.returns-then-calls_fit
returns-then-calls_fit g c = let a = c.args in
    let cs = g.H.Held.cells a.h.now in let js = g.H.Held.calls a.h.now in
    let calls = sym c.calls_fit.ensures ∙ c.if-calls_fit.true in
    goes (calls_accepted a.c cs.count js) _ _ calls (c.callers_fit.ensures a.c.subjects c.requires.0.subjects (callers-known a.c cs.count js calls))
