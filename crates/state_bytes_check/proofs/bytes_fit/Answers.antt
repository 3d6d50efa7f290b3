-- A code that names nothing is refused; else the check is that of the state that is read (`read-accepted`).
use Rattle.std.proofs.Common.{sym, ◌∙◌}
use Rattle.state_bytes.specs.Flat.{flat}
use Rattle.state_bytes.proofs.Laws.{codes-refused}
use Rattle.state_bytes_check.proofs.Laws.{bytes-are, read-accepted}
use Rattle.state_bytes_check.proofs.bytes_fit.Goals as goal

pub returns-then-codes_fit : goal.returns-then-codes_fit
returns-then-codes_fit c = let a = c.args in
    let f = flat a.types.now a.links.now a.cells.now a.places.now a.calls.now a.counts.now in
    c.held_fits.ensures ∙ sym (bytes-are f _ c.counts_from-c.ensures) ∙ read-accepted f (sym c.codes_fit.ensures ∙ c.if-codes_fit.true)

pub returns-else-codes_fit : goal.returns-else-codes_fit
returns-else-codes_fit c = let a = c.args in
    let f = flat a.types.now a.links.now a.cells.now a.places.now a.calls.now a.counts.now in
    c.if-codes_fit.false ∙ sym (codes-refused f (sym c.codes_fit.ensures ∙ c.if-codes_fit.false))
