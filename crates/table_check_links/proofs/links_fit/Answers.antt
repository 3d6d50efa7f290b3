use mathlib.Core.Bool.{not}
use mathlib.Core.Path.{◌≡◌, ap, sym, ◌∙◌}
use Prim.Native.Nat.{ℕ, ◌+◌, ◌-◌}
use native.Mathlib.Omega.{arith}
use lib.ListN.{get_or}
use Rattle.table_record.specs.Store.{links_in}
use Rattle.spec_model.specs.Check.{no_raw_links}
use Rattle.table_check_links.specs.Parts.{each_from, link_accepted, links_accepted}
use Rattle.table_check_links.proofs.Steps.{refused, passed}
use Rattle.table_check_links.proofs.Each.{rest-next, rest-broken, rest_end}
use Rattle.table_check_links.proofs.links_fit.Goals as goal

pub loop-k-init : goal.loop-k-init
unfolding links_accepted
loop-k-init c = let a = c.args in
    let e : a.cats ≡ a.cats + 1 - 1 = omega arith in
    ap (λ (n : ℕ). each_from n 1 (λ j. link_accepted j (get_or (links_in a.l.now) j no_raw_links))) e

pub returns-then-not-link_fits : goal.returns-then-not-link_fits
returns-then-not-link_fits c = let a = c.args in
    let l = c.loop-k in
    sym (l.invariant ∙ rest-broken (λ j. link_accepted j (get_or (links_in a.l.now) j no_raw_links)) (a.cats + 1) l.k (omega arith)
    (refused c.link_fits.result _ c.link_fits.ensures (ap not c.if-not-link_fits.true)))

pub loop-k-preserved : goal.loop-k-preserved
loop-k-preserved c = let a = c.args in
    let l = c.loop-k in
    l.invariant ∙ rest-next (λ j. link_accepted j (get_or (links_in a.l.now) j no_raw_links)) (a.cats + 1) l.k (omega arith)
    (passed c.link_fits.result _ c.link_fits.ensures (ap not c.if-not-link_fits.false))

pub returns : goal.returns
returns c = let a = c.args in
    let l = c.loop-k in
    sym (l.invariant ∙ rest_end (λ j. link_accepted j (get_or (links_in a.l.now) j no_raw_links)) (a.cats + 1) l.k (omega arith))
