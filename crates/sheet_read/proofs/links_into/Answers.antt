use mathlib.Core.List.{[]}
use mathlib.Core.Path.{◌≡◌, ap, sym, ◌∙◌}
use Prim.Native.Nat.{ℕ, ◌<◌, ◌+◌, ◌-◌}
use native.Mathlib.Numerals.{add-one}
use native.Mathlib.Omega.{arith}
use lib.ListN.{length, drop}
use Rattle.std.proofs.Common.{rules}
use Rattle.std.specs.Prelude.{Ok, Err}
use Rattle.spec_model.specs.Table.{max_categories}
use Rattle.table_record.proofs.Laws.{links-length}
use Rattle.table_record.proofs.Linked.{links-put}
use Rattle.table_record.specs.Records.{link_bytes}
use Rattle.table_record.specs.Store.{links_in, raw_links}
use Rattle.spec_sheet.specs.Lines.{split, times, got}
use Rattle.sheet_read_line.specs.View.{broader_in, LinksExact}
use Rattle.sheet_read_type.specs.View.{done_by}
use Rattle.sheet_read_type.proofs.Readings.{read_no, read_ok, ok_has, times-done, times-stop, times-next}
use Rattle.sheet_read.proofs.Stored.{links-none, links-add, empty-links, links-count, links-room, links-stored}
use Rattle.sheet_read.specs.View.{links_to, each_under}
use Rattle.sheet_read.proofs.links_into.Goals as goal

pub loop-j-init : goal.loop-j-init
loop-j-init c =
    let a = c.args in
    let e : a.cats - 0 ≡ a.cats = omega arith in
    let rs = split (drop a.c.at a.s.now) in
    let none = links-none (links_in a.l.now) in
    (c.requires.1 ∙ empty-links ∙ ap link_bytes (sym none), ap (λ z. times (each_under a.cats) (a.cats - 0) 1 z a.c.at rs) none ∙ ap (λ (z : ℕ). times (each_under a.cats) z 1 [] a.c.at rs) e)

pub returns-in_err-x-clause-is : goal.returns-in_err-x-clause-is
returns-in_err-x-clause-is c =
    let a = c.args in
    let p = c.loop-j in
    let g = c.next_under in
    let e = c.in_err-x.field-0.0 in
    let w : c.from_residual.result ≡ Err e = search rules in
    ap (done_by a.s.now (links_to a.cats (links_in p.l))) w
    ∙ times-stop (each_under a.cats) a.cats p.j (p.j + 1) (links_to p.j (links_in p.l)) p.at.at (split (drop p.at.at a.s.now)) _ p.invariant.1 c.loop-j-test.true _ e.at
    (read_no broader_in a.s.now g.result _ g.ensures.is e c.in_err-x.was)

pub put_links-requires : goal.put_links-requires
put_links-requires c =
    let p = c.loop-j in
    let n : length (links_to p.j (links_in p.l)) ≡ p.j = links-count p.j (links_in p.l) in
    (omega (arith, c.requires.0, c.loop-j-test.true), ap length p.invariant.0 ∙ links-room (links_to p.j (links_in p.l)) (omega (arith, c.requires.0, c.loop-j-test.true)))

pub loop-j-preserved : goal.loop-j-preserved
loop-j-preserved c =
    let a = c.args in
    let p = c.loop-j in
    let g = c.next_under in
    let x = c.in_ok-x.x in
    let next = c.in_ok-x.next in
    let w : g.result ≡ Ok (x, next) = search rules in
    let ls = links_in p.l in
    let small : p.j < max_categories = omega (arith, c.requires.0, c.loop-j-test.true) in
    let n : length (links_to p.j ls) ≡ p.j = links-count p.j ls in
    let k : p.j + 1 < length ls = omega (arith, links-length p.l) in
    let put = ap links_in c.put_links.ensures ∙ links-put p.l (p.j + 1) (raw_links x) (omega arith) (ap length p.invariant.0 ∙ links-room (links_to p.j ls) (omega arith)) in
    let one = ap (links_to (p.j + 1)) put ∙ links-add ls p.j (raw_links x) k in (
      links-stored (links_to p.j ls) (broader_in x) p.j (raw_links x) p.l _ n small p.invariant.0 (ok_has (λ r. LinksExact r.0) g.result x next w g.ensures.exact)
          c.put_links.ensures ∙ ap link_bytes (sym one),
      times-next (each_under a.cats) a.cats p.j (p.j + 1) (links_to p.j ls) p.at.at (split (drop p.at.at a.s.now)) _ p.invariant.1 c.loop-j-test.true
          (broader_in x) next.at (split (drop next.at a.s.now)) (p.j + 1 + 1) _ (read_ok broader_in a.s.now g.result _ g.ensures.is x next w) (add-one (p.j + 1)) one,
    )

pub returns-clause-is : goal.returns-clause-is
returns-clause-is c =
    let a = c.args in
    let p = c.loop-j in
    let e : p.j ≡ a.cats = omega arith in
    ap (λ (z : ℕ). got (links_to z (links_in p.l)) p.at.at (split (drop p.at.at a.s.now))) (sym e)
    ∙ times-done (each_under a.cats) a.cats p.j (p.j + 1) (links_to p.j (links_in p.l)) p.at.at (split (drop p.at.at a.s.now)) _ p.invariant.1 c.loop-j-test.false
