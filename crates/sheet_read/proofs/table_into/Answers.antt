-- The first four lines, `under=` lines, the number of types, types and last line: each group is refused with the definition's number and offset, or goes on where it ended.
use mathlib.Core.Path.{◌≡◌, refl, sym, ap, ◌∙◌}
use lib.ListN.{drop}
use Rattle.std.proofs.Common.{rules}
use Rattle.std.specs.Prelude.{Ok, Err}
use Rattle.table_record.proofs.Tables.{types-to-length}
use Rattle.table_record.specs.Store.{types_in, links_in, types_to}
use Rattle.spec_sheet.specs.Lines.{split}
use Rattle.spec_sheet.specs.Sheet.{sheet_result}
use Rattle.sheet_read_type.proofs.Readings.{read_no, read_ok}
use Rattle.sheet_read.proofs.Readings.{first-no, first-ok, done-no, done_ok, on-done, links-no, count_no, count-ok, table_with, types-no, to-ending}
use Rattle.sheet_read.proofs.Stored.{links-count, sheet-loaded}
use Rattle.sheet_read.specs.View.{links_to, sheet_for, table_of}
use Rattle.sheet_read.proofs.table_into.Goals as goal

pub returns-in_err-h : goal.returns-in_err-h
returns-in_err-h c =
    let s = c.args.s.now in
    let f = c.first_lines in
    let e = c.in_err-h.field-0.0 in
    let w : c.from_residual.result ≡ Err e = search rules in
    ap (λ z. table_of z c.args.types.now c.args.links.now) w ∙ ap sheet_for (first-no s _ e.at (read_no (λ f. f) s f.result _ f.ensures.is e c.in_err-h.was))

pub returns-in_err-c : goal.returns-in_err-c
returns-in_err-c c =
    let s = c.args.s.now in
    let f = c.first_lines in
    let h = c.in_ok-h.h in
    let hc = c.in_ok-h.c in
    let he : f.result ≡ Ok (h, hc) = search rules in
    let front = first-ok s h hc.at (split (drop hc.at s)) (read_ok (λ f. f) s f.result _ f.ensures.is h hc he) in
    let u = c.links_into in
    let e = c.in_err-c.field-0.0 in
    let w : c.from_residual-in_err-c.result ≡ Err e = search rules in
    ap (λ z. table_of z c.args.types.now u.new.l) w ∙ ap sheet_for (ap sheet_result (links-no h hc.at (split (drop hc.at s)) _ e.at (done-no s _ u.result _ u.ensures.is e c.in_err-c.was)) ∙ front)

pub returns-in_err-n : goal.returns-in_err-n
returns-in_err-n c =
    let s = c.args.s.now in
    let f = c.first_lines in
    let h = c.in_ok-h.h in
    let hc = c.in_ok-h.c in
    let he : f.result ≡ Ok (h, hc) = search rules in
    let front = first-ok s h hc.at (split (drop hc.at s)) (read_ok (λ f. f) s f.result _ f.ensures.is h hc he) in
    let u = c.links_into in
    let ls = links_in u.new.l in
    let links = links_to h.cats ls in
    let uc = c.in_ok-c.c in
    let ue : u.result ≡ Ok uc = search rules in
    let linked = done_ok s links u.result _ u.ensures.is uc ue in
    let y = c.next_number in
    let e = c.in_err-n.field-0.0 in
    let w : c.from_residual-in_err-n.result ≡ Err e = search rules in
    ap (λ z. table_of z c.args.types.now u.new.l) w ∙ ap sheet_for (ap sheet_result (count_no h hc.at (split (drop hc.at s)) links uc.at (split (drop uc.at s)) linked _ e.at (read_no (λ n. n) s y.result _ y.ensures.is e c.in_err-n.was)) ∙ front)

pub returns-in_err-c-2 : goal.returns-in_err-c-2
returns-in_err-c-2 c =
    let s = c.args.s.now in
    let f = c.first_lines in
    let h = c.in_ok-h.h in
    let hc = c.in_ok-h.c in
    let he : f.result ≡ Ok (h, hc) = search rules in
    let front = first-ok s h hc.at (split (drop hc.at s)) (read_ok (λ f. f) s f.result _ f.ensures.is h hc he) in
    let u = c.links_into in
    let ls = links_in u.new.l in
    let links = links_to h.cats ls in
    let uc = c.in_ok-c.c in
    let ue : u.result ≡ Ok uc = search rules in
    let linked = done_ok s links u.result _ u.ensures.is uc ue in
    let y = c.next_number in
    let n = c.in_ok-n.n in
    let yc = c.in_ok-n.c in
    let ye : y.result ≡ Ok (n, yc) = search rules in
    let counted = count-ok h hc.at (split (drop hc.at s)) links uc.at (split (drop uc.at s)) linked n yc.at (split (drop yc.at s)) (read_ok (λ n. n) s y.result _ y.ensures.is n yc ye) in
    let t = c.types_into in
    let e = c.in_err-c-2.field-0.0 in
    let w : c.from_residual-in_err-c-2.result ≡ Err e = search rules in
    ap (λ z. table_of z t.new.b u.new.l) w ∙ ap sheet_for (ap sheet_result (types-no h links n yc.at (split (drop yc.at s)) _ e.at (done-no s _ t.result _ t.ensures.is e c.in_err-c-2.was) ∙ counted) ∙ front)

pub returns-in_err-last_line : goal.returns-in_err-last_line
returns-in_err-last_line c =
    let s = c.args.s.now in
    let f = c.first_lines in
    let h = c.in_ok-h.h in
    let hc = c.in_ok-h.c in
    let he : f.result ≡ Ok (h, hc) = search rules in
    let front = first-ok s h hc.at (split (drop hc.at s)) (read_ok (λ f. f) s f.result _ f.ensures.is h hc he) in
    let u = c.links_into in
    let ls = links_in u.new.l in
    let links = links_to h.cats ls in
    let uc = c.in_ok-c.c in
    let ue : u.result ≡ Ok uc = search rules in
    let linked = done_ok s links u.result _ u.ensures.is uc ue in
    let y = c.next_number in
    let n = c.in_ok-n.n in
    let yc = c.in_ok-n.c in
    let ye : y.result ≡ Ok (n, yc) = search rules in
    let counted = count-ok h hc.at (split (drop hc.at s)) links uc.at (split (drop uc.at s)) linked n yc.at (split (drop yc.at s)) (read_ok (λ n. n) s y.result _ y.ensures.is n yc ye) in
    let t = c.types_into in
    let ts = types_to h.methods n n (types_in t.new.b) in
    let tc = c.in_ok-c-2.c in
    let te : t.result ≡ Ok tc = search rules in
    let ended = to-ending h links n yc.at (split (drop yc.at s)) ts tc.at (split (drop tc.at s)) (done_ok s ts t.result _ t.ensures.is tc te) in
    let g = c.last_line in
    let e = c.in_err-last_line.field-0.0 in
    let w : c.from_residual-in_err-last_line.result ≡ Err e = search rules in
    ap (λ z. table_of z t.new.b u.new.l) w ∙ ap sheet_for (ap sheet_result (done-no s (table_with h links n ts) g.result _ (g.ensures (table_with h links n ts) refl) e c.in_err-last_line.was ∙ ended ∙ counted) ∙ front)

pub returns : goal.returns
returns c =
    let s = c.args.s.now in
    let f = c.first_lines in
    let h = c.in_ok-h.h in
    let hc = c.in_ok-h.c in
    let he : f.result ≡ Ok (h, hc) = search rules in
    let front = first-ok s h hc.at (split (drop hc.at s)) (read_ok (λ f. f) s f.result _ f.ensures.is h hc he) in
    let u = c.links_into in
    let ls = links_in u.new.l in
    let links = links_to h.cats ls in
    let uc = c.in_ok-c.c in
    let ue : u.result ≡ Ok uc = search rules in
    let linked = done_ok s links u.result _ u.ensures.is uc ue in
    let y = c.next_number in
    let n = c.in_ok-n.n in
    let yc = c.in_ok-n.c in
    let ye : y.result ≡ Ok (n, yc) = search rules in
    let counted = count-ok h hc.at (split (drop hc.at s)) links uc.at (split (drop uc.at s)) linked n yc.at (split (drop yc.at s)) (read_ok (λ n. n) s y.result _ y.ensures.is n yc ye) in
    let t = c.types_into in
    let ts = types_to h.methods n n (types_in t.new.b) in
    let tc = c.in_ok-c-2.c in
    let te : t.result ≡ Ok tc = search rules in
    let ended = to-ending h links n yc.at (split (drop yc.at s)) ts tc.at (split (drop tc.at s)) (done_ok s ts t.result _ t.ensures.is tc te) in
    let g = c.last_line in
    let ge : g.result ≡ Ok c.in_ok-last_line.field-0 = search rules in
    sheet-loaded (table_with h links n ts) t.new.b _ n h.cats (on-done t.result tc _ te t.ensures.exact) (on-done u.result uc _ ue u.ensures.exact)
    (sym (types-to-length h.methods n (types_in t.new.b) n)) (sym (links-count h.cats ls))
    ∙ ap sheet_for (ap sheet_result (done_ok s (table_with h links n ts) g.result _ (g.ensures (table_with h links n ts) refl) _ ge ∙ ended ∙ counted) ∙ front)
