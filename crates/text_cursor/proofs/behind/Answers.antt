-- Where the next line begins: behind the LF that the search found (`past-found`), or where it stood if the text ends first (`past-none`).
use Rattle.text_cursor.proofs.Laws.{past-found, past-none}
use Rattle.text_cursor.proofs.behind.Goals as goal

pub returns-then-lf-s : goal.returns-then-lf-s
returns-then-lf-s c =
    let a = c.args in
    let e = c.line_end-lf in
    past-found a.s.now a.at e.result c.if-lf-s.true e.ensures.clear (e.ensures.found c.if-lf-s.true)

pub returns : goal.returns
returns c =
    let a = c.args in
    let e = c.line_end-lf in
    past-none a.s.now a.at e.result c.if-lf-s.false e.ensures.clear
