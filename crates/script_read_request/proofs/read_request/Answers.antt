-- A line is a request by the word that it begins with: every return is the definition's case for that word, `line_other` for no word.
use Rattle.std.proofs.Common.{sym, refl}
use Rattle.text_read.proofs.Laws.{starts-length}
use Rattle.script_read_request.specs.Asked.{word}
use Rattle.script_read_request.proofs.Laws.{line-new, line-move, line-call, line-answer, line_other}
use Rattle.script_read_request.proofs.read_request.Goals as goal

pub request_at-requires : goal.request_at-requires
request_at-requires c = starts-length (word 0) c.args.l.now (sym c.if-begins.ensures)

pub returns-then-begins : goal.returns-then-begins
returns-then-begins c = line-new c.args.l.now c.request_at.result (sym c.if-begins.ensures) c.request_at.ensures

pub request_at-requires-then-begins-2 : goal.request_at-requires-then-begins-2
request_at-requires-then-begins-2 c = starts-length (word 1) c.args.l.now (sym c.if-begins-2.ensures)

pub returns-then-begins-2 : goal.returns-then-begins-2
returns-then-begins-2 c =
    line-move c.args.l.now c.request_at-then-begins-2.result (sym c.if-begins.ensures) (sym c.if-begins-2.ensures) c.request_at-then-begins-2.ensures

pub request_at-requires-then-begins-3 : goal.request_at-requires-then-begins-3
request_at-requires-then-begins-3 c = starts-length (word 2) c.args.l.now (sym c.if-begins-3.ensures)

pub returns-then-begins-3 : goal.returns-then-begins-3
returns-then-begins-3 c =
    line-call c.args.l.now c.request_at-then-begins-3.result (sym c.if-begins.ensures) (sym c.if-begins-2.ensures) (sym c.if-begins-3.ensures) c.request_at-then-begins-3.ensures

pub request_at-requires-then-begins-4 : goal.request_at-requires-then-begins-4
request_at-requires-then-begins-4 c = starts-length (word 3) c.args.l.now (sym c.if-begins-4.ensures)

pub returns-then-begins-4 : goal.returns-then-begins-4
returns-then-begins-4 c =
    line-answer c.args.l.now c.request_at-then-begins-4.result (sym c.if-begins.ensures) (sym c.if-begins-2.ensures) (sym c.if-begins-3.ensures) (sym c.if-begins-4.ensures)
    c.request_at-then-begins-4.ensures

pub returns : goal.returns
returns c =
    line_other c.args.l.now _ (sym c.if-begins.ensures) (sym c.if-begins-2.ensures) (sym c.if-begins-3.ensures) (sym c.if-begins-4.ensures) (record { is = refl; some = refl; within = tt })
