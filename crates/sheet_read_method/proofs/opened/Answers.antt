-- By the two words that a signature stands behind.
use mathlib.Core.Path.{refl, sym, ◌∙◌}
use Rattle.text_read.proofs.Laws.{starts-length}
use Rattle.sheet_read_method.proofs.Laws.{method-avail, method-optional, method-bare}
use Rattle.sheet_read_method.proofs.opened.Goals as goal

pub returns-then-begins : goal.returns-then-begins
returns-then-begins c =
    let starts = sym c.begins.ensures ∙ c.if-begins.true in
    (starts-length _ _ starts, refl, λ n. method-avail n c.args.l.now starts)

pub returns-then-begins-2 : goal.returns-then-begins-2
returns-then-begins-2 c =
    let avail = sym c.begins.ensures ∙ c.if-begins.false in
    let starts = sym c.begins-2.ensures ∙ c.if-begins-2.true in
    (starts-length _ _ starts, refl, λ n. method-optional n c.args.l.now avail starts)

pub returns : goal.returns
returns c =
    let avail = sym c.begins.ensures ∙ c.if-begins.false in
    λ n. method-bare n c.args.l.now avail (sym c.begins-2.ensures ∙ c.if-begins-2.false)
