-- Two numbers and four answers, each written in the rest that the one before left (`fill-rest`), are the line (`line-is`), which is short enough to be counted.
use Rattle.pairs_write_lines.proofs.Laws.{line-is, line-short}
use Rattle.text_write.proofs.Laws.{fill-rest, fill_is, ended}
use native.Mathlib.Omega.{arith}
use Rattle.pairs_write_lines.proofs.pair_line.Goals as goal

pub returns : goal.returns
returns c =
    let a = c.args in
    let two = fill-rest c.put_decimal-a.ensures.is c.min-j.ensures c.put_number.ensures.is in
    let f = fill_is (line-is a.t a.s a.code) (fill-rest two c.min-k.ensures c.put_comparison.ensures.is) in
    record { is = ended f; few = omega (arith, f.said, line-short a.t a.s a.code c.requires.0 c.requires.1) }
