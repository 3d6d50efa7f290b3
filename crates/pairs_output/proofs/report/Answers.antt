-- The text stands in front of a buffer that has room for it, so its first bytes are the definition's output (`printed`).
use Rattle.text_write.proofs.Laws.{printed}
use native.Mathlib.Omega.{arith}
use Rattle.pairs_output.proofs.report.Goals as goal

pub returns : goal.returns
returns c = let all-parts = printed c.put_report-length.ensures.is (omega (arith, c.put_report-length.ensures.few)) in record { is = all-parts.0; within = all-parts.1 }
