-- The flag is set in the record of call j alone.
use Rattle.state_record.specs.Whole.{whole}
use Rattle.request_answer.proofs.Laws.{answered-step}
use Rattle.request_answer.proofs.answered.Goals as goal

pub returns : goal.returns
returns c = λ b h. let a = c.args in let q = c.answered-s in
    answered-step (whole b a.s.now) h a.j c.requires.0 q.result q.ensures.0 q.ensures.1 a.answer
