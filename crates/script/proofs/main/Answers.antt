-- What was written stands within its buffer (`wrote-within`).
use Rattle.text_write.proofs.Written.{wrote-within}
use Rattle.script.proofs.main.Goals as goal

pub slice_bounds-out-end : goal.slice_bounds-out-end
slice_bounds-out-end c = (wrote-within c.script.result c.in-Ok-script.length _ _ _ c.in-Ok-script.is c.script.ensures).0

pub slice_bounds-print-end : goal.slice_bounds-print-end
slice_bounds-print-end c = (wrote-within c.script.result c.in-Ok-script.length _ _ _ c.in-Ok-script.is c.script.ensures).1
