-- What was written stands within the buffer (`wrote-within`).
use Rattle.text_write.proofs.Written.{wrote-within}
use Rattle.tiny.proofs.main.Goals as goal

pub slice_bounds-out-end : goal.slice_bounds-out-end
slice_bounds-out-end c = (wrote-within c.tiny.result c.in-Ok.length _ _ _ c.in-Ok.is c.tiny.ensures).0

pub slice_bounds-print-end : goal.slice_bounds-print-end
slice_bounds-print-end c = (wrote-within c.tiny.result c.in-Ok.length _ _ _ c.in-Ok.is c.tiny.ensures).1
