-- The C function gives the library's answer and leaves its buffer, which are the definition's for every input.
use Rattle.text_write.proofs.Written.{written_is}
use Rattle.export_script.proofs.pilgonca_script.Goals as goal

pub returns : goal.returns
returns c = written_is _ _ c.script-w.ensures c.wrote_code.ensures.0 c.wrote_code.ensures.1
