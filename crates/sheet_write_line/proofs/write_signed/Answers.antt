-- State, arguments and end, each written in the rest that the one before left (`fill-rest`), are the line's text (`signed_is`).
use Rattle.sheet_write_line.proofs.Laws.{signed_is}
use Rattle.text_write.proofs.Laws.{fill-rest, fill_is, ended}
use Rattle.sheet_write_line.proofs.write_signed.Goals as goal

pub returns-clause-is : goal.returns-clause-is
returns-clause-is c =
    let m = c.args.m in
    let front = fill-rest c.put_bytes-a.ensures c.min-j.ensures c.put_arguments.ensures.is in
    ended (fill_is (signed_is c.args.key.now m.args c.from.result m.count m.answer c.from.ensures) (fill-rest front c.min-k.ensures c.put_closing.ensures.is))
