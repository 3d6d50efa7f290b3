-- The library's test of every number is the definition's (`all-list`).
use mathlib.Core.Path.{◌∙◌}
use Rattle.std.proofs.Common.{rules, tests}
use Rattle.std.proofs.lemmas.Iterator.{YieldsList-from_slice}
use Rattle.std.proofs.lemmas.Iterator.Search.{all_from_yields_List}
use Rattle.spec_sheet.specs.Sheet.{below}
use Rattle.text_read.specs.View.{numbers_of}
use Rattle.sheet_read_line.proofs.Laws.{all-list}
use Rattle.sheet_read_line.proofs.all_below.Goals as goal

pub returns : goal.returns
returns c =
    let xs = numbers_of c.args.t in
    all_from_yields_List (below c.args.n) _ _ _ c.all.ensures.ran (YieldsList-from_slice xs cc) (λ x b q k. search (rules, tests))
    ∙ all-list (below c.args.n) xs
