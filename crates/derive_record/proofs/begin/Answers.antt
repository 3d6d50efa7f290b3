-- Rests on `begins-self`, `begins-number` and `begins-search`: what needs no search, and what is found.
use mathlib.Core.Path.{sym, ◌∙◌}
use Rattle.table_record.specs.Store.{kind_is}
use Rattle.derive_record.proofs.Begins.{not-closed, begins-self, begins-number, begins-search, not_left, not_right}
use Rattle.derive_record.proofs.begin.Goals as goal
use Rattle.derive_record.proofs.begin.Goals.{then-not-names_ref-via-then-not-names_ref, then-not-names_ref-via-else-not-names_ref+then-not-names_ref-2}

pub returns-then-key : goal.returns-then-key
returns-then-key c = let a = c.args in let k = a.key in
    begins-self (kind_is k.kind) k.left k.right (not-closed k.kind c.requires.0) a.c a.n a.b.now c.if-key.true

pub returns-then-not-names_ref : goal.returns-then-not-names_ref
returns-then-not-names_ref c = let a = c.args in let k = a.key in
    begins-number (kind_is k.kind) k.left k.right (not-closed k.kind c.requires.0) a.c a.n a.b.now c.main_side.result c.main_side.ensures c.if-key.false
    (elim c.then-not-names_ref.branch [
      | then-not-names_ref-via-then-not-names_ref w ↦ not_left _ _ (sym c.names_ref.ensures ∙ w.if-not-names_ref.true)
      | then-not-names_ref-via-else-not-names_ref+then-not-names_ref-2 w ↦ not_right _ _ (sym w.names_ref-else-not-names_ref.ensures ∙ w.if-not-names_ref-2.true)
    ])

pub returns : goal.returns
returns c = let a = c.args in let k = a.key in
    begins-search (kind_is k.kind) k.left k.right (not-closed k.kind c.requires.0) a.c a.n a.b.now c.search.result c.if-key.false
    (sym c.names_ref.ensures ∙ c.if-not-names_ref.false) (sym c.names_ref-else-not-names_ref.ensures ∙ c.if-not-names_ref-2.false) c.search.ensures
