-- The square at the rows of two codes is the state rule of the states that they mean (`says_at`).
use mathlib.Core.Path.{◌∙◌}
use Rattle.relation_states.proofs.Squares.{says_at}
use Rattle.relation_states.specs.Asked.{relation_of}
use Rattle.relation_states.proofs.state_rule.Goals as goal

pub returns-else-a-b : goal.returns-else-a-b
returns-else-a-b c =
    let a = c.args in
    let i = c.state_index in
    let j = c.state_index-else-a-b in
    c.states_compare.ensures ∙ says_at (relation_of a.k) a.square.now i.result j.result a.a a.b c.requires i.ensures.0 j.ensures.0 i.ensures.1 j.ensures.1
