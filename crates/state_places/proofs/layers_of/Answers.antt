-- After a turn the place behind lies below, and the walk is one layer longer (proofs/Walk).
use Rattle.std.proofs.Common.{◌+◌, ◌<◌, refl, ap, ◌∙◌}
use Rattle.spec_model.specs.Crossing.{place_type}
use Rattle.state_record.specs.declared.Place.{Place}
use Rattle.state_record.specs.View.{place_of}
use lib.ListN.{set}
use Rattle.state_places.proofs.Laws.{read}
use Rattle.state_places.proofs.Walk.{Walk, walk-starts, walk-goes, walk_ends}
use Rattle.state_places.proofs.layers_of.Goals as goal
use Rattle.state_places.proofs.layers_of.Goals.{After-from-at}

goes : (c : After-from-at) → (c.from-at.result < c.loop-at.at) × Walk c.args.ps c.args.p (set c.loop-at.list c.loop-at.count c.in-Adapter.closed) (c.loop-at.count + 1) c.from-at.result
goes c = let l = c.loop-at in
    walk-goes c.args.ps c.requires.0 c.args.p c.requires.1 l.list l.count l.at l.invariant _ (read c.args.ps l.at _ l.invariant.inside c.in-Adapter.is) c.in-Adapter.closed
    refl refl c.from-at.result c.from-at.ensures

pub loop-at-init : goal.loop-at-init
loop-at-init c = walk-starts c.args.ps c.requires.0 c.args.p c.requires.1 _ refl

pub loop-at-smaller : goal.loop-at-smaller
loop-at-smaller c = (goes c).0

pub loop-at-preserved : goal.loop-at-preserved
loop-at-preserved c = (goes c).1

pub returns : goal.returns
returns c = let l = c.loop-at in
    walk_ends c.args.ps c.requires.0 _ c.requires.1 l.list l.count l.at l.invariant _ (read c.args.ps l.at _ l.invariant.inside c.in_default.is) _
    (c.place_type.ensures.0 ∙ ap (λ (x : Place). place_type (place_of x)) c.in_default.is) refl
