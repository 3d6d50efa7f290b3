-- Each relation has its square, which says the relation's state rule at every two states (proofs/Squares).
use mathlib.Core.Path.{◌≡◌, refl, sym, subst}
use mathlib.Core.Logic.{⊎_elim}
use Rattle.spec_model.specs.Relations.{subtype, conforms, strict, loose, free}
use Rattle.relation_states.specs.declared.Relation.{Relation}
use Rattle.relation_states.specs.declared.Relation.TheVariants.{Subtype, Conforms}
use Rattle.relation_states.specs.declared.TheConstants.{STATE_ORDER}
use Rattle.relation_states.specs.Asked.{relation_of}
use Rattle.relation_states.specs.Squares.{Says}
use Rattle.relation_states.proofs.Squares.{says}
use Rattle.relation_states.proofs.state_square.Goals as goal

pub returns-in-Subtype : goal.returns-in-Subtype
returns-in-Subtype c =
    let P : Relation → Type 0 = λ k. Says (relation_of k) STATE_ORDER in
    ⊎_elim (λ (e : c.args.k ≡ Subtype). subst P (sym e) (says subtype _ refl)) (λ (e : c.args.k ≡ Conforms). subst P (sym e) (says conforms _ refl)) c.in-Subtype.is

pub returns-in-Strict : goal.returns-in-Strict
returns-in-Strict c = rw c.in-Strict.is (says strict _ refl)

pub returns-in-Loose : goal.returns-in-Loose
returns-in-Loose c = rw c.in-Loose.is (says loose _ refl)

pub returns-in-Free : goal.returns-in-Free
returns-in-Free c = rw c.in-Free.is (says free _ refl)
