-- By whether it is a refusal.
use Rattle.std.proofs.Common.{refl, sym, rules}
use Rattle.spec_model.proofs.Rules.{never}
use Rattle.request_results.proofs.hand_back.Goals as goal

pub returns-in-Err : goal.returns-in-Err
returns-in-Err g c = λ t l. rw c.in-Err.is (record {
  number = search rules;
  values = refl;
  refused = λ _. refl;
  accepted = λ h. never h;
})

pub returns-in-Ok : goal.returns-in-Ok
returns-in-Ok g c = λ t l. rw c.in-Ok.is (record {
  number = refl;
  values = c.values_of.ensures;
  refused = λ h. never (sym h);
  accepted = λ _. c.store.ensures t l;
})
