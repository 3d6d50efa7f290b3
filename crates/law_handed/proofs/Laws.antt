-- Whoever returns what a request owes (`Returns`) returns the model's state; and whether he does is a matter of counted records.
use mathlib.Core.Path.{◌≡◌, sym, ◌∙◌}
use mathlib.Core.Bool.{So}
use mathlib.Core.List.{List, [], ◌∷◌, ◌++◌}
use Prim.Native.Nat.{ℕ}
use Rattle.spec_model.specs.Table.{Table, valid_sheet}
use Rattle.spec_model.specs.Requests.{Request, Outcome, refused, serve, after}
use Rattle.spec_model.specs.Check.{RawSystem, system_of, system_fits, system_accepted}
use Rattle.spec_model.specs.Claim.{reached}
use Rattle.spec_model.specs.Handed.{counted, serve_handed, Returns}
use Rattle.law_model.proofs.Returned.{returned-means, accepted-again, sheet-again}
use Rattle.law_handed.proofs.Counted.{means-same, accepted-same, outcome-same, counted_same}

module _ (r : RawSystem) (q : Request) (o : Outcome) (r' : RawSystem) (w : Returns r q o r') where
  -- accepted or refused by the model, the state returned means the one that the model leaves
  pub returns-means : So (system_accepted r) → system_of r' ≡ after (system_of r) (serve (system_of r) q)
  returns-means h = means-same r' (serve_handed r q).state w.records ∙ returned-means r h q

  -- and passes the check of 2 again where the model's state fits
  pub returns-accepted : So (system_accepted r) → So (system_fits (after (system_of r) (serve (system_of r) q))) → So (system_accepted r')
  returns-accepted h f = accepted-same r' (serve_handed r q).state w.records ∙ accepted-again r h q f

  -- from a loaded sheet on it always does
  pub returns-reached : (t : Table) → So (valid_sheet t) → (qs : List Request) → So (system_accepted r) → system_of r ≡ (reached t qs).0
      → So (system_accepted r') × (system_of r' ≡ (reached t (qs ++ (q ∷ []))).0)
  returns-reached t v qs h e = let x = sheet-again t v qs r h e q in
      (accepted-same r' (serve_handed r q).state w.records ∙ x.0, means-same r' (serve_handed r q).state w.records ∙ x.1)

  -- The same request on another state with the same counted records: to return the same counted records is to return what is owed, if a refusal leaves that state.
  pub returns_alike : (u u' : RawSystem) → counted u ≡ counted r → counted u' ≡ counted r' → ((n : ℕ) → o ≡ refused n → u' ≡ u) → Returns u q o u'
  returns_alike u u' e e' stays = record {
    outcome = w.outcome ∙ sym (outcome-same u r e q);
    records = e' ∙ w.records ∙ sym (counted_same u r e q);
    untouched = stays;
  }
