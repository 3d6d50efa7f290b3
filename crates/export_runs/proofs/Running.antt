-- What a run leaves of what was lent to it, from what it promises of the state that was read out of it.
use mathlib.Core.Path.{◌≡◌, refl, ap, sym, subst, ◌∙◌}
use mathlib.Core.Bool.{Bool, true, false}
use mathlib.Core.List.{List}
use Prim.Native.Nat.{ℕ, ◌*◌}
use native.Mathlib.Omega.{arith}
use lib.IntN.{ℤ}
use lib.ListN.{take}
use Rattle.spec_model.specs.Basics.{Res, refuse, ok, need}
use Rattle.spec_model.specs.Table.{size}
use Rattle.spec_model.specs.Requests.{System, Outcome}
use Rattle.spec_model.specs.Check.{system_of, system_accepted}
use Rattle.spec_model.specs.Handed.{counted}
use Rattle.spec_model.specs.Refusals.{out_of_range}
use Rattle.law_handed.proofs.Counted.{means-same, accepted-same, stored_same}
use Rattle.state_record.specs.View.{raw_state}
use Rattle.state_bytes.specs.Flat.{Flat, raw_flat}
use Rattle.state_bytes.specs.Records.{state_from}
use Rattle.state_bytes.proofs.Laws.{codes_in, read-counted, codes-refused}
use Rattle.request_results.specs.Stored.{Stored}
use Rattle.request_results.proofs.Handing.{with_bytes, stored-counted}
use Rattle.request_words.specs.Words.{requests}
use Rattle.request_run.specs.Requested.{run_asked, run_handed}
use Rattle.request_run.specs.Ran.{Over as Ran, Runs, RanAs}
use Rattle.export_runs.specs.Results.{LentRun, lent_run, RanOut, RunsOut}
use Rattle.table_record.specs.Layout.{type_size}

module _ (f : Flat) (k : ℕ) (ws : List ℤ) where
  abbrev from : Bool → System → Res (List Outcome × System)
  from b s = need b out_of_range λ _. ok (run_asked s (requests k ws))

  -- a code that names nothing
  pub run-unfit : (l : LentRun) → codes_in f ≡ false → RunsOut (run_handed (raw_flat f) k ws) out_of_range l l
  unfolding run_handed
  run-unfit l h = subst (λ (b : Bool). RunsOut (from b (system_of (raw_flat f))) out_of_range l l) (sym (codes-refused f h)) (refl, refl)

  same : codes_in f ≡ true → run_handed (raw_state (state_from f)) k ws ≡ run_handed (raw_flat f) k ws
  unfolding run_handed
  same h = let e = read-counted f h in
      ap (λ (b : Bool). from b (system_of (raw_state (state_from f)))) (accepted-same (raw_state (state_from f)) (raw_flat f) e)
      ∙ ap (from (system_accepted (raw_flat f))) (means-same (raw_state (state_from f)) (raw_flat f) e)

  module _ (fits : codes_in f ≡ true) (old new : List ℤ) (r : Ran) (w : Runs (state_from f) old new (run_handed (raw_state (state_from f)) k ws) r) (served : ℕ) where
    -- refused with 2: the answers are as they were
    pub run-refused : (r.refusal ≡ 0 → ⊥) → RunsOut (run_handed (raw_flat f) k ws) r.refusal (lent_run f old served) (lent_run (with_bytes f r.state.types) new served)
    run-refused h = subst (λ x. RunsOut x r.refusal (lent_run f old served) (lent_run (with_bytes f r.state.types) new served)) (same fits) (go (run_handed (raw_state (state_from f)) k ws) w)
      where
        go : (x : Res (List Outcome × System)) → Runs (state_from f) old new x r → RunsOut x r.refusal (lent_run f old served) (lent_run (with_bytes f r.state.types) new served)
        go (refuse e) v = (
          ap (λ (z : Ran). z.refusal) v.0,
          ap (λ (z : Ran). lent_run (with_bytes f z.state.types) new served) v.0 ∙ ap (λ (z : List ℤ). lent_run f z served) v.1,
        )
        go (ok x) v = absurd (h v.refusal)

    -- taken: the state is stored in the arrays, g
    module _ (was g : Flat) (links : g.links ≡ f.links) (z : Stored r.state was g) where
      taken_as : (os : List Outcome) (m : System) → RanAs (state_from f) old new os m r → RanOut os m 0 (lent_run f old served) (lent_run g new r.served)
      taken_as os m v = record {
        number = refl;
        served = v.served;
        answers = v.answers;
        records = stored-counted r.state was g z (links ∙ sym v.links) ∙ v.records ∙ ap counted (stored_same (raw_state (state_from f)) (raw_flat f) (read-counted f fits) m);
        links = links;
        counts = z.counts ∙ v.counts;
        types = ap (take (size m.table * type_size)) z.types ∙ v.types;
      }

      pub run-taken : r.refusal ≡ 0 → RunsOut (run_handed (raw_flat f) k ws) 0 (lent_run f old served) (lent_run g new r.served)
      unfolding run_handed
      run-taken h = subst (λ x. RunsOut x 0 (lent_run f old served) (lent_run g new r.served)) (same fits) (go (system_accepted (raw_state (state_from f))) w)
        where
          go : (b : Bool) → Runs (state_from f) old new (from b (system_of (raw_state (state_from f)))) r
              → RunsOut (from b (system_of (raw_state (state_from f)))) 0 (lent_run f old served) (lent_run g new r.served)
          go true v = taken_as _ _ v
          go false v = let e : out_of_range ≡ r.refusal = sym (ap (λ (x : Ran). x.refusal) v.0) in absurd (omega (arith, e, h))
