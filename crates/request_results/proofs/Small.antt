-- The two numbers of a result are small (crate law_handed): a cell is one of 256 and its place one of 128; a call is one of 512, and at most 128 adapters stand behind its cell.
use mathlib.Core.Path.{◌≡◌, refl, ap, sym, subst}
use mathlib.Core.Logic.{inl, inr}
use mathlib.Core.Bool.{Bool, true, false, So}
use Prim.Native.Nat.{ℕ, ◌<◌}
use native.Mathlib.Omega.{arith}
use Rattle.spec_model.specs.Basics.{Res, refuse, ok, need}
use Rattle.spec_model.specs.Requests.{System, Request, Result, pair, number, nothing, Outcome as Outcomeᵐ, got, refused, outcome, serve, after}
use Rattle.spec_model.specs.Check.{system_accepted, system_fits, system_of}
use Rattle.spec_model.specs.Refusals.{out_of_range}
use Rattle.law_model.proofs.Steps.{IfOk}
use Rattle.law_model.proofs.Checked.{Bounded, bounded-calls, fits-bounded, checked-stays}
use Rattle.law_model.proofs.Returned.{accepted-codes}
use Rattle.law_handed.proofs.Small.{Named, small-serve}
use Rattle.law_handed.proofs.Small.{Small as SmallWith}
use Rattle.state_record.specs.Whole.{Whole as State}
use Rattle.state_record.specs.View.{raw_state, system_in}
use Rattle.std.specs.Prelude.{Ok, Err}
use Rattle.std.specs.Prelude.{Result as Either}
use Rattle.base_numbers.specs.declared.refusal.Refusal.{Refusal}
use Rattle.request_common.specs.declared.Answer.{Answer}
use Rattle.request_common.specs.declared.Answer.TheVariants.{Pair, Number, Nothing}
use Rattle.request_common.specs.Served.{Done as Served}
use Rattle.request_common.specs.Served.{outcome_of}
use Rattle.request_serve.specs.Serves.{defined, Serves}
use Rattle.request_serve.proofs.Laws.{serves-answer}
use Rattle.request_results.specs.Stored.{Small}

abbrev SmallResult : Result → Type 0
SmallResult (pair a b) = (a < 65536) × (b < 65536)
SmallResult (number v) = Unit
SmallResult nothing = Unit

serve-small : (s : System) → So (system_fits s) → (q : Request) → IfOk (serve s q) (λ x. SmallResult x.1)
serve-small s h q = go (serve s q) (small-serve s q) (checked-stays s h q)
  where
    small : (s' : System) → Bounded s' → (x : Result) → Named s s' x → SmallResult x
    small s' k (pair a b) (inl w) = let p = (k.cells a w.0).place in (omega (arith, w.0, k.cell_count), omega (arith, w.1, p, k.places.count))
    small s' k (pair a b) (inr w) = let old = fits-bounded s h in (omega (arith, w.0, bounded-calls s old), omega (arith, w.1, old.places.count))
    small s' k (number v) w = tt
    small s' k nothing w = tt

    go : (m : Res (System × Result)) → SmallWith (λ (x : System × Result). Named s x.0 x.1) m → Bounded (after s m) → IfOk m (λ x. SmallResult x.1)
    go (refuse e) n k = tt
    go (ok x) n k = small x.0 k x.1 n

-- the answer that is given is that of the request
small_of : (a : Either Answer Refusal) (m : Res (System × Result)) → outcome_of a ≡ outcome m → IfOk m (λ x. SmallResult x.1) → Small a
small_of (Err e) m p h = tt
small_of (Ok (Number v)) m p h = tt
small_of (Ok Nothing) m p h = tt
small_of (Ok (Pair a b)) (refuse e) p h = let z : ◌≡◌ {A = ℕ} 0 1 = cc in absurd (omega arith)
small_of (Ok (Pair a b)) (ok x) p h = subst SmallResult (sym (ap result p)) h
  where
    result : Outcomeᵐ → Result
    result (got x) = x
    result (refused e) = nothing

pub served-small : (s : State) (q : Request) (r : Served) → Serves s q r → Small r.outcome
unfolding system_in
served-small s q r w = small_of r.outcome (defined s q) (serves-answer s q r w) (go (system_accepted (raw_state s)) refl)
  where
    go : (b : Bool) → system_accepted (raw_state s) ≡ b → IfOk {A = System × Result} (need b out_of_range λ _. serve (system_in s) q) (λ x. SmallResult x.1)
    go true e = serve-small (system_of (raw_state s)) (accepted-codes (raw_state s) e).2 q
    go false e = tt
