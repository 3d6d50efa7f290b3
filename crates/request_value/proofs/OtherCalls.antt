-- A state with other calls: a call adds one (C18), an answer marks one (A11).
use mathlib.Core.Path.{◌≡◌, refl, sym, ap, ◌∙◌}
use Prim.Native.Nat.{ℕ, ◌≤◌, ◌<◌}
use lib.ListN.{get_or}
use Rattle.spec_model.specs.Basics.{ok}
use Rattle.std.specs.Prelude.{Ok}
use Rattle.spec_model.specs.Requests.{System, no_call, with_calls, max_calls_each, made_by}
use Rattle.state_record.specs.Counted.{Calls}
use Rattle.state_record.specs.Whole.{Whole as State}
use Rattle.state_record.specs.View.{calls_in, system_in}
use Rattle.state_record.specs.Sound.{CallIn, Sound}
use Rattle.state_record.proofs.Laws.{system-is}
use Rattle.request_common.specs.declared.Answer.{Answer}
use Rattle.request_common.specs.Served.{result_of, Step}
use Rattle.request_common.proofs.Laws.{stored-self}

abbrev pub calls_left : State → Calls → State
calls_left s calls = record { types = s.types; links = s.links; counts = s.counts; cells = s.cells; places = s.places; calls = calls }

module _ (s : State) (h : Sound s) (calls : Calls) (each : (j : ℕ) → j < calls.count → CallIn s (get_or (calls_in calls) j no_call))
    (few : (k : ℕ) → made_by k (calls_in calls) ≤ max_calls_each) where
  pub calls-mean : system_in (calls_left s calls) ≡ with_calls (system_in s) (calls_in calls)
  calls-mean = system-is (calls_left s calls) ∙ ap (λ (x : System). with_calls x (calls_in calls)) (sym (system-is s))

  pub calls-step : (a : Answer) → Step s (ok (with_calls (system_in s) (calls_in calls), result_of a)) (record { outcome = Ok a; state = calls_left s calls })
  calls-step a = record {
    is = ap (λ (y : System). ok (y, result_of a)) calls-mean;
    stays = λ d y. cc;
    stored = let y = stored-self s h in record { links = refl; counts = refl; grew = y.grew; kept = y.kept };
    sound = record {
      long = h.long;
      checked = h.checked;
      descending = h.descending;
      typed = h.typed;
      cell_count = h.cell_count;
      cells = λ i l. let y = h.cells i l in record { type = y.type; place = y.place };
      calls = record { each = λ j l. let y = each j l in record { caller = y.caller; cell = y.cell; method = y.method }; few = few };
    };
  }
