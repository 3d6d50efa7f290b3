-- What a run stores and leaves.
use Rattle.std.specs.Prelude.{◌≡◌, Ok, Err, ℕ, ◌*◌, ◌/◌, ℤ, length, take, drop}
use Rattle.std.specs.Prelude.{Result as Either}
use mathlib.Core.List.{List, [], ◌∷◌, ◌++◌, map, flatten}
use Rattle.std.proofs.lemmas.List.Edits.{sets}
use Rattle.spec_model.specs.Basics.{Res, refuse, ok}
use Rattle.spec_model.specs.Table.{size}
use Rattle.spec_model.specs.Requests.{System, Outcome, got, refused}
use Rattle.spec_model.specs.Handed.{counted, stored_from}
use Rattle.base_numbers.specs.declared.refusal.Refusal.{Refusal}
use Rattle.base_numbers.specs.Refusal.{number_of}
use Rattle.table_record.specs.Layout.{with_count, type_size}
use Rattle.table_record.specs.Records.{bytes_of}
use Rattle.state_record.specs.declared.State.{State as Rest}
use Rattle.state_record.specs.Whole.{Whole as State}
use Rattle.state_record.specs.Whole.{whole}
use Rattle.state_record.specs.Meaning.{raw_state}
use Rattle.request_words.specs.Words.{outcome_size, outcome_words}

-- how a run ended: with the number of its refusal or 0, how many requests were served, and the whole state that is left
pub record Over : Type 0 where
  pub refusal : ℕ
  pub served : ℕ
  pub state : State

abbrev pub over : List ℕ → Rest → Either ℕ Refusal → Over
over b s (Ok n) = record { refusal = 0; served = n; state = whole b s }
over b s (Err e) = record { refusal = number_of e; served = 0; state = whole b s }

-- how many requests there is room for (U9)
abbrev pub room : List ℤ → ℕ
room answers = length answers / outcome_size

-- no request of a run was taken
abbrev pub AllRefused : List Outcome → Type 0
AllRefused [] = Unit
AllRefused (refused e ∷ os) = AllRefused os
AllRefused (got x ∷ os) = ⊥

-- A run that was taken, of which `os` and `m` are what the model's run comes to (`run_asked`).
pub record RanAs (s : State) (old new : List ℤ) (os : List Outcome) (m : System) (r : Over) : Type 0 where
  pub refusal : r.refusal ≡ 0
  pub served : r.served ≡ length os
  -- the outcomes stand from the front on; what is behind them is as it was (U8, U9)
  pub answers : new ≡ sets old 0 (outcome_words os)
  -- what is counted of table, cells, places and calls is the model's: how many, and each record (U10, Q15)
  pub records : counted (raw_state r.state) ≡ counted (stored_from (raw_state s) m)
  -- where every request is refused, the state is as it was, every byte of it (Q14)
  pub untouched : AllRefused os → r.state ≡ s
  -- Every byte of the links stays, and every count of the table but that of its types.
  pub links : r.state.links ≡ s.links
  pub counts : r.state.counts ≡ with_count s.counts (size m.table)
  -- Every counted byte of the types: those that there were, and behind them the record that stands for each new one (B22).
  pub types : take (size m.table * type_size) r.state.types ≡ take (s.counts.types * type_size) s.types ++ flatten (map bytes_of (drop s.counts.types m.table.types))

-- Where the state handed in is not taken, nothing changes (Q14).
abbrev pub Runs : State → List ℤ → List ℤ → Res (List Outcome × System) → Over → Type 0
Runs s old new (refuse e) r = (r ≡ record { refusal = e; served = 0; state = s }) × (new ≡ old)
Runs s old new (ok x) r = RanAs s old new x.0 x.1 r
