-- What the C functions on a state hand out: the number returned, the values, and all that was lent. All of this is believed; what only helps proofs is in Stored.
use Rattle.std.specs.Prelude.{◌≡◌, ℕ, ◌*◌, ℤ, pos, take, drop}
use mathlib.Core.List.{List, [], ◌∷◌, ◌++◌, map, flatten}
use Rattle.spec_model.specs.Basics.{Res, need}
use Rattle.spec_model.specs.Table.{size}
use Rattle.spec_model.specs.Requests.{System, Request, Result, pair, number, nothing, Outcome, got, refused, serve, after}
use Rattle.spec_model.specs.Check.{RawSystem, system_of, system_accepted}
use Rattle.spec_model.specs.Handed.{serve_handed, Returns}
use Rattle.spec_model.specs.Refusals.{out_of_range}
use Rattle.table_record.specs.Layout.{with_count, type_size}
use Rattle.table_record.specs.Records.{bytes_of}
use Rattle.state_bytes.specs.Flat.{Flat, counts_in, raw_flat}

-- what a caller lends to a request: the state, and where the values go
pub record LentState : Type 0 where
  pub state : Flat
  pub values : List ℤ

abbrev pub lent_state : Flat → List ℤ → LentState
lent_state f v = record { state = f; values = v }

-- the number returned: 0, or the refusal's (E12)
abbrev pub outcome_number : Outcome → ℕ
outcome_number (refused n) = n
outcome_number (got x) = 0

-- how many values there are, and the values; 0 where there is none
abbrev pub result_values : Result → List ℤ
result_values (pair a b) = pos 2 ∷ pos a ∷ pos b ∷ []
result_values (number v) = pos 1 ∷ v ∷ pos 0 ∷ []
result_values nothing = pos 0 ∷ pos 0 ∷ pos 0 ∷ []

abbrev pub outcome_values : List ℤ → Outcome → List ℤ
outcome_values old (refused n) = old
outcome_values old (got x) = result_values x

-- what the definition makes of a request on a state handed in, and the state that it leaves
abbrev pub defined : RawSystem → Request → Res (System × Result)
defined r q = need (system_accepted r) out_of_range λ _. serve (system_of r) q

abbrev pub leaves : RawSystem → Request → System
leaves r q = after (system_of r) (defined r q)

abbrev pub outcome_on : Flat → Request → Outcome
outcome_on f q = (serve_handed (raw_flat f) q).outcome

-- What a request owes that returns n, of what was lent (old and new), for any bytes and any numbers.
pub record Handed (q : Request) (n : ℕ) (old new : LentState) : Type 0 where
  -- number and values are the definition's
  pub number : n ≡ outcome_number (outcome_on old.state q)
  pub values : new.values ≡ outcome_values old.values (outcome_on old.state q)
  -- what is counted of table, cells, places and calls is the definition's: how many, and each record (Q14, Q15)
  pub returns : Returns (raw_flat old.state) q (outcome_on old.state q) (raw_flat new.state)
  -- refused, 2 included, all that was lent is as it was, every byte (Q14)
  pub refused : (e : ℕ) → outcome_on old.state q ≡ refused e → new ≡ old
  -- the links stay, and every count of the table but that of its types
  pub links : new.state.links ≡ old.state.links
  pub counts : counts_in new.state.counts ≡ with_count (counts_in old.state.counts) (size (leaves (raw_flat old.state) q).table)
  -- Every counted byte of the types: those that there were, and behind them the record that stands for each new one (B22).
  pub types : take (size (leaves (raw_flat old.state) q).table * type_size) new.state.types
      ≡ take ((counts_in old.state.counts).types * type_size) old.state.types ++ flatten
      (map bytes_of (drop (counts_in old.state.counts).types (leaves (raw_flat old.state) q).table.types))
