-- What an entry point promises of every state and all numbers: result, counts and counted records are the definition's.
use Rattle.std.specs.Prelude.{◌≡◌, cond, Err, ◌*◌, take, drop}
use mathlib.Core.List.{◌++◌, map, flatten}
use Rattle.std.proofs.Math.Option.{Option, none, some}
use Rattle.spec_model.specs.Basics.{Res, need}
use Rattle.spec_model.specs.Table.{size}
use Rattle.spec_model.specs.Requests.{System, Request, Result, serve, after}
use Rattle.spec_model.specs.Check.{system_accepted}
use Rattle.spec_model.specs.Handed.{Returns}
use Rattle.spec_model.specs.Refusals.{out_of_range}
use Rattle.base_numbers.specs.declared.refusal.Refusal.{Refusal}
use Rattle.base_numbers.specs.declared.refusal.Refusal.TheVariants.{Form, OutOfRange}
use Rattle.table_record.specs.Layout.{with_count, type_size}
use Rattle.table_record.specs.Records.{bytes_of}
use Rattle.state_record.specs.Whole.{Whole as State}
use Rattle.state_record.specs.Meaning.{raw_state, system_in}
use Rattle.request_common.specs.Outcome.{Done as Served}
use Rattle.request_common.specs.Outcome.{outcome_of, refusal_of}

-- What the definition makes of the request: 2 before all else (Q13). And the state that it leaves: the one handed in where it refuses.
abbrev pub defined : State → Request → Res (System × Result)
defined s q = need (system_accepted (raw_state s)) out_of_range λ _. serve (system_in s) q

abbrev pub leaves : State → Request → System
leaves s q = after (system_in s) (defined s q)

-- It follows (proofs/Laws) that the state left means the definition's (`serves-means`), and that every record counted before is stored as it was but for the flag of an
-- answered call (`serves-before`, Q15).
pub record Serves (s : State) (q : Request) (r : Served) : Type 0 where
  -- the outcome is the definition's, and so is what is counted of table, cells, places and calls: how many, and each record (Q14, Q15)
  pub returns : Returns (raw_state s) q (outcome_of r.outcome) (raw_state r.state)
  -- refused, 2 included, the state that comes back is the one handed in, every byte of it (Q14)
  pub stays : (e : Refusal) → r.outcome ≡ Err e → r.state ≡ s
  -- Every byte of the links stays, and every count of the table but that of its types.
  pub links : r.state.links ≡ s.links
  pub counts : r.state.counts ≡ with_count s.counts (size (leaves s q).table)
  -- Every counted byte of the types: those that there were, and behind them the record that stands for each new one (B22).
  pub types : take (size (leaves s q).table * type_size) r.state.types ≡ take (s.counts.types * type_size) s.types ++ flatten (map bytes_of (drop s.counts.types (leaves s q).table.types))

-- The same of a code and its operands, which may name no request: that is refused with 1, behind 2, and the state that comes back is the one handed in, every byte of it (U6).
abbrev pub ServesAsked : State → Option Request → Served → Type 0
ServesAsked s none r = r ≡ refusal_of s (cond (system_accepted (raw_state s)) Form OutOfRange)
ServesAsked s (some q) r = Serves s q r
