-- What is returned to the one who hands a state in: the number or the result, and the state as records of numbers again. Refused, it is what was handed in, all of it (Q14);
-- accepted, the counted records are determined, and only what lies past a count is open (Q15, E3).
-- The spare bytes of a stored type are no part of these records: a contract over bytes says besides what becomes of them (B19, B22).
use Rattle.std.specs.Prelude.{◌≡◌, cond, [], map, ℕ, suc, ltb, length, get_or}
use Rattle.spec_model.specs.Basics.{Res, refuse, ok, need, from}
use Rattle.spec_model.specs.Table.{Table, size, type_at}
use Rattle.spec_model.specs.Relations.{bit}
use Rattle.spec_model.specs.Crossing.{Place, object, adapter}
use Rattle.spec_model.specs.Requests.{Call, System, Request, Result, Outcome, got, refused, no_cell, serve}
use Rattle.spec_model.specs.Records.{type_record}
use Rattle.spec_model.specs.Check.{RawTable, RawPlace, RawCall, RawSystem, no_raw_type, no_raw_links, no_raw_place, no_raw_call, with_records, first_of, system_of, system_accepted}
use Rattle.spec_model.specs.Refusals.{out_of_range}

-- ---- The records that stand for a place and for a call; those for types and links are in Records.
abbrev pub place_record : Place → RawPlace
place_record (object class owner) = record { code = 0; first = class; second = owner }
place_record (adapter behind type) = record { code = 1; first = behind; second = type }

abbrev pub call_record : Call → RawCall
call_record c = record { caller = c.caller; cell = c.cell; method = c.method; answered = bit c.answered }

-- the state of a loaded sheet
abbrev pub raw_loaded : RawTable → RawSystem
raw_loaded r = record { table = r; cells = 0; places = 0; calls = 0; cell_records = []; place_records = []; call_records = [] }

-- ---- What is counted: the arrays cut to their counts. The links of category k stand at k, so that there is one more of them.
abbrev pub counted_table : RawTable → RawTable
counted_table r = with_records r r.types (first_of (suc r.cats) no_raw_links r.links) (first_of r.types no_raw_type r.records)

unfoldable pub counted : RawSystem → RawSystem
counted r = record {
  table = counted_table r.table;
  cells = r.cells;
  places = r.places;
  calls = r.calls;
  cell_records = first_of r.cells no_cell r.cell_records;
  place_records = first_of r.places no_raw_place r.place_records;
  call_records = first_of r.calls no_raw_call r.call_records;
}

-- ---- What an accepted request leaves of the state r, the model's being s: a type counted before is stored as it was, whatever its record holds where it has no use;
-- a new one as the record that stands for it. The records of places and calls say nothing but what the model's do, so that the old ones are as they were but for `answered`.
abbrev pub stored_table : RawTable → Table → RawTable
stored_table r t = with_records r (size t) (first_of (suc r.cats) no_raw_links r.links)
    (from (size t) 0 (λ i. cond (ltb i r.types) (get_or r.records i no_raw_type) (type_record (type_at t i))))

unfoldable pub stored_from : RawSystem → System → RawSystem
stored_from r s = record {
  table = stored_table r.table s.table;
  cells = length s.cells;
  places = length s.places;
  calls = length s.calls;
  cell_records = s.cells;
  place_records = map place_record s.places;
  call_records = map call_record s.calls;
}

-- ---- A request on a state that is handed in: 2 before all else (Q13).
pub record Served : Type 0 where
  pub outcome : Outcome
  pub state : RawSystem

abbrev pub hand_back : RawSystem → Res (System × Result) → Served
hand_back r (refuse n) = record { outcome = refused n; state = r }
hand_back r (ok x) = record { outcome = got x.1; state = stored_from r x.0 }

unfoldable pub serve_handed : RawSystem → Request → Served
unfolding system_accepted serve stored_from
serve_handed r q = hand_back r (need (system_accepted r) out_of_range λ _. serve (system_of r) q)

-- What a request owes that comes to o and returns r': result, counts and counted records are the definition's; refused, the whole state is the one handed in.
pub record Returns (r : RawSystem) (q : Request) (o : Outcome) (r' : RawSystem) : Type 0 where
  pub outcome : o ≡ (serve_handed r q).outcome
  pub records : counted r' ≡ counted (serve_handed r q).state
  pub untouched : (n : ℕ) → o ≡ refused n → r' ≡ r
