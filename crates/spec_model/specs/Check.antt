-- Rules H: what somebody else gives as a table or a state, what it means, and the check that it gets before all else (2).
-- What is handed in is a record of numbers: counts, and codes in arrays. Its meaning and the check are both total, so that any numbers will do.
use Rattle.std.specs.Prelude.{Bool, ◌&&◌, ◌||◌, cond, List, [], ◌∷◌, ℕ, zero, suc, eqb, ltb, leb, ℤ, length, get_or, take}
use Rattle.std.proofs.Math.Option.{Option, none, some}
use Rattle.spec_model.specs.Basics.{Res, need, ◌⇒◌, all, every, from}
use Rattle.spec_model.specs.Table.{State, denied, optional, avail, unavail, Rep, ref, w32, w64, Kind, sub, sup, closed, Method, Ty, Table, size, type_at, is_ref, permit, is_class}
use Rattle.spec_model.specs.Table.{max_arguments, between, table_fits, signed, max_broader}
use Rattle.spec_model.specs.Relations.{Comparison, compare}
use Rattle.spec_model.specs.Crossing.{Place, object, adapter, max_places}
use Rattle.spec_model.specs.Requests.{Cell, Call, System, max_cells, max_calls_each, max_calls, made_by, no_cell}
use Rattle.spec_model.specs.Refusals.{out_of_range}

-- A state: every number names something, what cells, objects and adapters must be besides, and nobody made too many calls (H9 to H11, H17).
abbrev pub cell_fits : System → Cell → Bool
cell_fits s c = ltb c.holder s.table.subjects && (ltb c.place (length s.places) && (ltb c.type s.table.sheet && is_ref (type_at s.table c.type).rep))

abbrev pub place_fits : System → ℕ → Place → Bool
place_fits s p (object c o) = ltb o s.table.subjects && (ltb c s.table.sheet && is_class (type_at s.table c))
place_fits s p (adapter b c) = ltb b p && (ltb c (size s.table) && is_ref (type_at s.table c).rep)

abbrev pub call_fits : System → Call → Bool
call_fits s c = ltb c.caller s.table.subjects && (ltb c.cell (length s.cells) && ltb c.method s.table.methods)

abbrev pub callers_fit : ℕ → List Call → Bool
callers_fit subjects calls = all (λ k. leb (made_by k calls) max_calls_each) (from subjects 0 (λ k. k))

unfoldable pub system_fits : System → Bool
unfolding table_fits
system_fits s = table_fits s.table && (leb (length s.cells) max_cells && (leb (length s.places) max_places && (leb (length s.calls) max_calls
    && (all (cell_fits s) s.cells && (every (place_fits s) 0 s.places && (all (call_fits s) s.calls && callers_fit s.table.subjects s.calls))))))

-- The records as they are handed in. A method's `answer` is 0 for none, else the type's number plus 1.
pub record RawMethod : Type 0 where
  pub state : ℕ
  pub count : ℕ
  pub args : List ℕ
  pub answer : ℕ

pub record RawType : Type 0 where
  pub rep : ℕ
  pub cat : ℕ
  pub own : ℕ
  pub kind : ℕ
  pub left : ℕ
  pub right : ℕ
  pub methods : List RawMethod

-- a category's broader ones: how many, and their numbers
pub record RawLinks : Type 0 where
  pub count : ℕ
  pub first : ℕ
  pub second : ℕ

pub record RawTable : Type 0 where
  pub subjects : ℕ
  pub methods : ℕ
  pub cats : ℕ
  pub sheet : ℕ
  pub types : ℕ
  pub links : List RawLinks
  pub records : List RawType

-- the table with so many types, and these records
abbrev pub with_records : RawTable → ℕ → List RawLinks → List RawType → RawTable
with_records r n ls xs = record { subjects = r.subjects; methods = r.methods; cats = r.cats; sheet = r.sheet; types = n; links = ls; records = xs }

-- A place: code 0 is an object (class, owner), 1 an adapter (the place behind, closed type).
pub record RawPlace : Type 0 where
  pub code : ℕ
  pub first : ℕ
  pub second : ℕ

-- A call: `answered` is 0 for no, 1 for yes.
pub record RawCall : Type 0 where
  pub caller : ℕ
  pub cell : ℕ
  pub method : ℕ
  pub answered : ℕ

-- A cell has no codes: its record is the model's.
pub record RawSystem : Type 0 where
  pub table : RawTable
  pub cells : ℕ
  pub places : ℕ
  pub calls : ℕ
  pub cell_records : List Cell
  pub place_records : List RawPlace
  pub call_records : List RawCall

-- What codes mean. A code that names nothing is read as one that does; the check refuses it.
abbrev pub state_of : ℕ → State
state_of zero = denied
state_of (suc zero) = optional
state_of (suc (suc zero)) = avail
state_of (suc (suc (suc n))) = unavail

abbrev pub rep_of : ℕ → Rep
rep_of zero = ref
rep_of (suc zero) = w32
rep_of (suc (suc n)) = w64

abbrev pub kind_of : ℕ → Kind
kind_of zero = sub
kind_of (suc zero) = sup
kind_of (suc (suc n)) = closed

abbrev pub answer_of : ℕ → Option ℕ
answer_of zero = none
answer_of (suc n) = some n

abbrev pub no_raw_method : RawMethod
no_raw_method = record { state = 0; count = 0; args = []; answer = 0 }

abbrev pub no_raw_type : RawType
no_raw_type = record { rep = 0; cat = 0; own = 0; kind = 0; left = 0; right = 0; methods = [] }

abbrev pub no_raw_links : RawLinks
no_raw_links = record { count = 0; first = 0; second = 0 }

abbrev pub no_raw_place : RawPlace
no_raw_place = record { code = 0; first = 0; second = 0 }

abbrev pub no_raw_call : RawCall
no_raw_call = record { caller = 0; cell = 0; method = 0; answered = 0 }

-- a method that isn't permitted has no signature, whatever its record holds
abbrev pub method_of : RawMethod → Method
method_of m = let s = state_of m.state in signed s (cond (permit s) (take m.count m.args) []) (cond (permit s) (answer_of m.answer) none)

-- a number type has no methods and own=no, whatever its record holds; only the types after the sheet's have a key
abbrev pub type_of : ℕ → ℕ → ℕ → RawType → Ty
type_of methods sheet i x = record {
  rep = rep_of x.rep;
  cat = x.cat;
  own = is_ref (rep_of x.rep) && eqb x.own 1;
  methods = cond (is_ref (rep_of x.rep)) (from methods 0 (λ j. method_of (get_or x.methods j no_raw_method))) [];
  key = cond (ltb i sheet) none (some (record { kind = kind_of x.kind; left = x.left; right = x.right }));
}

abbrev pub links_of : RawLinks → List ℕ
links_of x = cond (eqb x.count 2) (x.first ∷ x.second ∷ []) (x.first ∷ [])

abbrev pub types_of : RawTable → List Ty
types_of r = from r.types 0 (λ i. type_of r.methods r.sheet i (get_or r.records i no_raw_type))

abbrev pub place_by : ℕ → ℕ → ℕ → Place
place_by zero class owner = object class owner
place_by (suc n) behind type = adapter behind type

abbrev pub place_of : RawPlace → Place
place_of p = place_by p.code p.first p.second

abbrev pub call_of : RawCall → Call
call_of c = record { caller = c.caller; cell = c.cell; method = c.method; answered = eqb c.answered 1 }

-- the first n records of an array, those that are counted
abbrev pub first_of : {A : Type 0} → ℕ → A → List A → List A
first_of n d xs = from n 0 (λ k. get_or xs k d)

-- the counted records; their lists are as long as the counts say
unfoldable pub table_of : RawTable → Table
table_of r = record { subjects = r.subjects; methods = r.methods; cats = from r.cats 1 (λ k. links_of (get_or r.links k no_raw_links)); sheet = r.sheet; types = types_of r }

unfoldable pub system_of : RawSystem → System
unfolding table_of
system_of r = record {
  table = table_of r.table;
  cells = from r.cells 0 (λ k. get_or r.cell_records k no_cell);
  places = from r.places 0 (λ k. place_of (get_or r.place_records k no_raw_place));
  calls = from r.calls 0 (λ k. call_of (get_or r.call_records k no_raw_call));
}

-- every code that counts names something (H2, H3)
abbrev pub raw_method_fits : RawMethod → Bool
raw_method_fits m = ltb m.state 4 && (permit (state_of m.state) ⇒ leb m.count max_arguments)

abbrev pub raw_type_fits : ℕ → ℕ → ℕ → RawType → Bool
raw_type_fits methods sheet i x = ltb x.rep 3 && ((is_ref (rep_of x.rep) ⇒ (ltb x.own 2 && all raw_method_fits (from methods 0 (λ j. get_or x.methods j no_raw_method))))
    && (ltb i sheet || ltb x.kind 3))

unfoldable pub codes_fit : RawTable → Bool
codes_fit r = all (λ x. between 1 max_broader x.count) (from r.cats 1 (λ k. get_or r.links k no_raw_links))
    && every (raw_type_fits r.methods r.sheet) 0 (from r.types 0 (λ i. get_or r.records i no_raw_type))

unfoldable pub table_accepted : RawTable → Bool
unfolding codes_fit table_fits table_of
table_accepted r = codes_fit r && table_fits (table_of r)

-- the same of places and calls: object or adapter, answered or not
unfoldable pub state_codes_fit : RawSystem → Bool
state_codes_fit r = all (λ p. ltb p.code 2) (first_of r.places no_raw_place r.place_records) && all (λ c. ltb c.answered 2) (first_of r.calls no_raw_call r.call_records)

unfoldable pub system_accepted : RawSystem → Bool
unfolding codes_fit state_codes_fit system_fits system_of
system_accepted r = codes_fit r.table && (state_codes_fit r && system_fits (system_of r))

-- What Compare comes to on a table that is handed in: 2 before all else. (Requests: Handed.)
unfoldable pub compare_handed : RawTable → ℤ → ℤ → Res Comparison
unfolding table_accepted compare
compare_handed r a b = need (table_accepted r) out_of_range λ _. compare (table_of r) a b
