-- The record that stands for a type of the model, and the one for a category's broader ones: what they have no use for is 0, so that a stored record is determined.
-- A sheet type has 0 for its key; a number type has no own and no methods; a method that isn't permitted has no signature; unused slots are 0.
use Rattle.std.specs.Prelude.{List, ℕ, suc, length, get_or}
use Rattle.std.proofs.Math.Option.{Option, none, some}
use Rattle.spec_model.specs.Basics.{from}
use Rattle.spec_model.specs.Table.{State, denied, optional, avail, unavail, Rep, ref, w32, w64, Kind, sub, sup, closed, Key, Method, Ty, no_method, max_methods}
use Rattle.spec_model.specs.Relations.{bit}
use Rattle.spec_model.specs.Check.{RawMethod, RawType, RawLinks}

abbrev pub state_code : State → ℕ
state_code denied = 0
state_code optional = 1
state_code avail = 2
state_code unavail = 3

abbrev pub rep_code : Rep → ℕ
rep_code ref = 0
rep_code w32 = 1
rep_code w64 = 2

abbrev pub kind_code : Kind → ℕ
kind_code sub = 0
kind_code sup = 1
kind_code closed = 2

abbrev pub answer_code : Option ℕ → ℕ
answer_code none = 0
answer_code (some a) = suc a

-- a sheet type has no key: kind, left and right are 0
abbrev pub key_codes : Option Key → ℕ × ℕ × ℕ
key_codes none = (0, 0, 0)
key_codes (some k) = (kind_code k.kind, k.left, k.right)

-- four slots for arguments in every record
abbrev pub argument_slots : ℕ
argument_slots = 4

abbrev pub method_record : Method → RawMethod
method_record m = record {
  state = state_code m.state;
  count = length m.args;
  args = from argument_slots 0 (λ j. get_or m.args j 0);
  answer = answer_code m.answer;
}

-- 16 methods in every record
abbrev pub type_record : Ty → RawType
type_record x = record {
  rep = rep_code x.rep;
  cat = x.cat;
  own = bit x.own;
  kind = (key_codes x.key).0;
  left = (key_codes x.key).1;
  right = (key_codes x.key).2;
  methods = from max_methods 0 (λ j. method_record (get_or x.methods j no_method));
}

abbrev pub links_record : List ℕ → RawLinks
links_record xs = record { count = length xs; first = get_or xs 0 0; second = get_or xs 1 0 }
