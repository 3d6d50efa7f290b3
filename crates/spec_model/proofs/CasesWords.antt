-- Small words for sheets and requests that are written out in cases: one maker for each record, so that a new field of it is named here alone.
use mathlib.Core.Bool.{Bool, true, false}
use mathlib.Core.List.{List, []}
use mathlib.Core.Option.{Option, none, some}
use Prim.Native.Nat.{ℕ}
use lib.IntN.{ℤ, pos}
use lib.ListN.{length}
use Rattle.spec_model.specs.Table.{Rep, ref, Kind, Key, Method, Ty, Table}
use Rattle.spec_model.specs.Crossing.{Place}
use Rattle.spec_model.specs.Requests.{Cell, Call, System, Request, new, move, call, answer}

-- a reference type: of the sheet, of a category, with own, and derived
abbrev pub ref_type : ℕ → Bool → Option Key → List Method → Ty
ref_type cat own key ms = record { rep = ref; cat = cat; own = own; methods = ms; key = key }

abbrev pub type : List Method → Ty
type = ref_type 0 false none

abbrev pub type_in : ℕ → List Method → Ty
type_in cat = ref_type cat false none

abbrev pub owned : List Method → Ty
owned = ref_type 0 true none

abbrev pub number_in : Rep → ℕ → Ty
number_in rep cat = record { rep = rep; cat = cat; own = false; methods = []; key = none }

abbrev pub derived_as : Kind → ℕ → ℕ → List Method → Ty
derived_as d l r = ref_type 0 false (some (record { kind = d; left = l; right = r }))

-- a table of sheet types, with categories and without
abbrev pub sheet_in : List (List ℕ) → ℕ → ℕ → List Ty → Table
sheet_in cats subjects methods ts = record { subjects = subjects; methods = methods; cats = cats; sheet = length ts; types = ts }

abbrev pub sheet_of : ℕ → ℕ → List Ty → Table
sheet_of subjects methods ts = sheet_in [] subjects methods ts

abbrev pub cell : ℕ → ℕ → ℕ → Cell
cell holder type place = record { holder = holder; type = type; place = place }

abbrev pub state_from : Table → List Cell → List Place → List Call → System
state_from t cs ps ds = record { table = t; cells = cs; places = ps; calls = ds }

-- requests with numbers that are not negative
abbrev pub new' : ℕ → ℕ → ℕ → Request
new' a b c = new (pos a) (pos b) (pos c)

abbrev pub move' : ℕ → ℕ → ℕ → ℕ → Request
move' a b c d = move (pos a) (pos b) (pos c) (pos d)

abbrev pub call' : ℕ → ℕ → ℕ → List ℤ → Request
call' a b c vs = call (pos a) (pos b) (pos c) vs

abbrev pub answer' : ℕ → ℕ → Option ℤ → Request
answer' a b v = answer (pos a) (pos b) v
