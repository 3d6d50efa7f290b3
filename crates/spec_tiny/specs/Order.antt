-- The order of the tiny sheets (P23, P24), said apart from the list: how many stand in front of one.
use Rattle.std.specs.Prelude.{Bool, cond, List, [], ◌∷◌, ℕ, ◌+◌, ◌*◌}
use Rattle.std.proofs.Math.Option.{Option, none, some}
use Rattle.spec_model.specs.Table.{State, denied, optional, avail, unavail, Method, Table, type_at}

-- `()-`, `()0`, `(0)-`, `(0)0`
abbrev pub signature_rank : List ℕ → Option ℕ → ℕ
signature_rank [] none = 0
signature_rank [] (some a) = 1
signature_rank (x ∷ xs) none = 2
signature_rank (x ∷ xs) (some a) = 3

-- how many signatures a permitted method may have
abbrev pub signature_count : Bool → ℕ
signature_count own = cond own 1 4

-- denied, unavail, avail, optional
abbrev pub state_rank : Bool → State → ℕ
state_rank own denied = 0
state_rank own unavail = 1
state_rank own avail = 2
state_rank own optional = 2 + signature_count own

abbrev pub method_rank : Bool → Method → ℕ
method_rank own m = state_rank own m.state + signature_rank m.args m.answer

-- methods as digits, the first as the highest; a is the number of those before
abbrev pub rank_from : Bool → ℕ → List Method → ℕ
rank_from own a [] = a
rank_from own a (m ∷ ms) = rank_from own (a * (2 + 2 * signature_count own) + method_rank own m) ms

-- how many have fewer methods, or as many and own=no where this has own=yes
abbrev pub before : Bool → List Method → ℕ
before own [] = 0
before own (m ∷ []) = cond own 10 0
before own (m ∷ n ∷ ms) = cond own 114 14

-- the rank of a table, from 0 on
unfoldable pub rank : Table → ℕ
rank t = before (type_at t 0).own (type_at t 0).methods + rank_from (type_at t 0).own 0 (type_at t 0).methods
