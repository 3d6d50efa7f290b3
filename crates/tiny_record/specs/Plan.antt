-- What the code makes of a tiny sheet's number: which methods, and their records.
use Rattle.std.specs.Prelude.{Bool, true, false, cond, [], ◌∷◌, ℕ, ◌-◌, ◌/◌, ◌%◌, eqb, ltb, replicate}
use Rattle.spec_model.specs.Relations.{bit}
use Rattle.spec_model.specs.Check.{RawMethod, RawType}
use Rattle.table_record.specs.declared.Counts.{Counts}
use Rattle.tiny_record.specs.declared.Plan.{Plan}

abbrev pub bare_raw : ℕ → RawMethod
bare_raw s = record { state = s; count = 0; args = 0 ∷ 0 ∷ 0 ∷ 0 ∷ []; answer = 0 }

-- signature j of the four of P23
abbrev pub signed_raw : ℕ → ℕ → RawMethod
signed_raw s j = record { state = s; count = j / 2; args = 0 ∷ 0 ∷ 0 ∷ 0 ∷ []; answer = j % 2 }

-- choice k of P23
abbrev pub choice_raw : Bool → ℕ → RawMethod
choice_raw own k = cond (eqb k 0) (bare_raw 0) (cond (eqb k 1) (bare_raw 3) (cond own (cond (eqb k 2) (bare_raw 2) (bare_raw 1)) (cond (ltb k 6) (signed_raw 2 (k - 2)) (signed_raw 1 (k - 6)))))

abbrev pub plan_by : Bool → ℕ → ℕ → Plan
plan_by o p q = record { own = o; first = p; second = q }

-- P24; where there is one method the second is the first choice, whose record is that of a method which isn't there (B18)
unfoldable pub plan_of : ℕ → Plan
plan_of i = cond (ltb i 10) (plan_by false i 0) (cond (ltb i 14) (plan_by true (i - 10) 0)
    (cond (ltb i 114) (plan_by false ((i - 14) / 10) ((i - 14) % 10)) (plan_by true ((i - 114) / 4) ((i - 114) % 4))))

abbrev pub plan_raw : Plan → RawType
plan_raw p = record { rep = 0; cat = 0; own = bit p.own; kind = 0; left = 0; right = 0; methods = choice_raw p.own p.first ∷ choice_raw p.own p.second ∷ replicate 14 (bare_raw 0) }

-- the counts of a sheet with so many methods
abbrev pub tiny_counts : ℕ → Counts
tiny_counts m = record { subjects = 1; methods = m; cats = 0; sheet = 1; types = 1 }
