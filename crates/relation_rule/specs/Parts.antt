-- The rule of a pair by its parts (Relations), as the code asks for them one after another.
use Rattle.std.specs.Prelude.{Bool, true, false, ◌&&◌, ◌||◌, cond, List, [], ◌∷◌, ℕ, eqb, get_or}
use Rattle.spec_model.specs.Basics.{◌⇒◌, any, from}
use Rattle.spec_model.specs.Table.{Rep, Table}
use Rattle.spec_model.specs.Relations.{Relation, subtype, conforms, strict, loose, free, same_rep, same_sort, cat_le}
use Rattle.spec_model.specs.Check.{rep_of}
use Rattle.table_record.specs.declared.Counts.{Counts}
use Rattle.table_record.specs.declared.Head.{Head}
use Rattle.table_record.specs.Store.{raw_of, broader_of, own_of}

-- Whether a relation asks for the same representation; the others ask that both are ref or both numbers
abbrev pub exact : Relation → Bool
exact subtype = true
exact conforms = true
exact strict = false
exact loose = false
exact free = false

-- whether it asks that the category of T is at or below that of S
abbrev pub ordered : Relation → Bool
ordered subtype = true
ordered conforms = true
ordered strict = true
ordered loose = false
ordered free = false

-- whether it asks that T is own only if S is
abbrev pub owned : Relation → Bool
owned subtype = true
owned conforms = false
owned strict = false
owned loose = false
owned free = false

abbrev pub rep_rule : Relation → Rep → Rep → Bool
rep_rule k a b = cond (exact k) (same_rep a b) (same_sort a b)

-- the own flag of a type by its head: methods don't count
abbrev pub head_owns : Head → Bool
head_owns x = own_of (raw_of (record { head = x; methods = [] }))

-- what a relation asks of the two heads, in a table of which only the categories matter here
unfoldable pub outer_heads : Relation → Table → Head → Head → Bool
unfolding cat_le
outer_heads k t x y = rep_rule k (rep_of x.rep) (rep_of y.rep) && ((ordered k ⇒ cat_le t x.cat y.cat) && (owned k ⇒ (head_owns x ⇒ head_owns y)))

-- the broader categories of every category; category 0 names none. They are `broader` of the table (proofs/Categories).
unfoldable pub broader_in : List ℕ → Counts → List (List ℕ)
broader_in l c = [] ∷ from c.cats 1 (broader_of l)

-- Category a ≤ x by the links of x, from what is known of the categories below x.
unfoldable pub cat_next : List (List ℕ) → List Bool → ℕ → ℕ → Bool
cat_next links done a x = eqb a 0 || (eqb a x || any (λ k. get_or done k false) (get_or links x []))
