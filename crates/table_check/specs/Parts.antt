-- The check for 2 by its parts, over the records as they are handed in: what the functions of this crate test, after counts and links (table_check_links).
-- That the parts come to the model's `table_accepted` is proved (proofs/Laws), so nothing here has to be believed.
use Rattle.std.specs.Prelude.{Bool, ◌&&◌, ◌||◌, cond, List, ℕ, ltb, leb, get_or, take}
use Rattle.spec_model.specs.Basics.{◌⇒◌, all, unless_missing}
use Rattle.spec_model.specs.Table.{max_arguments, is_ref, permit}
use Rattle.spec_model.specs.Check.{RawMethod, RawType, no_raw_type, no_raw_method, state_of, rep_of, answer_of}
use Rattle.table_record.specs.declared.Counts.{Counts}
use Rattle.table_record.specs.declared.Head.{Head}
use Rattle.table_record.specs.Store.{head_of, may_stand_as}
use Rattle.table_check_links.specs.Parts.{each_from}

-- Type a may stand in a signature whose types are the first n.
abbrev pub stands_as : List RawType → ℕ → ℕ → Bool
stands_as rs n a = ltb a n && may_stand_as (get_or rs a no_raw_type)

abbrev pub args_accepted : List RawType → ℕ → RawMethod → Bool
args_accepted rs n m = all (stands_as rs n) (take m.count m.args)

abbrev pub signature_accepted : List RawType → ℕ → RawMethod → Bool
signature_accepted rs n m = leb m.count max_arguments && (args_accepted rs n m && unless_missing (answer_of m.answer) (stands_as rs n))

abbrev pub method_accepted : List RawType → ℕ → RawMethod → Bool
method_accepted rs n m = ltb m.state 4 && (permit (state_of m.state) ⇒ signature_accepted rs n m)

-- Only a derived type has a kind, a left and a right (T17).
abbrev pub key_accepted : Counts → ℕ → Head → Bool
key_accepted c i h = ltb i c.sheet || (ltb h.kind 3 && (ltb h.left c.types && ltb h.right c.types))

abbrev pub head_accepted : Counts → ℕ → Head → Bool
head_accepted c i h = ltb h.rep 3 && (leb h.cat c.cats && key_accepted c i h)

-- the types that may stand in the signatures of type i are the first so many (T15)
abbrev pub bound_of : Counts → ℕ → ℕ
bound_of c i = cond (ltb i c.sheet) c.sheet c.types

unfoldable pub methods_accepted : List RawType → ℕ → ℕ → RawType → Bool
unfolding each_from
methods_accepted rs n ms x = each_from ms 0 (λ j. method_accepted rs n (get_or x.methods j no_raw_method))

abbrev pub type_accepted : List RawType → Counts → ℕ → RawType → Bool
type_accepted rs c i x = head_accepted c i (head_of x) && (is_ref (rep_of x.rep) ⇒ (ltb x.own 2 && methods_accepted rs (bound_of c i) c.methods x))

unfoldable pub types_accepted : List RawType → Counts → Bool
unfolding each_from methods_accepted
types_accepted rs c = each_from c.types 0 (λ i. type_accepted rs c i (get_or rs i no_raw_type))
