-- A square of yes and no says a state rule (R8 to R11) if it does at every two states, which is computed.
use mathlib.Core.Path.{◌≡◌}
use mathlib.Core.Bool.{Bool, false, So, beq}
use mathlib.Core.List.{List, []}
use Prim.Native.Nat.{ℕ, ◌<◌}
use lib.ListN.{get_or}
use Rattle.spec_model.specs.Relations.{Relation, state_rule}
use Rattle.spec_model.specs.Check.{state_of}
use Rattle.spec_model.specs.Records.{state_code}
use Rattle.spec_model.proofs.Tests.{beq-so}
use Rattle.spec_model.proofs.States.{each_b, each₂}
use Rattle.relation_states.specs.Squares.{Says}
use Rattle.table_record.proofs.Codes.{state-back}

-- one test over every two states, by their codes
pub says : (k : Relation) (o : List (List Bool)) → So (each_b λ x. each_b λ y. beq (get_or (get_or o (state_code x) []) (state_code y) false) (state_rule k x y)) → Says k o
unfolding Says
says k o h a b l m =
    let e : get_or (get_or o (state_code (state_of a)) []) (state_code (state_of b)) false ≡ state_rule k (state_of a) (state_of b) =
    beq-so (get_or (get_or o (state_code (state_of a)) []) (state_code (state_of b)) false) (state_rule k (state_of a) (state_of b))
    (each₂ (λ x y. beq (get_or (get_or o (state_code x) []) (state_code y) false) (state_rule k x y)) h (state_of a) (state_of b)) in
    rw (state-back a l, state-back b m) at e

-- the rule at two codes, each by a number below 4 that means the same state
pub says_at : (k : Relation) (o : List (List Bool)) (i j a b : ℕ) → Says k o → i < 4 → j < 4 → state_of i ≡ state_of a → state_of j ≡ state_of b → get_or (get_or o i []) j false ≡
    state_rule k (state_of a) (state_of b)
unfolding Says
says_at k o i j a b s p q e f = rw (← e, ← f) (s i j p q)
