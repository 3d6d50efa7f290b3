-- What is offered to one who hands in a state, the number of a cell and a chain, all of them any numbers (E11).
use Rattle.std.specs.Prelude.{Bool, ◌&&◌, List, map, ℤ, length, Result}
use Rattle.spec_model.specs.Basics.{Res, ok, need, all, names, named}
use Rattle.spec_model.specs.Table.{Table}
use Rattle.spec_model.specs.Requests.{System}
use Rattle.spec_model.specs.Chains.{offered}
use Rattle.spec_model.specs.Check.{RawSystem, system_of, system_accepted}
use Rattle.spec_model.specs.Refusals.{out_of_range}
use Rattle.base_numbers.specs.declared.refusal.Refusal.{Refusal}
use Rattle.base_numbers.specs.Refusal.{res_by}

-- every number of a chain names a method (L17)
abbrev pub methods_named : Table → List ℤ → Bool
methods_named t w = all (λ m. names m t.methods) w

-- A number that names no cell offers no chain, and no cell one with a number in it that names no method.
unfoldable pub offers_named : System → ℤ → List ℤ → Bool
unfolding offered
offers_named s k w = names k (length s.cells) && (methods_named s.table w && offered s (named k) (map named w))

-- 2 before all else.
unfoldable pub offers_handed : RawSystem → ℤ → List ℤ → Res Bool
unfolding system_accepted system_of offers_named
offers_handed r k w = need (system_accepted r) out_of_range λ _. ok (offers_named (system_of r) k w)

-- what the result of the code says
abbrev pub offered_as : Result Bool Refusal → Res Bool
offered_as = res_by (λ b. b)
