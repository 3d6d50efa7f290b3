-- Layers and targets as they are stored, in the words of the model, and what comes of a number that passes one.
use Rattle.std.specs.Prelude.{Bool, List, map, suc, ℕ, ℤ, take, Result}
use Rattle.std.proofs.Math.Option.{Option, none, some}
use Rattle.std.proofs.Math.ListN.{get_elem?}
use Rattle.spec_model.specs.Basics.{Res, refuse, ok, need}
use Rattle.spec_model.specs.Table.{Table, Rep, ref, w32, w64, type_at, argument_at, answer_at}
use Rattle.spec_model.specs.Table.{Method as Methodᵐ}
use Rattle.spec_model.specs.Crossing.{max_places}
use Rattle.spec_model.specs.Requests.{at_layer, within}
use Rattle.base_numbers.specs.declared.refusal.Refusal.{Refusal}
use Rattle.base_numbers.specs.Refusal.{res_by}
use Rattle.spec_model.specs.Refusals.{unrelated, too_wide}
pub use Rattle.table_record.specs.Store.{option_of}
use Rattle.table_record.specs.declared.Method.{Method}
use Rattle.crossing_targets.specs.declared.CallLayers.{CallLayers}
use Rattle.crossing_targets.specs.declared.Slot.{Slot}
use Rattle.crossing_targets.specs.declared.Slot.TheVariants.{Argument, Answer}
use Rattle.crossing_targets.specs.declared.Targets.{Targets}

abbrev pub call_layers_in : CallLayers → List ℕ
call_layers_in w = take w.count w.list

-- the most layers of a call: the cell's type, and those of a place (C9)
abbrev pub max_layers : ℕ
max_layers = suc max_places

-- the targets, as the model has them
abbrev pub targets_in : Targets → List (Option ℕ)
targets_in x = map option_of (take x.count x.list)

-- argument i of a signature as it is stored
abbrev pub argument_of : Method → ℕ → Option ℕ
argument_of x i = get_elem? (take x.count x.args) i

abbrev pub slot_in : Methodᵐ → Slot → Option ℕ
slot_in x (Argument i) = get_elem? x.args i
slot_in x Answer = x.answer

-- what method m of a type has in a slot
abbrev pub slot_at : Table → ℕ → Slot → ℕ → Option ℕ
slot_at t m (Argument i) l = argument_at t m i l
slot_at t m Answer l = answer_at t m l

-- A number at one layer: what `pass_layers` asks there before it goes on.
abbrev pub width_at : ℤ → Res (Unit {0})
width_at v = need (within 2147483648 v) too_wide λ _. ok tt

abbrev pub pass_as : Bool → ℤ → Rep → Res (Unit {0})
pass_as first v ref = refuse (at_layer first unrelated)
pass_as first v w32 = width_at v
pass_as first v w64 = ok tt

abbrev pub pass_to : Bool → Table → ℤ → Option ℕ → Res (Unit {0})
pass_to first t v none = refuse (at_layer first unrelated)
pass_to first t v (some a) = pass_as first v (type_at t a).rep

abbrev pub passed_of : Result (Unit {0}) Refusal → Res (Unit {0})
passed_of = res_by (λ (x : Unit {0}). x)
