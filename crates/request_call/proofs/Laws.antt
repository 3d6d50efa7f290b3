-- Methods of a cell's type, and the values of a call beside the arguments of a signature.
use mathlib.Core.Path.{◌≡◌, refl, sym, ap, ◌∙◌}
use mathlib.Core.Bool.{Bool, true, false, not, cond, ◌&&◌, ◌||◌}
use mathlib.Core.List.{List, [], ◌∷◌}
use Prim.Native.Nat.{ℕ, ◌≤◌, ◌<◌}
use native.Mathlib.Omega.{arith}
use lib.IntN.{ℤ}
use lib.ListN.{length, get_or, drop, drop_of_length-le}
use borrow.Author.Tests.{eq-eqb, ne_eqb}
use Rattle.spec_model.specs.Basics.{from}
use Rattle.spec_model.specs.Table.{Table, Ty, no_method, type_at, method_at, is_ref}
use Rattle.spec_model.specs.Table.{Method as Methodᵐ}
use Rattle.spec_model.specs.Check.{RawType, rep_of, method_of, no_raw_type, no_raw_method}
use Rattle.spec_model.specs.Requests.{System, held, arguments_held}
use Rattle.spec_model.proofs.Rules.{never}
use Rattle.std.specs.Prelude.{Some, None, is_some}
use Rattle.std.specs.Prelude.{Option as Maybe}
use Rattle.crossing_targets.specs.Targets.{option_of}
use Rattle.table_record.specs.declared.Counts.{Counts}
use Rattle.table_record.specs.declared.Head.{Head}
use Rattle.table_record.specs.declared.Method.{Method}
use Rattle.table_record.specs.Store.{types_in, table_in, ref_in, raw_method, head_of, empty_method}
use Rattle.table_record.proofs.Tables.{type-is, ref-table}
use Rattle.table_record.proofs.Codes.{rep-code}
use Rattle.state_record.specs.Whole.{Whole as State}
use Rattle.state_record.specs.View.{system_in}
use Rattle.crossing_targets.specs.Targets.{argument_of}
use Rattle.law_table.proofs.Methods.{ref-is, method-is}
use Rattle.request_common.proofs.Laws.{table_is}
use Rattle.request_value.specs.Sent.{arguments_of}
use Rattle.request_value.proofs.Laws.{none_left, some_left}

-- ---- A method of a type, read as h and x.
module _ (b l : List ℕ) (c : Counts) (t m : ℕ) (low : t < c.types) (h : Head) (e : h ≡ head_of (get_or (types_in b) t no_raw_type)) (x : Method) where
  pub method-none : (h.rep ≡ 0 → ⊥) → x ≡ empty_method → method_of (raw_method x) ≡ method_at (table_in b l c) t m
  method-none z w =
      let y : RawType = get_or (types_in b) t no_raw_type in
      let f : ℕ → Methodᵐ = λ k. method_of (get_or y.methods k no_raw_method) in
      let q : is_ref (rep_of y.rep) ≡ false = sym (rep-code y.rep) ∙ ne_eqb y.rep 0 (λ u. z (ap (λ (k : Head). k.rep) e ∙ u)) in
      ap (λ (k : Method). method_of (raw_method k)) w
      ∙ sym (ap (λ (k : Ty). get_or k.methods m no_method) (type-is b l c t low) ∙ ap (λ (k : Bool). get_or (cond k (from c.methods 0 f) []) m no_method) q)

  pub method-some : h.rep ≡ 0 → m < c.methods → raw_method x ≡ get_or (get_or (types_in b) t no_raw_type).methods m no_raw_method → method_of (raw_method x) ≡ method_at (table_in b l c) t m
  method-some z k w = ap method_of w ∙ sym (method-is b l c t m (sym (ref-is b l c t h low e) ∙ eq-eqb h.rep 0 z) k)

-- ---- C4, C5.
module _ (s : State) (a : ℕ) (r : Bool) (is : r ≡ ref_in s.counts.types s.types a) where
  seen : is_ref (type_at (system_in s).table a).rep ≡ r
  seen = ap (λ (t : Table). is_ref (type_at t a).rep) (table_is s) ∙ ref-table s.types s.links s.counts a ∙ sym is

  pub number-held : r ≡ false → (q : Bool) → true ≡ not (is_ref (type_at (system_in s).table a).rep) || q
  number-held z q = sym (ap (λ (y : Bool). not y || q) (seen ∙ z))

  pub reference-held : r ≡ true → (p q : Bool) → p ≡ q → p ≡ not (is_ref (type_at (system_in s).table a).rep) || q
  reference-held z p q w = w ∙ sym (ap (λ (y : Bool). not y || q) (seen ∙ z))

module _ (s : System) (subject : ℤ) (xs : List ℕ) (vs : List ℤ) where
  -- all values stand the test as those from i on
  abbrev pub HeldRest : ℕ → Type 0
  HeldRest i = arguments_held s subject (drop i xs) (drop i vs) ≡ arguments_held s subject xs vs

  module _ (i : ℕ) (w : HeldRest i) where
    -- a value is left, v, and after it vs'
    module _ (v : ℤ) (vs' : List ℤ) (more : drop i vs ≡ v ∷ vs') where
      pub held-over : drop i xs ≡ [] → false ≡ arguments_held s subject xs vs
      held-over z = sym (ap (λ (y : List ℕ). arguments_held s subject y (v ∷ vs')) z) ∙ ap (arguments_held s subject (drop i xs)) (sym more) ∙ w

      module _ (a : ℕ) (xs' : List ℕ) (some : drop i xs ≡ a ∷ xs') (r : Bool) (is : r ≡ not (is_ref (type_at s.table a).rep) || held s subject v) where
        next : r && arguments_held s subject xs' vs' ≡ arguments_held s subject xs vs
        next =
            ap (λ (y : Bool). y && arguments_held s subject xs' vs') is
            ∙ sym (ap (λ (y : List ℕ). arguments_held s subject y (v ∷ vs')) some) ∙ ap (arguments_held s subject (drop i xs)) (sym more) ∙ w

        pub held-fails : r ≡ false → false ≡ arguments_held s subject xs vs
        held-fails z = sym (ap (λ (y : Bool). y && arguments_held s subject xs' vs') z) ∙ next

        pub held_next : r ≡ true → arguments_held s subject xs' vs' ≡ arguments_held s subject xs vs
        held_next z = sym (ap (λ (y : Bool). y && arguments_held s subject xs' vs') z) ∙ next

    module _ (over : length vs ≤ i) where
      left : arguments_held s subject (drop i xs) [] ≡ arguments_held s subject xs vs
      left = ap (arguments_held s subject (drop i xs)) (sym (drop_of_length-le vs {i = i} over)) ∙ w

      pub held-ends : drop i xs ≡ [] → true ≡ arguments_held s subject xs vs
      held-ends z = sym (ap (λ (y : List ℕ). arguments_held s subject y []) z) ∙ left

      pub held-lacks : (a : ℕ) (xs' : List ℕ) → drop i xs ≡ a ∷ xs' → false ≡ arguments_held s subject xs vs
      held-lacks a xs' z = sym (ap (λ (y : List ℕ). arguments_held s subject y []) z) ∙ left

-- all values are looked at: o is the argument that would be next
pub held_whole : (s : System) (subject : ℤ) (x : Method) (vs : List ℤ) (i : ℕ) → HeldRest s subject (arguments_of x) vs i → length vs ≡ i → (o : Maybe ℕ) →
    option_of o ≡ argument_of x (length vs) → (b : Bool) → is_some o ≡ not b → b ≡ arguments_held s subject (arguments_of x) vs
held_whole s subject x vs i w e o r b q = go o b (r ∙ ap (argument_of x) e) q
  where
    go : (o : Maybe ℕ) (b : Bool) → option_of o ≡ argument_of x i → is_some o ≡ not b → b ≡ arguments_held s subject (arguments_of x) vs
    go None true y z = held-ends s subject (arguments_of x) vs i w (omega arith) (none_left x i None y refl)
    go None false y z = never z
    go (Some a) true y z = never (sym z)
    go (Some a) false y z = held-lacks s subject (arguments_of x) vs i w (omega arith) _ _ (some_left x i (Some a) y a refl)
