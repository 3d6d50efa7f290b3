-- The loop over the slots of a new type. What holds at each turn: the whole run comes to what is left of it, from the table and the bytes so far.
use mathlib.Core.Path.{◌≡◌, refl, sym, ap, ◌∙◌, subst}
use mathlib.Core.List.{List}
use mathlib.Core.Option.{Option, none, some}
use Rattle.std.specs.Prelude.{None, Some}
use mathlib.Core.Logic.{⊎_elim}
use Prim.Native.Nat.{ℕ, suc, ◌+◌, ◌-◌, ◌*◌, ◌≤◌, ◌<◌}
use native.Mathlib.Omega.{arith}
use native.Mathlib.Numerals.{add-one}
use lib.ListN.{length, set, replicate, length-set}
use Rattle.spec_model.specs.Basics.{then}
use Rattle.spec_model.specs.Table.{Kind, Table, max_types}
use Rattle.spec_model.specs.Restriction.{arg_kind, answer_kind, Derivation, derive}
use Rattle.table_record.specs.declared.Counts.{Counts}
use Rattle.table_record.specs.Store.{with_count}
use Rattle.table_record.specs.Limits.{Limits}
use Rattle.derive_slots.specs.declared.Slot.{Slot}
use Rattle.derive_slots.specs.declared.Slot.TheVariants.{Empty, Argument, Answer}
use Rattle.derive_slots.specs.Slots.{slot_at, Low, method_slots, slots_size}
use Rattle.derive_type.specs.NewType.{Work, method_in, kind_in}
use Rattle.derive_record.specs.Begins.{Derived, tabled}
use Rattle.derive_sub_sup.specs.Link.{Kept, Sized, Exact, ExactTo, Coded, CodedTo, Gives, derived_in}
use Rattle.derive_sub_sup.proofs.Bytes.{exact_same}
use Rattle.table_record.proofs.Lists.{lt-or-ge}
use Rattle.table_record.specs.Layout.{types_size}
use Rattle.derive_type.proofs.Runs.{Row, step, runs}

-- the bytes of the slots before the first turn
abbrev pub zeros : List ℕ
zeros = replicate slots_size 0

-- slot k of the type at work, whose kind is d
abbrev pub slot_in : Kind → Work → ℕ → Slot
slot_in d w = slot_at d (method_in w.left) (method_in w.right)

-- how many slots there are
abbrev pub end : Counts → ℕ
end c = c.methods * method_slots

-- The whole run, with the types in signatures derived by the model, in a table that ends with the type at work.
abbrev pub Whole : Kind → Counts → ℕ → Work → List ℕ → Table → ℕ → Option Row
Whole d c n w b₀ T f = runs (derive f) d (slot_in d w) (end c) 0 (tabled T c (n + 1) b₀) zeros

abbrev pub Comes : Kind → Counts → ℕ → Work → List ℕ → (Table → ℕ → Option Row) → Type 0
Comes d c n w b₀ o = (T : Table) → T.methods ≡ c.methods → (f : ℕ) → max_types ≤ n + 1 + f → Whole d c n w b₀ T f ≡ o T f

-- What holds of the run at slot k, b₀ being the bytes when the type at work was stored.
pub record Run (d : Kind) (c : Counts) (n : ℕ) (w : Work) (b₀ b ns : List ℕ) (m k : ℕ) : Type 0 where
  pub limits : Limits (with_count c n)
  pub kinds : kind_in w ≡ d
  pub room : n < max_types
  pub long : length b ≡ types_size
  pub wide : length ns ≡ slots_size
  pub more : n < m
  pub most : m ≤ max_types
  pub kept : Kept (n + 1) b₀ b
  pub exact : Exact c (n + 1) m b
  pub coded : Coded c (n + 1) b₀ → Coded c m b
  pub same : Comes d c n w b₀ (λ T f. runs (derive f) d (slot_in d w) (end c - k) k (tabled T c m b) ns)

pub run-starts : (d : Kind) (c : Counts) (n : ℕ) (w : Work) (b : List ℕ) → Limits (with_count c n) → kind_in w ≡ d → n < max_types → length b ≡ types_size
    → Run d c n w b b zeros (n + 1) 0
run-starts d c n w b limits kinds room long = record {
  limits = limits;
  kinds = kinds;
  room = room;
  long = long;
  wide = refl;
  more = omega arith;
  most = omega arith;
  kept = λ i l. refl;
  exact = λ i p q. absurd (omega arith);
  coded = λ h. h;
  same = λ T e f h. let l : end c - 0 ≡ end c = omega arith in rw l;
}

-- what is left at slot k, when it is known what that slot asks for
run-first : (rec : Derivation) (d : Kind) (f : ℕ → Slot) (n k : ℕ) (t : Table) (ns : List ℕ) (s : Slot) → k < n → s ≡ f k
    → runs rec d f (n - k) k t ns ≡ then (step rec d s k t ns) λ q. runs rec d f (n - (k + 1)) (k + 1) q.0 q.1
unfolding runs
run-first rec d f n k t ns s h e =
    let l : n - k ≡ suc (n - (k + 1)) = omega arith in
    ap (λ (c : ℕ). runs rec d f c k t ns) l ∙ ap (λ (z : Slot). then (step rec d z k t ns) λ q. runs rec d f (n - (k + 1)) (suc k) q.0 q.1) (sym e) ∙ rw add-one

run_none : (rec : Derivation) (d : Kind) (f : ℕ → Slot) (n k : ℕ) (t : Table) (ns : List ℕ) → n ≤ k → runs rec d f (n - k) k t ns ≡ some (t, ns)
unfolding runs
run_none rec d f n k t ns h = let l : n - k ≡ 0 = omega arith in rw l

sized-at : (n t s : ℕ) (p : ℕ × ℕ) (g : Derived) → g ≡ Some p → Sized n t s g → Sized n t s (Some p)
sized-at n t s p g e h = subst (Sized n t s) e h

module _ {d : Kind} {c : Counts} {n : ℕ} {w : Work} {b₀ b ns : List ℕ} {m k : ℕ} (now : Run d c n w b₀ b ns m k) where
  pub run-ends : end c ≤ k → Comes d c n w b₀ (λ T f. some (tabled T c m b, ns))
  run-ends h T e f p = now.same T e f p ∙ run_none (derive f) d (slot_in d w) (end c) k (tabled T c m b) ns h

-- the loop at slot k, which has been read
pub record Turn (d : Kind) (c : Counts) (n : ℕ) (w : Work) (b₀ b ns : List ℕ) (m k : ℕ) (slot : Slot) : Type 0 where
  pub now : Run d c n w b₀ b ns m k
  pub test : k < end c
  pub told : slot ≡ slot_in (kind_in w) w k
  pub low : Low slot

module _ {d : Kind} {c : Counts} {n : ℕ} {w : Work} {b₀ b ns : List ℕ} {m k : ℕ} {slot : Slot} (turn : Turn d c n w b₀ b ns m k slot) where
  abbrev S : ℕ → Slot
  S = slot_in d w

  abbrev now : Run d c n w b₀ b ns m k
  now = turn.now

  is : slot ≡ S k
  is = turn.told ∙ ap (λ (e : Kind). slot_in e w k) now.kinds

  pub turn-empty : slot ≡ Empty → Run d c n w b₀ b ns m (k + 1)
  turn-empty e = record {
    limits = now.limits;
    kinds = now.kinds;
    room = now.room;
    long = now.long;
    wide = now.wide;
    more = now.more;
    most = now.most;
    kept = now.kept;
    exact = now.exact;
    coded = now.coded;
    same = λ T et f h. now.same T et f h ∙ run-first (derive f) d S (end c) k (tabled T c m b) ns Empty turn.test (sym e ∙ is);
  }

  -- a slot whose type is derived by `e` and kept as `byte`
  module _ (e : Kind) (byte : ℕ → ℕ) {l r : ℕ} (by : (rec : Derivation) (t : Table) → step rec d slot k t ns ≡ then (rec t e l r) λ p. some
      (p.0, set ns k (byte p.1))) {g : Derived} {b₁ : List ℕ} (does : Gives e c m l r b b₁ g) where
    abbrev after : ℕ → Table × ℕ → Option Row
    after f p = runs (derive f) d S (end c - (k + 1)) (k + 1) p.0 (set ns k (byte p.1))

    stepped : Comes d c n w b₀ (λ T f. then (derived_in T c g b₁) (after f))
    stepped T et f h =
        now.same T et f h ∙ run-first (derive f) d S (end c) k (tabled T c m b) ns slot turn.test is
        ∙ ap (λ (o : Option Row). then o λ q. runs (derive f) d S (end c - (k + 1)) (k + 1) q.0 q.1) (by (derive f) (tabled T c m b))
        ∙ flat (derive f (tabled T c m b) e l r) ∙ ap (λ (o : Option (Table × ℕ)). then o (after f)) (sym (does.is T et f (let p = now.more in omega arith)))
      where
        flat : (o : Option (Table × ℕ)) → then {A = Row} (then o λ p. some (p.0, set ns k (byte p.1))) (λ q. runs (derive f) d S (end c - (k + 1)) (k + 1) q.0 q.1) ≡ then o
            (after f)
        flat none = refl
        flat (some p) = refl

    full_by : g ≡ None → Comes d c n w b₀ (λ T f. none)
    full_by eg T et f h = stepped T et f h ∙ ap (λ (o : Derived). then (derived_in T c o b₁) (after f)) eg

    turn_by : {p : ℕ × ℕ} {v : ℕ} → g ≡ Some p → v ≡ byte p.0 → Run d c n w b₀ b₁ (set ns k v) p.1 (k + 1)
    turn_by {p} {v} eg ev = let z = sized-at m l r p g eg does.keeps.sized in
        record {
          limits = now.limits;
          kinds = now.kinds;
          room = now.room;
          long = does.keeps.long;
          wide = length-set ns k v ∙ now.wide;
          more = let u = now.more in let v = z.0 in omega arith;
          most = z.1;
          kept = λ j u. does.keeps.kept j (let q = now.more in omega arith) ∙ now.kept j u;
          exact = λ j u q. ⊎_elim
              (λ (l : j < m). exact_same c b b₁ j (let o = now.most in omega arith) (does.keeps.kept j l) (now.exact j u l))
              (λ (l : m ≤ j). subst (ExactTo c m b₁) eg does.exact j l q)
              (lt-or-ge j m);
          coded = λ h. subst (CodedTo c b₁) eg (does.coded (now.coded h));
          same = λ T et f h. stepped T et f h ∙ ap (λ (o : Derived). then (derived_in T c o b₁) (after f)) eg ∙ ap
              (λ (v : ℕ). runs (derive f) d S (end c - (k + 1)) (k + 1) (tabled T c p.1 b₁) (set ns k v)) (sym ev);
        }

  module _ {l r : ℕ} where
    module _ (e : slot ≡ Argument l r) where
      module _ {g : Derived} {b₁ : List ℕ} (does : Gives (arg_kind d) c m l r b b₁ g) where
        by-argument : (rec : Derivation) (t : Table) → step rec d slot k t ns ≡ then (rec t (arg_kind d) l r) λ p. some (p.0, set ns k p.1)
        by-argument rec t = ap (λ (u : Slot). step rec d u k t ns) e

        pub argument-full : g ≡ None → Comes d c n w b₀ (λ T f. none)
        argument-full = full_by (arg_kind d) (λ i. i) by-argument does

        pub argument-low : {p : ℕ × ℕ} → g ≡ Some p → p.0 < 256
        argument-low {p} eg = let z = sized-at m l r p g eg does.keeps.sized in let u = subst Low e turn.low in z.2 256 (let q = z.1 in omega arith) u.0 u.1

        pub argument-turn : {p : ℕ × ℕ} {v : ℕ} → g ≡ Some p → v ≡ p.0 → Run d c n w b₀ b₁ (set ns k v) p.1 (k + 1)
        argument-turn = turn_by (arg_kind d) (λ i. i) by-argument does

    module _ (e : slot ≡ Answer l r) where
      module _ {g : Derived} {b₁ : List ℕ} (does : Gives (answer_kind d) c m l r b b₁ g) where
        by_answer : (rec : Derivation) (t : Table) → step rec d slot k t ns ≡ then (rec t (answer_kind d) l r) λ p. some (p.0, set ns k (suc p.1))
        by_answer rec t = ap (λ (u : Slot). step rec d u k t ns) e

        pub answer-full : g ≡ None → Comes d c n w b₀ (λ T f. none)
        answer-full = full_by (answer_kind d) suc by_answer does

        pub answer-low : {p : ℕ × ℕ} → g ≡ Some p → p.0 < 255
        answer-low {p} eg = let z = sized-at m l r p g eg does.keeps.sized in let u = subst Low e turn.low in z.2 255 (let q = z.1 in omega arith) u.0 u.1

        pub answer-turn : {p : ℕ × ℕ} {v : ℕ} → g ≡ Some p → v ≡ p.0 + 1 → Run d c n w b₀ b₁ (set ns k v) p.1 (k + 1)
        answer-turn {p} eg ev = turn_by (answer_kind d) suc by_answer does eg (ev ∙ add-one p.0)
