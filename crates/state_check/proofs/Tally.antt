-- The counts that the loops keep of each subject's calls: those of the calls seen so far, and what they come to at the end (H17).
use mathlib.Core.Path.{◌≡◌, refl, ap, sym, subst, ◌∙◌}
use mathlib.Core.Bool.{Bool, true, false, So, cond}
use mathlib.Core.List.{List}
use Prim.Native.Nat.{ℕ, zero, suc, ◌+◌, ◌-◌, ◌≤◌, ◌<◌}
use native.Mathlib.Numerals.{add-one}
use native.Mathlib.Omega.{arith}
use native.Mathlib.Decide.{ℕ_discrete}
use lib.Dec.{leb}
use lib.ListN.{length, get_or, set, replicate, length-set, length-replicate, get_or-replicate}
use lib.Seq.{get_or-set_same, get_or-set_other}
use borrow.Author.Tests.{eq-eqb, ne_eqb}
use Rattle.spec_model.specs.Basics.{from}
use Rattle.spec_model.specs.Table.{max_subjects}
use Rattle.spec_model.specs.Requests.{Call as Callᵐ, no_call, max_calls_each, made_by}
use Rattle.spec_model.specs.Check.{callers_fit}
use Rattle.spec_model.proofs.Tests.{leb-so, so-leb}
use Rattle.spec_model.proofs.Lists.{all_from, from_first, length_from}
use Rattle.law_model.proofs.Fitting.{all-at}
use Rattle.state_record.proofs.Kept.{made-last}
use Rattle.state_check.specs.Parts.{CallersBelow}

-- the first j of the calls f 0, f 1, .. are counted, by subject
pub record Tallied (f : ℕ → Callᵐ) (j : ℕ) (made : List ℕ) : Type 0 where
  pub counts : (k : ℕ) → k < max_subjects → get_or made k 0 ≡ made_by k (from j 0 f)
  pub few : (k : ℕ) → k < max_subjects → get_or made k 0 ≤ max_calls_each
  pub long : length made ≡ max_subjects

module _ (f : ℕ → Callᵐ) where
  pub tally-none : Tallied f 0 (replicate max_subjects 0)
  unfolding from
  tally-none = record {
    counts = λ k l. get_or-replicate {A = ℕ} max_subjects k 0 0 l;
    few = λ k l. omega (arith, get_or-replicate {A = ℕ} max_subjects k 0 0 l);
    long = length-replicate {A = ℕ} max_subjects 0;
  }

  -- one call more
  pub tally-more : (j : ℕ) (made : List ℕ) → Tallied f j made → (c : ℕ) → c ≡ (f j).caller → c < max_subjects → get_or made c 0 < max_calls_each → Tallied f (j + 1) (set made c (get_or made c 0 + 1))
  tally-more j made t c is low room = subst (λ (i : ℕ). Tallied f i (set made c (get_or made c 0 + 1))) (sym (add-one j)) (record {
    counts = λ k l. (at k l (ℕ_discrete k c)).0;
    few = λ k l. (at k l (ℕ_discrete k c)).1;
    long = length-set made c (get_or made c 0 + 1) ∙ t.long;
  })
    where
      at : (k : ℕ) → k < max_subjects → Dec (k ≡ c) → (get_or (set made c (get_or made c 0 + 1)) k 0 ≡ made_by k (from (suc j) 0 f)) × (get_or (set made c (get_or made c 0 + 1)) k 0 ≤ max_calls_each)
      at k l (yes e) =
          let s : get_or (set made c (get_or made c 0 + 1)) k 0 ≡ get_or made c 0 + 1 = ap (λ (i : ℕ). get_or (set made c (get_or made c 0 + 1)) i 0) e
          ∙ get_or-set_same made c (get_or made c 0 + 1) 0 (omega (arith, low, t.long)) in
          let m : made_by k (from (suc j) 0 f) ≡ made_by k (from j 0 f) + 1 = made-last f k j ∙ ap (λ (b : Bool). made_by k (from j 0 f) + cond b 1 0) (eq-eqb k (f j).caller (e ∙ is)) in
          let o : get_or made c 0 ≡ made_by k (from j 0 f) = t.counts c low ∙ ap (λ (i : ℕ). made_by i (from j 0 f)) (sym e) in
          (omega (arith, s, m, o), omega (arith, s, room))
      at k l (no e) =
          let s = get_or-set_other made c k (get_or made c 0 + 1) 0 e in
          let m : made_by k (from (suc j) 0 f) ≡ made_by k (from j 0 f) + 0 = made-last f k j ∙ ap (λ (b : Bool). made_by k (from j 0 f) + cond b 1 0) (ne_eqb k (f j).caller (λ z. e (z ∙ sym is))) in
          (omega (arith, s, m, t.counts k l), omega (arith, s, t.few k l))

  -- counts only rise
  made-rises : (k j d : ℕ) → made_by k (from j 0 f) ≤ made_by k (from (d + j) 0 f)
  made-rises k j zero = let e : j ≡ 0 + j = omega arith in subst (λ (n : ℕ). made_by k (from j 0 f) ≤ made_by k (from n 0 f)) e (omega arith)
  made-rises k j (suc d) = let e : suc (d + j) ≡ suc d + j = omega arith in
      subst (λ (n : ℕ). made_by k (from j 0 f) ≤ made_by k (from n 0 f)) e (omega (arith, made-last f k (d + j), made-rises k j d))

  -- a caller that has made all of its calls, and one more call of it
  pub tally-over : (n j : ℕ) (made : List ℕ) → Tallied f j made → j < n → (c : ℕ) → c ≡ (f j).caller → (subjects : ℕ) → c < subjects → subjects ≤ max_subjects → max_calls_each ≤ get_or made c 0
      → callers_fit subjects (from n 0 f) ≡ false
  tally-over n j made t low c is subjects known few full = go (callers_fit subjects (from n 0 f)) refl
    where
      more : max_calls_each < made_by c (from n 0 f)
      more =
          let e = made-last f c j ∙ ap (λ (b : Bool). made_by c (from j 0 f) + cond b 1 0) (eq-eqb c (f j).caller is) in
          let r = subst (λ (i : ℕ). made_by c (from (suc j) 0 f) ≤ made_by c (from i 0 f)) (let z : (n - suc j) + suc j ≡ n = omega arith in z) (made-rises c (suc j) (n - suc j)) in
          omega (arith, e, r, t.counts c (omega arith), full)

      go : (b : Bool) → callers_fit subjects (from n 0 f) ≡ b → callers_fit subjects (from n 0 f) ≡ false
      go false e = e
      go true e =
          let a = all-at (λ k. leb (made_by k (from n 0 f)) max_calls_each) 0 (from subjects 0 (λ k. k)) e c (subst (λ (i : ℕ). c < i) (sym (length_from (λ k. k) subjects 0)) known) in
          let l : made_by c (from n 0 f) ≤ max_calls_each = leb-so (subst (λ (k : ℕ). So (leb (made_by k (from n 0 f)) max_calls_each)) (from_first (λ k. k) subjects c 0 known) a) in
          absurd (omega (arith, more, l))

  -- and nobody, to the end
  pub tally-all : (n : ℕ) (made : List ℕ) → Tallied f n made → (subjects : ℕ) → subjects ≤ max_subjects → callers_fit subjects (from n 0 f) ≡ true
  tally-all n made t subjects few = all_from (λ k. k) (λ k. leb (made_by k (from n 0 f)) max_calls_each) subjects 0
      (λ k p q. let l : made_by k (from n 0 f) ≤ max_calls_each = omega (arith, t.counts k (omega arith), t.few k (omega arith)) in so-leb l)

-- the same of a list that has these calls
module _ (f : ℕ → Callᵐ) (n : ℕ) (cs : List Callᵐ) (are : cs ≡ from n 0 f) where
  pub caller-below : (m : ℕ) → CallersBelow m cs → (j : ℕ) → j < n → (f j).caller < m
  caller-below m known j l =
      let len : length cs ≡ n = ap length are ∙ length_from f n 0 in
      subst (λ (c : Callᵐ). c.caller < m) (ap (λ xs. get_or xs j no_call) are ∙ from_first f n j no_call l) (known j (omega (arith, len, l)))

  pub callers-over : (j : ℕ) (made : List ℕ) → Tallied f j made → j < n → (c : ℕ) → c ≡ (f j).caller → max_calls_each ≤ get_or made c 0
      → (subjects : ℕ) → subjects ≤ max_subjects → CallersBelow subjects cs → callers_fit subjects cs ≡ false
  callers-over j made t l c is full subjects few known =
      ap (callers_fit subjects) are ∙ tally-over f n j made t l c is subjects (subst (λ i. i < subjects) (sym is) (caller-below subjects known j l)) few full

  pub callers-few : (made : List ℕ) → Tallied f n made → (subjects : ℕ) → subjects ≤ max_subjects → callers_fit subjects cs ≡ true
  callers-few made t subjects few = ap (callers_fit subjects) are ∙ tally-all f n made t subjects few
