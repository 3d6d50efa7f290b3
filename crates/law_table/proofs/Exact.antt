-- When a stored record is exact (specs/Records), for whoever makes records; and how bytes grow by one record.
use mathlib.Core.Path.{◌≡◌, refl, sym, ap, ◌∙◌}
use mathlib.Core.Logic.{⊎_elim}
use mathlib.Core.Bool.{true, false, cond}
use mathlib.Core.List.{List, [], ◌∷◌, ◌++◌}
use mathlib.Core.Option.{none, some}
use Prim.Native.Nat.{ℕ, zero, suc, ◌+◌, ◌-◌, ◌≤◌, ◌<◌}
use native.Mathlib.Nat.{le_of_suc-le-suc, not-suc-le-zero, le_trans}
use native.Mathlib.Omega.{arith}
use lib.Dec.{eqb, ltb}
use borrow.Author.Tests.{lt-ltb, le-ltb}
use lib.ListN.{length, get_or, take, drop, replicate, length-append, length-replicate, get_or-eq_default}
use lib.Seq.{sets, sets-eq, get_or-take, length-take-le, take-append_seam, drop-append-add}
use Rattle.spec_model.specs.Basics.{from}
use Rattle.spec_model.specs.Table.{permit, Method, no_method, max_methods}
use Rattle.spec_model.specs.Check.{RawMethod, RawType, no_raw_method, state_of, rep_of, kind_of, method_of}
use Rattle.spec_model.specs.Relations.{bit}
use Rattle.spec_model.specs.Records.{rep_code, kind_code, key_codes, method_record, argument_slots}
use Rattle.spec_model.proofs.Largest.{get_or-from-out}
use Rattle.spec_model.proofs.Codes.{code-back}
use Rattle.table_record.specs.Records.{padded}
use Rattle.table_record.specs.Store.{blank_method, MethodExact, TypeExact}
use Rattle.table_record.proofs.Lists.{lt-or-ge, from_first, is-from}
use Rattle.table_record.proofs.Laws.{four}
use Rattle.table_record.proofs.Codes.{number-rep, ref-rep, state-back}

pub kind-back : (k : ℕ) → k < 3 → kind_code (kind_of k) ≡ k
kind-back zero h = refl
kind-back (suc zero) h = refl
kind-back (suc (suc zero)) h = refl
kind-back (suc (suc (suc k))) h = absurd (not-suc-le-zero (le_of_suc-le-suc (le_of_suc-le-suc (le_of_suc-le-suc h))))

pub rep-back : (r : ℕ) → r < 3 → rep_code (rep_of r) ≡ r
rep-back zero h = refl
rep-back (suc zero) h = refl
rep-back (suc (suc zero)) h = refl
rep-back (suc (suc (suc k))) h = absurd (not-suc-le-zero (le_of_suc-le-suc (le_of_suc-le-suc (le_of_suc-le-suc h))))

short : (n : ℕ) (xs : List ℕ) → length (take n xs) ≤ n
short zero xs = omega arith
short (suc n) [] = omega arith
short (suc n) (x ∷ xs) = let h : length (take n xs) ≤ n = short n xs in omega arith

-- the first n of some slots, the others being 0
taken : (n k : ℕ) (xs : List ℕ) → (n ≤ k → get_or xs k 0 ≡ 0) → get_or (take n xs) k 0 ≡ get_or xs k 0
taken n k xs h =
    ⊎_elim
    (λ (lt : k < n). get_or-take n xs k 0 lt)
    (λ (ge : n ≤ k). get_or-eq_default (take n xs) 0 (le_trans (short n xs) ge) ∙ sym (h ge))
    (lt-or-ge k n)

mk : ℕ → ℕ → List ℕ → ℕ → RawMethod
mk s n l a = record { state = s; count = n; args = l; answer = a }

mk-eq : {s n s' n' a a' : ℕ} {l l' : List ℕ} → s ≡ s' → n ≡ n' → l ≡ l' → a ≡ a' → mk s n l a ≡ mk s' n' l' a'
mk-eq p q r t = cc

-- A method without a signature, and one with a signature whose other slots are 0.
pub unsigned-exact : (s : ℕ) → s < 4 → permit (state_of s) ≡ false → MethodExact (record { state = s; count = 0; args = 0 ∷ 0 ∷ 0 ∷ 0 ∷ []; answer = 0 })
unfolding mk from
unsigned-exact s h p = rw p (mk-eq (state-back s h) refl refl refl)

pub signed-exact : (m : RawMethod) → m.state < 4 → permit (state_of m.state) ≡ true → m.count ≤ argument_slots → length m.args ≡ argument_slots
    → ((k : ℕ) → m.count ≤ k → get_or m.args k 0 ≡ 0) → MethodExact m
unfolding mk from
signed-exact m h p n l z =
    rw p
    (mk-eq (state-back m.state h) (length-take-le m.count m.args (omega arith))
    (rw (taken m.count 0 m.args (z 0), taken m.count 1 m.args (z 1), taken m.count 2 m.args (z 2), taken m.count 3 m.args (z 3)) (four m.args l))
    (code-back m.answer))

-- the codes of the key of type i: none for a sheet type
abbrev pub KeyExact : ℕ → ℕ → RawType → Type 0
KeyExact sh i x = key_codes (cond (ltb i sh) none (some (record { kind = kind_of x.kind; left = x.left; right = x.right }))) ≡ (x.kind, x.left, x.right)

module _ (sh i : ℕ) (x : RawType) where
  pub sheet-key : i < sh → x.kind ≡ 0 → x.left ≡ 0 → x.right ≡ 0 → KeyExact sh i x
  sheet-key h k l r = rw (lt-ltb i sh h) (cc)

  pub derived-key : sh ≤ i → x.kind < 3 → KeyExact sh i x
  derived-key h k = rw (le-ltb i sh h) (ap (λ (n : ℕ). (n, x.left, x.right)) (kind-back x.kind k))

own_back : (n : ℕ) → n < 2 → bit (eqb n 1) ≡ n
own_back zero h = refl
own_back (suc zero) h = refl
own_back (suc (suc n)) h = absurd (not-suc-le-zero (le_of_suc-le-suc (le_of_suc-le-suc h)))

mk_t : ℕ → ℕ → ℕ → ℕ × ℕ × ℕ → List RawMethod → RawType
mk_t r c o k ms = record { rep = r; cat = c; own = o; kind = k.0; left = k.1; right = k.2; methods = ms }

mk_t-eq : {r o r' o' : ℕ} (c : ℕ) {k k' : ℕ × ℕ × ℕ} {m m' : List RawMethod} → r ≡ r' → o ≡ o' → k ≡ k' → m ≡ m'
    → mk_t r c o k m ≡ mk_t r' c o' k' m'
mk_t-eq c p q s t = cc

module _ (ms sh i : ℕ) (x : RawType) (l : length x.methods ≡ max_methods) (key : KeyExact sh i x) where
  stored-methods : (ys : List Method) → ((j : ℕ) → j < max_methods → get_or x.methods j no_raw_method ≡ method_record (get_or ys j no_method))
      → from max_methods 0 (λ j. method_record (get_or ys j no_method)) ≡ x.methods
  stored-methods ys h = is-from (λ j. method_record (get_or ys j no_method)) max_methods no_raw_method x.methods l h

  -- A reference type whose methods are exact, and blank behind the last.
  pub ref-exact : x.rep ≡ 0 → x.own < 2 → ((j : ℕ) → j < ms → MethodExact (get_or x.methods j no_raw_method))
      → ((j : ℕ) → ms ≤ j → j < max_methods → get_or x.methods j no_raw_method ≡ blank_method) → TypeExact ms sh i x
  unfolding TypeExact mk_t from
  ref-exact r o e z =
      let f : ℕ → Method = λ j. method_of (get_or x.methods j no_raw_method) in
      rw (ref-rep x.rep r)
      (mk_t-eq x.cat (rep-back x.rep (omega arith)) (own_back x.own o) key
      (stored-methods (from ms 0 f)
      (λ j p. ⊎_elim
      (λ (q : j < ms). sym (ap method_record (from_first f ms j no_method q) ∙ e j q))
      (λ (q : ms ≤ j). z j q p ∙ sym (ap method_record (get_or-from-out f no_method ms 0 j q)))
      (lt-or-ge j ms))))

  -- A number type, which has neither own nor methods.
  pub number-exact : (x.rep ≡ 0 → ⊥) → x.rep < 3 → x.own ≡ 0 → ((j : ℕ) → j < max_methods → get_or x.methods j no_raw_method ≡ blank_method) → TypeExact ms sh i x
  unfolding TypeExact mk_t from
  number-exact n r o z =
      rw (number-rep x.rep n)
      (mk_t-eq x.cat (rep-back x.rep r) (sym o) key (stored-methods [] z))

zeros : ℕ → List ℕ
zeros n = replicate n 0

drop-zeros : (k n : ℕ) → drop k (zeros n) ≡ zeros (n - k)
unfolding zeros
drop-zeros zero n = let e : n ≡ n - 0 = omega arith in ap zeros e
drop-zeros (suc k) zero = let e : 0 ≡ 0 - suc k = omega arith in ap zeros e
drop-zeros (suc k) (suc n) = let e : n - k ≡ suc n - suc k = omega arith in drop-zeros k n ∙ ap zeros e

-- Bytes that are filled from the front: the next record joins those before it.
pub padded-next : (n : ℕ) (xs ys : List ℕ) → length xs + length ys ≤ n → sets (padded n xs) (length xs) ys ≡ padded n (xs ++ ys)
unfolding padded zeros
padded-next n xs ys h =
    let r : List ℕ = replicate (n - length xs) 0 in
    let k : length (xs ++ ys) ≡ length xs + length ys = length-append xs ys in
    let z : length r ≡ n - length xs = length-replicate (n - length xs) 0 in
    let m : length (xs ++ r) ≡ length xs + length r = length-append xs r in
    let e : n - length xs - length ys ≡ n - length (xs ++ ys) = omega arith in
    sets-eq ys (xs ++ r) (length xs) (omega arith)
    ∙ ap (λ (l : List ℕ). l ++ ys ++ drop (length xs + length ys) (xs ++ r)) (take-append_seam xs r)
    ∙ ap (λ (l : List ℕ). xs ++ ys ++ l) (drop-append-add xs r (length ys) ∙ drop-zeros (length ys) (n - length xs) ∙ ap zeros e)

pub padded-length : (n : ℕ) (xs : List ℕ) → length xs ≤ n → length (padded n xs) ≡ n
unfolding padded
padded-length n xs h =
    let r : List ℕ = replicate (n - length xs) 0 in
    let z : length r ≡ n - length xs = length-replicate (n - length xs) 0 in
    let m : length (xs ++ r) ≡ length xs + length r = length-append xs r in
    omega arith
