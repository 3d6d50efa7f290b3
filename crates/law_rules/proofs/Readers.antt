-- How a reader of lines comes to its answer: the lines it took are right whatever follows them, and a refusal is of the line behind these (docs/SPEC.md, S6 to S9, S31).
use mathlib.Core.Path.{◌≡◌, refl, ap, sym, subst, ◌∙◌}
use mathlib.Core.List.{List, [], ◌∷◌, ◌++◌, append_assoc}
use Prim.Native.Nat.{ℕ, zero, suc, ◌+◌, ◌≤◌}
use native.Mathlib.Omega.{arith}
use lib.ListN.{length, length-append}
use Rattle.spec_model.specs.Basics.{Res, refuse, ok}
use Rattle.spec_model.specs.Table.{Rep, ref, w32, w64}
use Rattle.spec_model.specs.Refusals.{form}
use Rattle.spec_sheet.specs.Lines.{Row, row, cut, join, Reading, refused, got, Reader, pure, line_at, line, follow, bind, times}
use Rattle.spec_sheet.specs.Sheet.{under_line, own_line, method_line, members, one_type, body}
use Rattle.spec_sheet.proofs.Lines.{rows, rows_append}
use Rattle.spec_sheet.proofs.Offsets.{join-append}

-- an answer that is not in front of offset k
abbrev pub NotBefore : {A : Type 0} → ℕ → Reading A → Type 0
NotBefore k (refused n at) = k ≤ at
NotBefore k (got x at rs) = k ≤ at

-- Accepted: whole lines were taken, and they give the same value whatever follows.
pub record Took {A : Type 0} (p : Reader A) (at : ℕ) (rs : List Row) (x : A) (k : ℕ) (rest : List Row) : Type 0 where
  pub lines : List (List ℕ)
  pub passed : rs ≡ rows lines ++ rest
  pub offset : k ≡ at + length (join lines)
  pub always : (qs : List Row) → p at (rows lines ++ qs) ≡ got x k qs

-- What is wrong behind the lines ls: no line is left (S9), the last one has no LF (S8), or the line there is refused whatever follows it (S6, S7).
pub data Wrong {A : Type 0} (p : Reader A) (at : ℕ) (ls : List (List ℕ)) (rest : List Row) (n k : ℕ) : Type 0 where
  missing : rest ≡ [] → n ≡ form → Wrong p at ls rest n k
  unended : (l : List ℕ) (qs : List Row) → rest ≡ cut l ∷ qs → n ≡ form → Wrong p at ls rest n k
  at_fault : (l : List ℕ) (qs : List Row) → rest ≡ row l ∷ qs → ((os : List Row) → p at (rows ls ++ (row l ∷ os)) ≡ refused n k) → Wrong p at ls rest n k

-- Refused: the offset is behind whole lines that are right, since nothing that follows them is refused in front of it; and what stands there is wrong.
pub record Stopped {A : Type 0} (p : Reader A) (at : ℕ) (rs : List Row) (n k : ℕ) : Type 0 where
  pub lines : List (List ℕ)
  pub rest : List Row
  pub passed : rs ≡ rows lines ++ rest
  pub offset : k ≡ at + length (join lines)
  pub right : (qs : List Row) → NotBefore k (p at (rows lines ++ qs))
  pub wrong : Wrong p at lines rest n k

abbrev pub Came : {A : Type 0} → Reader A → ℕ → List Row → Reading A → Type 0
Came p at rs (refused n k) = Stopped p at rs n k
Came p at rs (got x k rest) = Took p at rs x k rest

abbrev pub Local : {A : Type 0} → Reader A → Type 0
Local p = (at : ℕ) (rs : List Row) → Came p at rs (p at rs)

came-later : {A : Type 0} (p : Reader A) (at : ℕ) (rs : List Row) (r : Reading A) → Came p at rs r → NotBefore at r
came-later p at rs (refused n k) w = omega (arith, w.offset)
came-later p at rs (got x k rest) w = omega (arith, w.offset)

pub never-before : {A : Type 0} (p : Reader A) → Local p → (at : ℕ) (rs : List Row) → NotBefore at (p at rs)
never-before p h at rs = came-later p at rs (p at rs) (h at rs)

-- ---- one line, none, one reader and then another, one so many times
pub line-local : {A : Type 0} (f : List ℕ → Res A) → Local (line f)
unfolding join
line-local {A} f at rs = go rs
  where
    later : (qs : List Row) → NotBefore at (line f at qs)
    later [] = omega arith
    later (cut l ∷ qs) = omega arith
    later (row l ∷ qs) = one (f l)
      where
        one : (r : Res A) → NotBefore at (line_at r at l qs)
        one (refuse n) = omega arith
        one (ok x) = omega arith

    answered : (l : List ℕ) (qs : List Row) (r : Res A) → f l ≡ r → Came (line f) at (row l ∷ qs) (line_at r at l qs)
    answered l qs (refuse n) e = record { lines = []; rest = row l ∷ qs; passed = refl; offset = omega arith; right = later; wrong = at_fault l qs refl (λ os. ap (λ z. line_at z at l os) e) }
    answered l qs (ok x) e = let n : length (l ++ 10 ∷ []) ≡ length l + 1 = length-append l (10 ∷ []) in
        record { lines = l ∷ []; passed = refl; offset = omega arith; always = λ os. ap (λ z. line_at z at l os) e }

    go : (rs : List Row) → Came (line f) at rs (line f at rs)
    go [] = record { lines = []; rest = []; passed = refl; offset = omega arith; right = later; wrong = missing refl refl }
    go (cut l ∷ qs) = record { lines = []; rest = cut l ∷ qs; passed = refl; offset = omega arith; right = later; wrong = unended l qs refl refl }
    go (row l ∷ qs) = answered l qs (f l) refl

pub pure-local : {A : Type 0} (x : A) → Local (pure x)
unfolding join
pure-local x at rs = record { lines = []; passed = refl; offset = omega arith; always = λ qs. refl }

pub follow-later : {A B : Type 0} (k : A → Reader B) → ((x : A) (a : ℕ) (q : List Row) → NotBefore a (k x a q)) → (at : ℕ) (r : Reading A) → NotBefore at r → NotBefore at (follow r k)
follow-later k g at (refused n a) h = h
follow-later {A} {B} k g at (got x a q) h = go (k x a q) (g x a q)
  where
    go : (r : Reading B) → NotBefore a r → NotBefore at r
    go (refused n b) j = omega arith
    go (got y b q) j = omega arith

module _ {A B : Type 0} (p : Reader A) (k : A → Reader B) where
  pub wrong-on : (at : ℕ) (ls : List (List ℕ)) (rest : List Row) (n c : ℕ) → Wrong p at ls rest n c → Wrong (bind p k) at ls rest n c
  wrong-on at ls rest n c (missing e f) = missing e f
  wrong-on at ls rest n c (unended l qs e f) = unended l qs e f
  wrong-on at ls rest n c (at_fault l qs e f) = at_fault l qs e (λ os. ap (λ z. follow z k) (f os))

  module _ (at : ℕ) (rs : List Row) (x : A) (a : ℕ) (q : List Row) (w : Took p at rs x a q) where
    -- behind what the first took the second goes on
    pub second : (ls : List (List ℕ)) (qs : List Row) → bind p k at (rows (w.lines ++ ls) ++ qs) ≡ k x a (rows ls ++ qs)
    second ls qs = ap (λ z. bind p k at (z ++ qs)) (rows_append w.lines ls) ∙ ap (λ z. bind p k at z) (append_assoc (rows w.lines) (rows ls) qs)
        ∙ ap (λ z. follow z k) (w.always (rows ls ++ qs))

    pub both-passed : (ls : List (List ℕ)) (rest : List Row) → q ≡ rows ls ++ rest → rs ≡ rows (w.lines ++ ls) ++ rest
    both-passed ls rest e = w.passed ∙ ap (λ z. rows w.lines ++ z) e ∙ sym (append_assoc (rows w.lines) (rows ls) rest) ∙ ap (λ z. z ++ rest) (sym (rows_append w.lines ls))

    pub both-offset : (ls : List (List ℕ)) (c : ℕ) → c ≡ a + length (join ls) → c ≡ at + length (join (w.lines ++ ls))
    both-offset ls c e =
        let n : length (join (w.lines ++ ls)) ≡ length (join w.lines) + length (join ls) = ap length (join-append w.lines ls) ∙ length-append (join w.lines) (join ls) in
        let o : a ≡ at + length (join w.lines) = w.offset in omega arith

    wrong-behind : (ls : List (List ℕ)) (rest : List Row) (n c : ℕ) → Wrong (k x) a ls rest n c → Wrong (bind p k) at (w.lines ++ ls) rest n c
    wrong-behind ls rest n c (missing e f) = missing e f
    wrong-behind ls rest n c (unended l qs e f) = unended l qs e f
    wrong-behind ls rest n c (at_fault l qs e f) = at_fault l qs e (λ os. second ls (row l ∷ os) ∙ f os)

    pub goes_on : (r : Reading B) → Came (k x) a q r → Came (bind p k) at rs r
    goes_on (refused n c) v = record {
      lines = w.lines ++ v.lines;
      rest = v.rest;
      passed = both-passed v.lines v.rest v.passed;
      offset = both-offset v.lines c v.offset;
      right = λ qs. subst (NotBefore c) (sym (second v.lines qs)) (v.right qs);
      wrong = wrong-behind v.lines v.rest n c v.wrong;
    }
    goes_on (got y c rest) v =
        record { lines = w.lines ++ v.lines; passed = both-passed v.lines rest v.passed; offset = both-offset v.lines c v.offset; always = λ qs. second v.lines qs ∙ v.always qs }

  pub bind-local : Local p → ((x : A) → Local (k x)) → Local (bind p k)
  bind-local h g at rs = go (p at rs) (h at rs)
    where
      go : (r : Reading A) → Came p at rs r → Came (bind p k) at rs (follow r k)
      go (refused n c) w =
          record {
            lines = w.lines;
            rest = w.rest;
            passed = w.passed;
            offset = w.offset;
            right = λ qs. follow-later k (λ x. never-before (k x) (g x)) c (p at (rows w.lines ++ qs)) (w.right qs);
            wrong = wrong-on at w.lines w.rest n c w.wrong;
          }
      go (got x a q) w = goes_on at rs x a q w (k x a q) (g x a q)

pub times-local : {A : Type 0} (p : ℕ → Reader A) → ((i : ℕ) → Local (p i)) → (n i : ℕ) (acc : List A) → Local (times p n i acc)
unfolding times
times-local p h zero i acc = pure-local acc
times-local p h (suc n) i acc = bind-local (p i) (λ x. times p n (suc i) (acc ++ x ∷ [])) (h i) (λ x. times-local p h n (suc i) (acc ++ x ∷ []))

-- ---- all lines of a sheet but the last
members-local : (m n : ℕ) (r : Rep) (c : ℕ) → Local (members m n r c)
unfolding members
members-local m n ref c = bind-local (line own_line) _ (line-local own_line) λ o.
    bind-local (times (λ j. line (method_line n)) m 0 []) _ (times-local (λ j. line (method_line n)) (λ j. line-local (method_line n)) m 0 []) λ ms. pure-local _
members-local m n w32 c = pure-local _
members-local m n w64 c = pure-local _

type-local : (m c n i : ℕ) → Local (one_type m c n i)
unfolding one_type
type-local m c n i = bind-local (line _) _ (line-local _) λ x. bind-local (line _) _ (line-local _) λ r. bind-local (line _) _ (line-local _) λ k. members-local m n r k

pub body-local : Local body
unfolding body
body-local = bind-local (line _) _ (line-local _) λ g. bind-local (line _) _ (line-local _) λ s. bind-local (line _) _ (line-local _) λ m. bind-local (line _) _ (line-local _) λ c.
    bind-local (times (λ k. line (under_line c k)) c 1 []) _ (times-local (λ k. line (under_line c k)) (λ k. line-local (under_line c k)) c 1 []) λ us. bind-local (line _) _ (line-local _) λ n.
    bind-local (times (one_type m c n) n 0 []) _ (times-local (one_type m c n) (type-local m c n) n 0 []) λ ts. pure-local _
