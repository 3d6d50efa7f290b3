-- The text of each kind of line, by what the code reads off the bytes.
use mathlib.Core.Path.{◌≡◌, sym, ap, ◌∙◌}
use mathlib.Core.Bool.{Bool, true, false, cond}
use mathlib.Core.List.{List, [], ◌∷◌, ◌++◌, append_assoc, append-nil}
use Prim.Native.Nat.{ℕ, zero, suc, ◌+◌, ◌<◌}
use native.Mathlib.Nat.{not-suc-le-zero, le_of_suc-le-suc}
use native.Mathlib.Numerals.{add-one}
use lib.Dec.{eqb}
use lib.ListN.{length, get_or, take}
use Rattle.spec_model.specs.Check.{answer_of, links_of}
use Rattle.table_record.specs.declared.Links.{Links}
use Rattle.table_record.specs.Store.{raw_links}
use Rattle.spec_sheet.specs.Lines.{bytes, join}
use Rattle.spec_sheet.specs.Numbers.{decimal, tails, commas}
use Rattle.spec_sheet.specs.Text.{number_text, under_text, answer_text}
use Rattle.sheet_write_line.specs.Pieces.{argument_text, closing_text, signed_text, second_text}

-- ---- a signature
tails-next : (r : List ℕ) (i : ℕ) → i < length r → tails (take i r) ++ (44 ∷ decimal (get_or r i 0)) ≡ tails (take (suc i) r)
tails-next [] i h = absurd (not-suc-le-zero h)
tails-next (a ∷ r) zero h = sym (append-nil (44 ∷ decimal a))
tails-next (a ∷ r) (suc i) h = append_assoc (44 ∷ decimal a) (tails (take i r)) (44 ∷ decimal (get_or r i 0)) ∙ ap (λ z. 44 ∷ decimal a ++ z) (tails-next r i (le_of_suc-le-suc h))

commas-next : (r : List ℕ) (i : ℕ) → i < length r → commas (take i r) ++ argument_text i (get_or r i 0) ≡ commas (take (suc i) r)
unfolding number_text
commas-next [] i h = absurd (not-suc-le-zero h)
commas-next (a ∷ r) zero h = sym (append-nil (decimal a))
commas-next (a ∷ r) (suc i) h = append_assoc (decimal a) (tails (take i r)) (44 ∷ decimal (get_or r i 0)) ∙ ap (λ z. decimal a ++ z) (tails-next r i (le_of_suc-le-suc h))

-- one argument more
pub argument-next : (args : List ℕ) (i n : ℕ) → i < length args → n ≡ get_or args i 0 → commas (take i args) ++ argument_text i n ≡ commas (take (i + 1) args)
argument-next args i n h e = ap (λ z. commas (take i args) ++ argument_text i z) e ∙ commas-next args i h ∙ ap (λ z. commas (take z args)) (sym (add-one i))

-- the whole line of a signature
pub signed_is : (key args : List ℕ) (n count a : ℕ) → n ≡ count → (key ++ commas (take n args)) ++ closing_text a ≡ signed_text key count args a ++ 10 ∷ []
signed_is key args n count a e =
    ap (λ z. (key ++ commas (take z args)) ++ closing_text a) e
    ∙ append_assoc key (commas (take count args)) (closing_text a)
    ∙ ap (λ z. key ++ z) (sym (append_assoc (commas (take count args)) (41 ∷ answer_text (answer_of a)) (10 ∷ [])))
    ∙ sym (append_assoc key (commas (take count args) ++ 41 ∷ answer_text (answer_of a)) (10 ∷ []))

-- ---- broader categories
module _ (x : Links) where
  pub under-is : (n : ℕ) → n ≡ x.first → number_text (bytes "under=") n ++ second_text x ≡ under_text (links_of (raw_links x)) ++ 10 ∷ []
  unfolding number_text under_text join
  under-is n e = ap (λ z. (bytes "under=" ++ decimal z) ++ second_text x) e ∙ go (eqb x.count 2)
    where
      go : (b : Bool) → (bytes "under=" ++ decimal x.first) ++ cond b (((44 ∷ []) ++ decimal x.second) ++ 10 ∷ []) (10 ∷ [])
          ≡ (bytes "under=" ++ commas (cond b (x.first ∷ x.second ∷ []) (x.first ∷ []))) ++ 10 ∷ []
      go true = simp (append_assoc, append-nil)
      go false = simp (append_assoc, append-nil)
