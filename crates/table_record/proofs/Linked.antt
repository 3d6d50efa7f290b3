-- What storing a category's broader links does to the list of links.
use mathlib.Core.Path.{◌≡◌, sym, ap, ◌∙◌, subst}
use mathlib.Core.Logic.{⊎_elim}
use mathlib.Core.List.{List}
use Prim.Native.Nat.{ℕ, suc, ◌+◌, ◌*◌, ◌≤◌, ◌<◌}
use native.Mathlib.Omega.{arith}
use lib.ListN.{length, get_or, set, length-set}
use lib.Seq.{sets, get_or-set_same, get_or-set_other}
use Rattle.spec_model.specs.Check.{RawLinks, no_raw_links}
use Rattle.spec_model.specs.Table.{max_categories}
use Rattle.table_record.specs.Store.{raw_links_at, links_in, links_bytes}
use Rattle.table_record.proofs.Lists.{lt-or-ge, same_or, is-from, three}
use Rattle.table_record.proofs.Laws.{links-length, links-in}
use Rattle.table_record.specs.Layout.{link_size, links_size}

-- Three bytes stored at k * 3 are the links of category k.
module _ (l : List ℕ) (k x y z : ℕ) (h : k < suc max_categories) (e : length l ≡ links_size) where
  stored : List ℕ
  stored = set (set (set l (k * link_size) x) (k * link_size + 1) y) (k * link_size + 2) z

  elsewhere : (p : ℕ) → (p ≡ k * link_size → ⊥) → (p ≡ k * link_size + 1 → ⊥) → (p ≡ k * link_size + 2 → ⊥) → get_or stored p 0 ≡ get_or l p 0
  unfolding stored
  elsewhere p a b c =
      get_or-set_other (set (set l (k * link_size) x) (k * link_size + 1) y) (k * link_size + 2) p z 0 c ∙ get_or-set_other (set l (k * link_size) x) (k * link_size + 1) p y 0 b
      ∙ get_or-set_other l (k * link_size) p x 0 a

  first : get_or stored (k * link_size) 0 ≡ x
  unfolding stored
  first =
      get_or-set_other (set (set l (k * link_size) x) (k * link_size + 1) y) (k * link_size + 2) (k * link_size) z 0 (λ q. omega arith)
      ∙ get_or-set_other (set l (k * link_size) x) (k * link_size + 1) (k * link_size) y 0 (λ q. omega arith)
      ∙ get_or-set_same l (k * link_size) x 0 (omega arith)

  second : get_or stored (k * link_size + 1) 0 ≡ y
  unfolding stored
  second =
      let f : length (set l (k * link_size) x) ≡ links_size = length-set l (k * link_size) x ∙ e in
      get_or-set_other (set (set l (k * link_size) x) (k * link_size + 1) y) (k * link_size + 2) (k * link_size + 1) z 0 (λ q. omega arith)
      ∙ get_or-set_same (set l (k * link_size) x) (k * link_size + 1) y 0 (omega arith)

  third : get_or stored (k * link_size + 2) 0 ≡ z
  unfolding stored
  third =
      let f : length (set (set l (k * link_size) x) (k * link_size + 1) y) ≡ links_size = length-set (set l (k * link_size) x) (k * link_size + 1) y ∙ length-set l (k * link_size) x ∙ e in
      get_or-set_same (set (set l (k * link_size) x) (k * link_size + 1) y) (k * link_size + 2) z 0 (omega arith)

  at-k : raw_links_at stored (k * link_size) ≡ record { count = x; first = y; second = z }
  at-k =
      ap (λ (v : ℕ). let r : RawLinks = record { count = v; first = get_or stored (k * link_size + 1) 0; second = get_or stored (k * link_size + 2) 0 } in r) first
      ∙ ap (λ (v : ℕ). let r : RawLinks = record { count = x; first = v; second = get_or stored (k * link_size + 2) 0 } in r) second
      ∙ ap (λ (v : ℕ). let r : RawLinks = record { count = x; first = y; second = v } in r) third

  at_other : (i : ℕ) → (i ≡ k → ⊥) → raw_links_at l (i * link_size) ≡ raw_links_at stored (i * link_size)
  at_other i ne =
      ⊎_elim
      (λ (lt : i < k). go i (λ p a. omega arith) (λ p a. omega arith) (λ p a. omega arith))
      (λ (ge : k ≤ i). let gt : k < i = omega (arith, ne) in go i (λ p a. omega arith) (λ p a. omega arith) (λ p a. omega arith))
      (lt-or-ge i k)
    where
      go : (i : ℕ) → ((p : ℕ) → p < 3 → i * link_size + p ≡ k * link_size → ⊥) → ((p : ℕ) → p < 3 → i * link_size + p ≡ k * link_size + 1 → ⊥)
          → ((p : ℕ) → p < 3 → i * link_size + p ≡ k * link_size + 2 → ⊥) → raw_links_at l (i * link_size) ≡ raw_links_at stored (i * link_size)
      go i a b c =
          let zero' : i * link_size + 0 ≡ i * link_size = omega arith in
          ap (λ (v : ℕ). let r : RawLinks = record { count = v; first = get_or l (i * link_size + 1) 0; second = get_or l (i * link_size + 2) 0 } in r)
          (sym (elsewhere (i * link_size) (λ q. a 0 (omega arith) (zero' ∙ q)) (λ q. b 0 (omega arith) (zero' ∙ q)) (λ q. c 0 (omega arith) (zero' ∙ q))))
          ∙ ap (λ (v : ℕ). let r : RawLinks = record { count = get_or stored (i * link_size) 0; first = v; second = get_or l (i * link_size + 2) 0 } in r)
          (sym (elsewhere (i * link_size + 1) (a 1 (omega arith)) (b 1 (omega arith)) (c 1 (omega arith))))
          ∙ ap (λ (v : ℕ). let r : RawLinks = record { count = get_or stored (i * link_size) 0; first = get_or stored (i * link_size + 1) 0; second = v } in r)
          (sym (elsewhere (i * link_size + 2) (a 2 (omega arith)) (b 2 (omega arith)) (c 2 (omega arith))))

  three-put : links_in stored ≡ set (links_in l) k (record { count = x; first = y; second = z })
  unfolding links_in
  three-put =
      let r : RawLinks = record { count = x; first = y; second = z } in
      is-from (λ i. raw_links_at stored (i * link_size)) (suc max_categories) no_raw_links (set (links_in l) k r) (length-set (links_in l) k r ∙ links-length l)
      (λ i p. ⊎_elim
      (λ (q : i ≡ k). ap (λ (v : ℕ). get_or (set (links_in l) k r) v no_raw_links) q ∙ get_or-set_same (links_in l) k r no_raw_links (subst (λ (v : ℕ). k < v) (sym (links-length l)) h) ∙ sym at-k
      ∙ ap (λ (v : ℕ). raw_links_at stored (v * link_size)) (sym q))
      (λ (q : i ≡ k → ⊥). get_or-set_other (links_in l) k i r no_raw_links q ∙ links-in l i no_raw_links p ∙ at_other i q)
      (same_or i k))

-- What `put_links` stores, as its callers use it.
pub links-put : (l : List ℕ) (k : ℕ) (x : RawLinks) → k < suc max_categories → length l ≡ links_size → links_in (sets l (k * link_size) (links_bytes x)) ≡ set (links_in l) k x
unfolding stored
links-put l k x h e = ap links_in (sym (three l (k * link_size) x.count x.first x.second)) ∙ three-put l k x.count x.first x.second h e
