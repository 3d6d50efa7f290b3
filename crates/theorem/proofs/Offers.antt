-- What a state of a history offers is what the page of the cell permits (L21), for any numbers.
use mathlib.Core.Path.{◌≡◌, refl, ap, sym, subst, ◌∙◌}
use mathlib.Core.Logic.{◌↔◌}
use mathlib.Core.Bool.{Bool, true, false, So}
use mathlib.Core.List.{List, map}
use lib.IntN.{ℤ}
use lib.ListN.{length}
use Rattle.spec_model.specs.Basics.{ok, need, names, named}
use Rattle.spec_model.specs.Requests.{System}
use Rattle.spec_model.specs.Check.{RawSystem, system_of}
use Rattle.spec_model.specs.Book.{Book}
use Rattle.spec_model.proofs.Rules.{never, first, second, both}
use Rattle.spec_model.specs.Refusals.{out_of_range}
use Rattle.law_model.proofs.Demand3.{names-below}
use Rattle.state_offers.specs.Chained.{methods_named, offers_named, offers_handed}
use Rattle.theorem.specs.Shown.{Holds, Permitted}

module _ (r : RawSystem) (b : Book) (x : Holds r b) (k : ℤ) (w : List ℤ) where
  abbrev s : System
  s = system_of r

  -- the state passes the check of 2
  pub offers-is : offers_handed r k w ≡ ok (offers_named s k w)
  unfolding offers_handed
  offers-is = ap (λ (c : Bool). need c out_of_range λ _. ok (offers_named s k w)) x.passes

  offers-to : So (offers_named s k w) → Permitted b k w
  unfolding offers_named
  offers-to h =
      let cell = first (names k (length s.cells)) _ h in
      let rest = second (names k (length s.cells)) _ h in
      let p = (x.claim.chains (named k) (names-below k _ cell) (map named w)).0 (second (methods_named s.table w) _ rest) in
      record {
        page = subst (λ n. So (names k n)) (sym x.claim.pages) cell;
        methods = subst (λ t. So (methods_named t w)) (sym x.claim.table) (first (methods_named s.table w) _ rest);
        class = p.0;
        trail = p.1;
      }

  offers-from : Permitted b k w → So (offers_named s k w)
  unfolding offers_named
  offers-from p =
      let cell = subst (λ n. So (names k n)) x.claim.pages p.page in
      let known = subst (λ t. So (methods_named t w)) x.claim.table p.methods in
      both cell (both known ((x.claim.chains (named k) (names-below k _ cell) (map named w)).1 (p.class, p.trail)))

  -- yes exactly where the page permits it, and else no
  pub offers-yes : (offers_named s k w ≡ true) ↔ Permitted b k w
  offers-yes = (offers-to, offers-from)

  pub offers-no : (offers_named s k w ≡ false) ↔ (Permitted b k w → ⊥)
  offers-no = (λ e p. never (sym e ∙ offers-from p), λ h. go (offers_named s k w) (λ e. h (offers-to e)))
    where
      go : (c : Bool) → (c ≡ true → ⊥) → c ≡ false
      go true h = absurd (h refl)
      go false h = refl
