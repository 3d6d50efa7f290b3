-- The exchange argument: where two lists are in order, what one pass over them pairs is the most that can be paired (V6, V8).
use mathlib.Core.Path.{◌≡◌, refl, ap, sym, ◌∙◌}
use mathlib.Core.Logic.{◌⊎◌, inl, inr}
use mathlib.Core.List.{List, [], ◌∷◌}
use Prim.Native.Nat.{ℕ, suc, ◌+◌, ◌≤◌, ◌<◌}
use native.Mathlib.Omega.{arith}
use native.Mathlib.Decide.{ℕ_discrete}
use lib.ListN.{length}
use Rattle.spec_doors.specs.Paired.{time, Pair, Near, Apart, Each, nil, and, Pairing, empty, also, Most}
use Rattle.spec_doors.proofs.Rising.{Ordered}

each_map : {P Q : Pair → Type 0} → ((p : Pair) → P p → Q p) → {ps : List Pair} → Each P ps → Each Q ps
each_map f nil = nil
each_map f (and h hs) = and (f _ h) (each_map f hs)

each_both : {P Q : Pair → Type 0} {ps : List Pair} → Each P ps → Each Q ps → Each (λ p. P p × Q p) ps
each_both nil nil = nil
each_both (and h hs) (and k ks) = and (h, k) (each_both hs ks)

each_first : {P : Pair → Type 0} {p : Pair} {ps : List Pair} → Each P (p ∷ ps) → P p
each_first (and h hs) = h

each-rest : {P : Pair → Type 0} {p : Pair} {ps : List Pair} → Each P (p ∷ ps) → Each P ps
each-rest (and h hs) = hs

-- both indices from here on
record From (i j : ℕ) (p : Pair) : Type 0 where
  mark : i ≤ p.mark
  arrival : j ≤ p.arrival

-- both indices before
record Below (i j : ℕ) (p : Pair) : Type 0 where
  mark : p.mark < i
  arrival : p.arrival < j

-- an index that is not the first of those left
farther : (i k : ℕ) → i ≤ k → (k ≡ i → ⊥) → i + 1 ≤ k
farther i k h n = go (ℕ_discrete k i)
  where
    go : Dec (k ≡ i) → i + 1 ≤ k
    go (yes e) = absurd (n e)
    go (no e) = omega arith

module _ (marks arrivals : List ℕ) (within : ℕ) where
  -- ---- One pair of a pairing, and the others
  -- the pair that has entry k, mark or arrival by `key`; `rest` keeps what all pairs had in common
  record Pulled (key : Pair → ℕ) (k : ℕ) (ps : List Pair) : Type 1 where
    pair : Pair
    is : key pair ≡ k
    near : Near marks arrivals within pair
    rest : List Pair
    apart : Each (Apart pair) rest
    pairing : Pairing marks arrivals within rest
    size : length ps ≡ suc (length rest)
    kept : (Q : Pair → Type 0) → Each Q ps → Q pair × Each Q rest

  pull : (key : Pair → ℕ) (k : ℕ) {ps : List Pair} → Pairing marks arrivals within ps → Each (λ p. key p ≡ k → ⊥) ps ⊎ Pulled key k ps
  pull key k empty = inl nil
  pull key k (also {p} {ps} n a w) = go (ℕ_discrete (key p) k) (pull key k w)
    where
      go : Dec (key p ≡ k) → Each (λ q. key q ≡ k → ⊥) ps ⊎ Pulled key k ps → Each (λ q. key q ≡ k → ⊥) (p ∷ ps) ⊎ Pulled key k (p ∷ ps)
      go (yes e) r = inr (record { pair = p; is = e; near = n; rest = ps; apart = a; pairing = w; size = refl; kept = λ Q h. (each_first h, each-rest h) })
      go (no e) (inl o) = inl (and e o)
      go (no e) (inr x) = inr (record {
        pair = x.pair;
        is = x.is;
        near = x.near;
        rest = p ∷ x.rest;
        apart = (let h : Apart p x.pair = (x.kept (Apart p) a).0 in and ((λ f. h.0 (sym f)), (λ f. h.1 (sym f))) x.apart);
        pairing = also n (x.kept (Apart p) a).1 x.pairing;
        size = ap suc x.size;
        kept = λ Q h. (let r : Q x.pair × Each Q x.rest = x.kept Q (each-rest h) in (r.0, and (each_first h) r.1));
      })

  near-each : {ps : List Pair} → Pairing marks arrivals within ps → Each (Near marks arrivals within) ps
  near-each empty = nil
  near-each (also n a w) = and n (near-each w)

  -- ---- Where the pass stands
  -- a pairing of what is left from i and j on, of at most n pairs less than ps
  record Left (i j n : ℕ) (ps : List Pair) : Type 0 where
    rest : List Pair
    pairing : Pairing marks arrivals within rest
    from : Each (From i j) rest
    size : length ps ≤ n + length rest

  -- n pairs were made before i and j, and no pairing has more than n pairs more than one of what is left
  pub record Passed (i j n : ℕ) : Type 0 where
    pairs : List Pair
    pairing : Pairing marks arrivals within pairs
    size : length pairs ≡ n
    below : Each (Below i j) pairs
    left : (ps : List Pair) → Pairing marks arrivals within ps → Left i j n ps

  pub begin : Passed 0 0 0
  begin = record { pairs = []; pairing = empty; size = refl; below = nil; left = λ ps w. record { rest = ps; pairing = w; from = all ps; size = omega arith } }
    where
      all : (ps : List Pair) → Each (From 0 0) ps
      all [] = nil
      all (p ∷ ps) = and {p = p} (record { mark = omega arith; arrival = omega arith }) (all ps)

  nothing_left : (i j : ℕ) → (length marks ≤ i) ⊎ (length arrivals ≤ j) → (ps : List Pair) → Pairing marks arrivals within ps → Each (From i j) ps → length ps ≡ 0
  nothing_left i j e [] w f = refl
  nothing_left i j (inl e) (p ∷ ps) (also n a w) (and f fs) = absurd (omega arith)
  nothing_left i j (inr e) (p ∷ ps) (also n a w) (and f fs) = absurd (omega arith)

  pub end : (i j n : ℕ) → (length marks ≤ i) ⊎ (length arrivals ≤ j) → Passed i j n → Most marks arrivals within n
  end i j n e s = record {
    pairs = s.pairs;
    pairing = s.pairing;
    size = s.size;
    largest = λ ps w.
        let l : Left i j n ps = s.left ps w in
        let z : length l.rest ≡ 0 = nothing_left i j e l.rest l.pairing l.from in
        omega (arith, l.size);
  }

  -- the pass goes on to where every pair of what is left stands
  passed_over : (i j n k l : ℕ) → i ≤ k → j ≤ l → ((p : Pair) → Near marks arrivals within p × From i j p → From k l p) → Passed i j n → Passed k l n
  passed_over i j n k l hk hl step s = record {
    pairs = s.pairs;
    pairing = s.pairing;
    size = s.size;
    below = each_map (λ p b. record { mark = omega (arith, b.mark); arrival = omega (arith, b.arrival) }) s.below;
    left = λ ps w. (let x : Left i j n ps = s.left ps w in
        record { rest = x.rest; pairing = x.pairing; size = x.size; from = each_map step (each_both (near-each x.pairing) x.from) });
  }

  module _ (om : Ordered marks) (oa : Ordered arrivals) (i j n : ℕ) (mi : i < length marks) (aj : j < length arrivals) where
    -- mark i is too early for every arrival that is left
    pub skip-mark : time marks i + within < time arrivals j → Passed i j n → Passed (i + 1) j n
    skip-mark far = passed_over i j n (i + 1) j (omega arith) (omega arith)
        λ p h. record { mark = farther i p.mark h.1.mark (unpaired p h.0 h.1); arrival = h.1.arrival }
      where
        unpaired : (p : Pair) → Near marks arrivals within p → From i j p → p.mark ≡ i → ⊥
        unpaired p near from e = let o : time arrivals j ≤ time arrivals p.arrival = oa j p.arrival from.arrival near.arrival in
            let q : time marks p.mark ≡ time marks i = ap (time marks) e in absurd (omega (arith, near.late))

    -- arrival j is too early for every mark that is left
    pub skip-arrival : time arrivals j + within < time marks i → Passed i j n → Passed i (j + 1) n
    skip-arrival far = passed_over i j n i (j + 1) (omega arith) (omega arith)
        λ p h. record { mark = h.1.mark; arrival = farther j p.arrival h.1.arrival (unpaired p h.0 h.1) }
      where
        unpaired : (p : Pair) → Near marks arrivals within p → From i j p → p.arrival ≡ j → ⊥
        unpaired p near from e = let o : time marks i ≤ time marks p.mark = om i p.mark from.mark near.mark in
            let q : time arrivals p.arrival ≡ time arrivals j = ap (time arrivals) e in absurd (omega (arith, near.early))

    module _ (early : time marks i ≤ time arrivals j + within) (late : time arrivals j ≤ time marks i + within) where
      past : (p : Pair) → From i j p → (p.mark ≡ i → ⊥) → (p.arrival ≡ j → ⊥) → From (i + 1) (j + 1) p
      past p f m a = record { mark = farther i p.mark f.mark m; arrival = farther j p.arrival f.arrival a }

      -- Mark i is in x and arrival j in y, another pair: x's arrival and y's mark are near each other, so that one pair of these stands for the two.
      module _ {ps : List Pair} (x : Pulled (λ p. p.mark) i ps) (y : Pulled (λ p. p.arrival) j x.rest) (f : Each (From i j) ps) where
        swapped : Pair
        swapped = record { mark = y.pair.mark; arrival = x.pair.arrival }

        from-x : From i j x.pair × Each (From i j) x.rest
        from-x = x.kept (From i j) f

        from-y : From i j y.pair × Each (From i j) y.rest
        from-y = y.kept (From i j) from-x.1

        x-apart : Apart x.pair y.pair × Each (Apart x.pair) y.rest
        x-apart = y.kept (Apart x.pair) x.apart

        swapped-past : From (i + 1) (j + 1) swapped
        unfolding swapped
        swapped-past = record {
          mark = farther i y.pair.mark from-y.0.mark (λ e. x-apart.0.0 (x.is ∙ sym e));
          arrival = farther j x.pair.arrival from-x.0.arrival (λ e. x-apart.0.1 (e ∙ sym y.is));
        }

        swapped-near : Near marks arrivals within swapped
        unfolding swapped
        swapped-near = let m : time marks i ≤ time marks y.pair.mark = om i y.pair.mark from-y.0.mark y.near.mark in
            let a : time arrivals j ≤ time arrivals x.pair.arrival = oa j x.pair.arrival from-x.0.arrival x.near.arrival in
            let p : time marks x.pair.mark ≡ time marks i = ap (time marks) x.is in
            let q : time arrivals y.pair.arrival ≡ time arrivals j = ap (time arrivals) y.is in
            record { mark = y.near.mark; arrival = x.near.arrival; early = omega (arith, y.near.early); late = omega (arith, x.near.late) }

        exchanged : Left (i + 1) (j + 1) 1 ps
        unfolding swapped
        exchanged = record {
          rest = swapped ∷ y.rest;
          pairing = also swapped-near (each_map (λ p h. (h.0.0, h.1.1)) (each_both y.apart x-apart.1)) y.pairing;
          from = and {p = swapped} swapped-past
              (each_map (λ p h. past p h.0 (λ e. h.1.0.0 (x.is ∙ sym e)) (λ e. h.1.1.1 (y.is ∙ sym e))) (each_both from-y.1 (each_both x-apart.1 y.apart)));
          size = omega (arith, x.size, y.size);
        }

      -- Of a pairing from i and j on, one from behind them has at most one pair less.
      one_less : (ps : List Pair) → Pairing marks arrivals within ps → Each (From i j) ps → Left (i + 1) (j + 1) 1 ps
      one_less ps w f = by-mark (pull (λ p. p.mark) i w)
        where
          -- mark i is in no pair
          alone : Each (λ p. p.mark ≡ i → ⊥) ps → Each (λ p. p.arrival ≡ j → ⊥) ps ⊎ Pulled (λ p. p.arrival) j ps → Left (i + 1) (j + 1) 1 ps
          alone o (inl q) = record { rest = ps; pairing = w; from = each_map (λ p h. past p h.0 h.1.0 h.1.1) (each_both f (each_both o q)); size = omega arith }
          alone o (inr y) = record {
            rest = y.rest;
            pairing = y.pairing;
            from = each_map (λ p h. past p h.0 h.1.0 (λ e. h.1.1.1 (y.is ∙ sym e)))
                (each_both (y.kept (From i j) f).1 (each_both (y.kept (λ p. p.mark ≡ i → ⊥) o).1 y.apart));
            size = omega (arith, y.size);
          }

          -- it is in x
          taken : (x : Pulled (λ p. p.mark) i ps) → Each (λ p. p.arrival ≡ j → ⊥) x.rest ⊎ Pulled (λ p. p.arrival) j x.rest → Left (i + 1) (j + 1) 1 ps
          taken x (inl q) = record {
            rest = x.rest;
            pairing = x.pairing;
            from = each_map (λ p h. past p h.0 (λ e. h.1.0.0 (x.is ∙ sym e)) h.1.1) (each_both (x.kept (From i j) f).1 (each_both x.apart q));
            size = omega (arith, x.size);
          }
          taken x (inr y) = exchanged x y f

          by-mark : Each (λ p. p.mark ≡ i → ⊥) ps ⊎ Pulled (λ p. p.mark) i ps → Left (i + 1) (j + 1) 1 ps
          by-mark (inl o) = alone o (pull (λ p. p.arrival) j w)
          by-mark (inr x) = taken x (pull (λ p. p.arrival) j x.pairing)

      pub pair-both : Passed i j n → Passed (i + 1) (j + 1) (n + 1)
      pair-both s = record {
        pairs = here ∷ s.pairs;
        pairing = also {p = here} (record { mark = mi; arrival = aj; early = early; late = late })
            (each_map (λ p b. ((λ e. absurd (omega (arith, b.mark))), (λ e. absurd (omega (arith, b.arrival))))) s.below) s.pairing;
        size = omega (arith, s.size);
        below = and {p = here} (record { mark = omega arith; arrival = omega arith })
            (each_map (λ p b. record { mark = omega (arith, b.mark); arrival = omega (arith, b.arrival) }) s.below);
        left = λ ps w. (let l : Left i j n ps = s.left ps w in
            let x : Left (i + 1) (j + 1) 1 l.rest = one_less l.rest l.pairing l.from in
            record { rest = x.rest; pairing = x.pairing; from = x.from; size = omega (arith, l.size, x.size) });
      }
        where
          here : Pair
          here = record { mark = i; arrival = j }
