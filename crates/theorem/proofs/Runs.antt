-- A run is its requests followed, its outcomes feed the book, and the state that it returns means the model's and passes the check of 2 again.
use mathlib.Core.Path.{◌≡◌, refl, ap, sym, subst, ◌∙◌}
use mathlib.Core.Bool.{So}
use mathlib.Core.List.{List, [], ◌∷◌, ◌++◌}
use mathlib.Core.Option.{Option, none, some}
use Prim.Native.Nat.{ℕ, ◌≤◌, ◌<◌}
use lib.ListN.{length, get_elem?}
use native.Mathlib.Omega.{arith}
use native.Mathlib.Decide.{dec_lt}
use Rattle.spec_model.specs.Table.{Table, size, type_at, table_fits, valid_sheet}
use Rattle.spec_model.specs.Requests.{System, Request, outcome, loaded, serve, after, run}
use Rattle.spec_model.specs.Check.{RawSystem, table_of, system_of, codes_fit, system_fits, system_accepted}
use Rattle.spec_model.specs.Handed.{stored_from}
use Rattle.spec_model.specs.Book.{Book, opened}
use Rattle.spec_model.specs.Claim.{accepted, feed, follow, reached}
use Rattle.spec_model.specs.Callers.{Transcript, taken, seen}
use Rattle.spec_model.proofs.Growth.{grown-refl, grown-trans}
use Rattle.law_model.proofs.Checked.{system-fitting, fits-bounded}
use Rattle.law_model.proofs.Reached.{reached-fits}
use Rattle.law_model.proofs.Returned.{NewType, Added, request-adds, system-means, accepted-codes, accept, stored-codes, stored-state-codes}
use Rattle.law_rules.proofs.Callers.{taken_is}
use Rattle.request_run.specs.Requested.{asked, placed}
use Rattle.theorem.specs.Shown.{fed, seen_of}

pub run-follows : (qs : List (Option Request)) (s : System) (b : Book) → let m = run s (asked qs) in follow s b (asked qs) ≡ (m.1, fed b (seen_of qs (placed qs m.0)))
unfolding run follow
run-follows [] s b = refl
run-follows (none ∷ qs) s b = run-follows qs s b
run-follows (some q ∷ qs) s b = let a = serve s q in let m = run (after s a) (asked qs) in
    run-follows qs (after s a) (feed b q (accepted a)) ∙ ap (λ x. (m.1, fed (feed b q x) (seen_of qs (placed qs m.0)))) (sym (taken_is a))

-- what is no request is in no transcript
pub seen_placed : (qs : List (Option Request)) (s : System) → let os = (run s (asked qs)).0 in seen_of qs (placed qs os) ≡ seen (asked qs) os
unfolding run
seen_placed [] s = refl
seen_placed (none ∷ qs) s = seen_placed qs s
seen_placed (some q ∷ qs) s = let a = serve s q in ap (λ (l : Transcript). (q, taken (outcome a)) ∷ l) (seen_placed qs (after s a))

-- a request in the middle of a run is served on the state that those before it left, whose transcript is that of the outcomes before
pub placed_at : (before behind : List (Option Request)) (q : Request) (s : System) → let qs = before ++ (some q ∷ behind) in
    get_elem? (placed qs (run s (asked qs)).0) (length before) ≡ some (outcome (serve (run s (asked before)).1 q))
unfolding run
placed_at [] behind q s = refl
placed_at (none ∷ before) behind q s = placed_at before behind q s
placed_at (some p ∷ before) behind q s = placed_at before behind q (after s (serve s p))

pub seen-before : (before behind : List (Option Request)) (q : Request) (s : System) → let qs = before ++ (some q ∷ behind) in
    seen_of before (placed qs (run s (asked qs)).0) ≡ seen_of before (placed before (run s (asked before)).0)
unfolding run
seen-before [] behind q s = refl
seen-before (none ∷ before) behind q s = seen-before before behind q s
seen-before (some p ∷ before) behind q s = ap (λ (l : Transcript). (p, taken (outcome (serve s p))) ∷ l) (seen-before before behind q (after s (serve s p)))

pub fed-both : (l m : Transcript) (b : Book) → fed b (l ++ m) ≡ fed (fed b l) m
fed-both [] m b = refl
fed-both (x ∷ l) m b = fed-both l m (feed b x.0 x.1)

pub follow-both : (ps qs : List Request) (s : System) (b : Book) → follow s b (ps ++ qs) ≡ follow (follow s b ps).0 (follow s b ps).1 qs
unfolding follow
follow-both [] qs s b = refl
follow-both (p ∷ ps) qs s b = follow-both ps qs (after s (serve s p)) (feed b p (accepted (serve s p)))

-- what is added and added to
added-on : (t u w : Table) → Added t u → Added u w → Added t w
added-on t u w a b = record { sound = b.sound; grown = grown-trans a.grown b.grown; each = λ i l k. go i l k (dec_lt i (size u)) }
  where
    go : (i : ℕ) → size t ≤ i → i < size w → Dec (i < size u) → NewType (type_at w i)
    go i l k (yes h) = rw (b.grown.same i h) (a.each i l h)
    go i l k (no h) = b.each i (omega arith) k

module _ (t : Table) (v : So (valid_sheet t)) where
  pub follow-added : (qs : List Request) (s : System) (b : Book) → ((ps : List Request) → So (system_fits (follow s b ps).0)) → Added s.table (follow s b qs).0.table
  unfolding follow
  follow-added [] s b f = record { sound = (fits-bounded s (f [])).table; grown = grown-refl s.table; each = λ i l k. absurd (omega arith) }
  follow-added (q ∷ qs) s b f = let a = serve s q in
      added-on s.table (after s a).table _ (request-adds s (f []) q) (follow-added qs (after s a) (feed b q (accepted a)) (λ ps. f (q ∷ ps)))

  -- what is stored of a state that the model reaches from the one that r means
  module _ (r : RawSystem) (h : So (system_accepted r)) (ps qs : List Request) (e : system_of r ≡ (reached t ps).0) where
    abbrev m : System
    m = (reached t (ps ++ qs)).0

    on : (zs : List Request) → (reached t (ps ++ zs)).0 ≡ (follow (reached t ps).0 (reached t ps).1 zs).0
    on zs = ap (λ x. x.0) (follow-both ps zs (loaded t) (opened t))

    adds : Added (table_of r.table) m.table
    unfolding system_of
    adds = let x = reached t ps in
        subst (λ s. Added s.table m.table) (sym e) (subst (λ s. Added x.0.table s.table) (sym (on qs))
        (follow-added qs x.0 x.1 (λ zs. subst (λ s. So (system_fits s)) (on zs) (reached-fits t v (ps ++ zs)))))

    fits : So (table_fits (table_of r.table))
    unfolding system_of
    fits = (system-fitting (system_of r) (accepted-codes r h).2).table

    pub stored-means : system_of (stored_from r m) ≡ m
    stored-means = system-means r fits m adds

    codes : So (codes_fit (stored_from r m).table)
    unfolding stored_from
    codes = stored-codes r.table fits (accepted-codes r h).0 m.table adds

    pub stored-accepted : So (system_accepted (stored_from r m))
    stored-accepted = accept (stored_from r m) codes (stored-state-codes r m) (subst (λ s. So (system_fits s)) (sym stored-means) (reached-fits t v (ps ++ qs)))
