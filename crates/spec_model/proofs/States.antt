-- A fact about every state, or every two or three of them, by computing it at each.
use mathlib.Core.Bool.{Bool, ◌&&◌, So}
use Rattle.spec_model.specs.Table.{State, denied, optional, avail, unavail}
use Rattle.spec_model.proofs.Rules.{first, second}

pub each : (P : State → Bool) → So (P denied && (P optional && (P avail && P unavail))) → (s : State) → So (P s)
each P h denied = first (P denied) _ h
each P h optional = first (P optional) _ (second (P denied) _ h)
each P h avail = first (P avail) _ (second (P optional) _ (second (P denied) _ h))
each P h unavail = second (P avail) _ (second (P optional) _ (second (P denied) _ h))

abbrev pub each_b : (State → Bool) → Bool
each_b P = P denied && (P optional && (P avail && P unavail))

pub each₂ : (P : State → State → Bool) → So (each_b λ a. each_b λ b. P a b) → (a b : State) → So (P a b)
each₂ P h a = each (P a) (each (λ a. each_b (P a)) h a)

pub each₃ : (P : State → State → State → Bool) → So (each_b λ a. each_b λ b. each_b λ c. P a b c) → (a b c : State) → So (P a b c)
each₃ P h a = each₂ (P a) (each (λ a. each_b λ b. each_b λ c. P a b c) h a)
