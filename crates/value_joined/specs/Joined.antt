-- "the joined site, whose actions are all pairs, whose rewards and end worths add and whose conditions are drawn independently".
use Rattle.std.specs.Prelude.{Bool, List, [], ◌∷◌, ◌++◌, map, ℕ, suc, ◌*◌, pos, ◌+ℤ◌, ◌*ℤ◌}
use Rattle.theory.specs.Total.{◌⊕◌, weigh}
use Rattle.theory.specs.Process.{Process}
use Rattle.theory.specs.Meaning.{Model, State, action_at, numbers_from, settings, env, worth_at, end_at, power, process}

-- "all pairs", in the first's order and then the second's
unfoldable pub pairs : {A B : Type 0} → List A → List B → List (A × B)
pairs [] k = []
pairs (a ∷ l) k = map (λ b. (a, b)) k ++ pairs l k

-- what follows the first pair
unfoldable pub other_pairs : {A B : Type 0} → A → List A → B → List B → List (A × B)
other_pairs a l b k = map (λ y. (a, y)) k ++ pairs l (b ∷ k)

-- two sites as one: a state, an action and a setting are a pair of theirs. Totals with h steps left are compared times D × W^(n₁×h) × W^(n₂×h), of states that have one D
unfoldable pub joined_site : Model → Model → Process (State × State) (ℕ × ℕ) (List Bool × List Bool)
joined_site M N = record {
  -- "whose actions are all pairs"
  first = (1, 1);
  others = other_pairs 1 (numbers_from 2 M.others) 1 (numbers_from 2 N.others);
  settings = pairs (settings M.conditions) (settings N.conditions);
  -- "whose rewards .. add": none where either is
  reward = λ h a s. weigh (power M (suc h) * power N (suc h)) (worth_at (env s.0 []) (action_at M a.0).reward ⊕ worth_at (env s.1 []) (action_at N a.1).reward);
  -- "whose conditions are drawn independently": a pair of settings weighs the product
  weight = λ a s e. (process M).weight a.0 s.0 e.0 * (process N).weight a.1 s.1 e.1;
  -- "two chains that share no water and no condition": each goes on by itself
  next = λ a s e. ((process M).next a.0 s.0 e.0, (process N).next a.1 s.1 e.1);
  -- "and end worths add"
  end = λ s. end_at (env s.0 []) M.end +ℤ end_at (env s.1 []) N.end;
}

-- the same over any two processes, which laws are about: the first side times p, the second times q of the steps left
abbrev pub joined : {S A E R B D : Type 0} → (ℕ → ℕ) → (ℕ → ℕ) → Process S A E → Process R B D → Process (S × R) (A × B) (E × D)
joined p q P Q = record {
  first = (P.first, Q.first);
  others = other_pairs P.first P.others Q.first Q.others;
  settings = pairs P.settings Q.settings;
  reward = λ h a s. weigh (p (suc h)) (P.reward h a.0 s.0) ⊕ weigh (q (suc h)) (Q.reward h a.1 s.1);
  weight = λ a s e. P.weight a.0 s.0 e.0 * Q.weight a.1 s.1 e.1;
  next = λ a s e. (P.next a.0 s.0 e.0, Q.next a.1 s.1 e.1);
  end = λ s. pos (p 0) *ℤ P.end s.0 +ℤ pos (q 0) *ℤ Q.end s.1;
}
