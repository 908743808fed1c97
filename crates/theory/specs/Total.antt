-- What an action or a policy comes to: a number, or none. "A state has the value "none" exactly when no policy gets from it through its steps"; none loses every maximum and absorbs every sum.
use Rattle.std.specs.Prelude.{Bool, true, false, ◌≡◌, ℕ, zero, suc, T, ℤ, pos, ◌+ℤ◌, ◌*ℤ◌}
use mathlib.Core.List.{List, [], ◌∷◌, ◌++◌, Memᴰ}
use Rattle.std.specs.Int.Signed.{le_z}
use Rattle.whole.specs.Cases.{if}

pub data Total : Type 0 where
  num : ℤ → Total
  none : Total

-- a is at most b: "it loses to any other leaf"
unfoldable pub le_total : Total → Total → Bool
le_total none b = true
le_total (num a) none = false
le_total (num a) (num b) = le_z a b

infix 5 ◌⊑◌
pub record ◌⊑◌ (a b : Total) : Type 0 where
  pub le : T (le_total a b)

-- a is lower than b: "no total, which counts as lower"
infix 5 ◌⊏◌
abbrev pub ◌⊏◌ : Total → Total → Type 0
a ⊏ b = b ⊑ a → ⊥

-- it is not none
abbrev pub Has : Total → Type 0
Has (num a) = Unit {0}
Has none = ⊥

-- what is asked of a number, and nothing of none
abbrev pub OfNumber : Total → (ℤ → Type 0) → Type 0
OfNumber (num a) P = P a
OfNumber none P = Unit {0}

-- "a sum with it .. is it"
infixl 6 ◌⊕◌
unfoldable pub ◌⊕◌ : Total → Total → Total
none ⊕ b = none
num a ⊕ none = none
num a ⊕ num b = num (a +ℤ b)

-- w × a: "or a product not by 0, is it"
unfoldable pub weigh : ℕ → Total → Total
weigh zero a = num (pos 0)
weigh (suc w) none = none
weigh (suc w) (num a) = num (pos (suc w) *ℤ a)

-- the larger of two, the first where they are equal
unfoldable pub max_total : Total → Total → Total
max_total a b = if (le_total b a) a b

-- the sum over settings of weight × what f gives: "A next state of weight 0 never makes a value none."
unfoldable pub mean : {E : Type 0} → (E → ℕ) → (E → Total) → List E → Total
mean w f [] = num (pos 0)
mean w f (e ∷ l) = weigh (w e) (f e) ⊕ mean w f l

-- the largest of x and what f gives
unfoldable pub greatest_from : {A : Type 0} → (A → Total) → Total → List A → Total
greatest_from f x [] = x
greatest_from f x (b ∷ l) = greatest_from f (max_total x (f b)) l

-- the first at which f is largest
unfoldable pub first_best : {A : Type 0} → (A → Total) → A → List A → A
first_best f a [] = a
first_best f a (b ∷ l) = first_best f (if (le_total (f b) (f a)) a b) l

-- a stands in l, and f is lower at all that stand before it
pub record Lowest {A : Type 0} (f : A → Total) (l : List A) (a : A) : Type 0 where
  pub before : List A
  pub after : List A
  pub split : l ≡ before ++ (a ∷ after)
  pub less : (b : A) → Memᴰ b before → f b ⊏ f a
