-- The pass that notes where each slot's diagram begins.
use mathlib.Core.Path.{◌≡◌, refl, sym, ap, ◌∙◌, subst}
use mathlib.Core.Bool.{Bool, true, false}
use mathlib.Core.List.{List, [], ◌∷◌}
use Prim.Native.Nat.{ℕ, zero, suc, ◌+◌, ◌-◌, ◌≤◌, ◌<◌}
use native.Mathlib.Omega.{arith}
use borrow.Author.Tests.{eqb-true, le-ltb}
use lib.Dec.{eqb, ltb}
use lib.ListN.{length, get_or, replicate}
use Rattle.whole.specs.Cases.{if, by_eq, by_test, from_true}
use Rattle.theory.specs.Widths.{stack_most}
use Rattle.theory.specs.Command.{Command, site, push_leaf, push_condition, push_test, push_forbidden, give, name_action, end_model, whole, Placed, byte_at, width, command_at, read_at, goes_on, Slot, readings, readings_in, readings_from_in}
use Rattle.theory.specs.Verdict.{same_slot, verdict, judged, at_start, rule, first_broken, first_rules, judged_in, rules_in, verdict_in}
use Rattle.theory.proofs.laws.AcceptedModel.{by_reading, behind}
use Rattle.model_command.specs.declared.Command.{Command as CodeCommand}
use Rattle.model_command.specs.declared.Command.TheVariants.{Site, Leaf, Condition, Test, Forbidden, Give, Name, End}
use Rattle.model_stack.specs.Held.{pushed}
use Rattle.model_command.specs.CursorReadings.{CodeRead}
use Rattle.std.specs.Prelude.{Ok}
use Rattle.model_command.specs.CursorReadings.{command_of, read_of, next_at, command_of_in}
use Rattle.model.specs.Answers.{is_end}
use Rattle.model.proofs.Walk.{forward}
use Rattle.plain_pass.specs.declared.Point.{Point}
use Rattle.plain_pass.specs.Pass.{chosen, stepped, takes, pass}
use Rattle.plain_pass.specs.Parts.{Seek, slots_most, place, put, noted, depth_after, Parts, slots_each, NoNotes}
use Rattle.plain_pass.proofs.Reach.{same_is, broken, judged_whole, drop_one, placed}
use Rattle.plain_pass.proofs.Turns.{seek_starts, seek_stops, seek_ends, seek_next}
use Rattle.plain_pass.proofs.Places.{put_long, put_open, put_is}

-- ---- the first command is the site

pub record First (B : List ℕ) : Type 0 where
  pub m : ℕ
  pub n : ℕ
  pub a : ℕ
  pub w : ℕ
  pub reads : whole (site m n a w) ≡ read_at B 0

first_is : (B : List ℕ) (c : Command) (ys : List Placed) → read_at B 0 ≡ whole c → (judged (length B) at_start (placed 0 (whole c) ∷ ys)).number ≡ 0 → First B
unfolding judged_in rules_in first_rules
first_is B (site m n a w) ys o j = record { m = m; n = n; a = a; w = w; reads = sym o }
first_is B (push_leaf p) ys o j = broken 0 _ (judged_whole (first_broken (rule 1 true ∷ [])) 0 _ j).0
first_is B (push_condition k) ys o j = broken 0 _ (judged_whole (first_broken (rule 1 true ∷ [])) 0 _ j).0
first_is B (push_test p) ys o j = broken 0 _ (judged_whole (first_broken (rule 1 true ∷ [])) 0 _ j).0
first_is B push_forbidden ys o j = broken 0 _ (judged_whole (first_broken (rule 1 true ∷ [])) 0 _ j).0
first_is B (give g) ys o j = broken 0 _ (judged_whole (first_broken (rule 1 true ∷ [])) 0 _ j).0
first_is B (name_action a b) ys o j = broken 0 _ (judged_whole (first_broken (rule 1 true ∷ [])) 0 _ j).0
first_is B end_model ys o j = broken 0 _ (judged_whole (first_broken (rule 1 true ∷ [])) 0 _ j).0

pub first : (B : List ℕ) → (verdict B).number ≡ 0 → First B
unfolding verdict_in readings_in readings_from_in judged_in
first B = by_reading B 0 (λ r. read_at B 0 ≡ r → (judged (length B) at_start (placed 0 r ∷ behind B (length B) 0 (goes_on r))).number ≡ 0 → First B)
    (λ _ j. absurd (let z : ◌≡◌ {A = ℕ} 2 0 = j in omega arith)) (λ _ _ j. absurd (let z : ◌≡◌ {A = ℕ} 3 0 = j in omega arith)) (λ w h o j. first_is B (command_at B 0) (behind B (length B) 0 (goes_on (whole (command_at B 0)))) o j) refl

-- ---- how deep the stack is

pushed_deep : (i : ℕ) (l : List ℕ) → length (pushed i l) ≡ if (ltb (length l) stack_most) (length l + 1) (length l)
unfolding pushed
pushed_deep i l = by_test (ltb (length l) stack_most) (λ b. length (if b (i ∷ l) l) ≡ if b (length l + 1) (length l)) (λ _. omega arith) (λ _. refl)

chosen_deep : (b : Bool) (l : List ℕ) → length (chosen b l) ≡ if (ltb (length l) 2) (length l) (length l - 1)
unfolding chosen
chosen_deep b [] = refl
chosen_deep b (low ∷ []) = refl
chosen_deep b (low ∷ above ∷ l) = let e : suc (length l) ≡ suc (suc (length l)) - 1 = omega arith in e ∙ ap (λ (c : Bool). if c (suc (suc (length l))) (suc (suc (length l)) - 1)) (sym (le-ltb (suc (suc (length l))) 2 (omega arith)))

stepped_deep : (x : Point) (i : ℕ) (c : Command) (l : List ℕ) → length (stepped x i c l) ≡ depth_after c (length l)
unfolding stepped depth_after
stepped_deep x i (site m n a w) l = refl
stepped_deep x i (push_leaf p) l = pushed_deep i l
stepped_deep x i (push_condition k) l = chosen_deep _ l
stepped_deep x i (push_test p) l = chosen_deep _ l
stepped_deep x i push_forbidden l = pushed_deep i l
stepped_deep x i (give g) l = drop_one l
stepped_deep x i (name_action a b) l = refl
stepped_deep x i end_model l = refl

-- ---- a command gives a slot, or none

by_given : (c : Command) (b : ℕ) (t : List ℕ) (P : Type 0) → (((g : Slot) → takes g c ≡ false) → noted c b t ≡ t → P)
    → ((h : Slot) → ((g : Slot) → takes g c ≡ same_slot g h) → noted c b t ≡ put h b t → P) → P
unfolding takes noted
by_given (site m n a w) b t P none gives = none (λ g. refl) refl
by_given (push_leaf p) b t P none gives = none (λ g. refl) refl
by_given (push_condition k) b t P none gives = none (λ g. refl) refl
by_given (push_test p) b t P none gives = none (λ g. refl) refl
by_given push_forbidden b t P none gives = none (λ g. refl) refl
by_given (give h) b t P none gives = gives h (λ g. refl) refl
by_given (name_action a b') b t P none gives = none (λ g. refl) refl
by_given end_model b t P none gives = none (λ g. refl) refl

pub noted_other : (B : List ℕ) (i : ℕ) (c : CodeCommand) (b : ℕ) (t : List ℕ) → ((x y z : ℕ) → c ≡ Give x y z → ⊥) → t ≡ noted (command_of B i c) b t
unfolding noted command_of_in
noted_other B i (Site m n a w) b t k = refl
noted_other B i Leaf b t k = refl
noted_other B i (Condition j) b t k = refl
noted_other B i Test b t k = refl
noted_other B i Forbidden b t k = refl
noted_other B i (Give x a j) b t k = absurd (k x a j refl)
noted_other B i (Name a) b t k = refl
noted_other B i End b t k = refl

-- ---- one turn

-- of a slot that is not given yet: the pass here, with that many on the stack, and from where the stack was empty last
pub record Ahead (B : List ℕ) (x : Point) (g : Slot) (i b n : ℕ) : Type 0 where
  pub stack : List ℕ
  pub deep : length stack ≡ n
  pub here : Seek B x g i stack
  pub last : Seek B x g b []

pub record Finds (B : List ℕ) (N i b n : ℕ) (t : List ℕ) : Type 0 where
  pub past : 1 ≤ i
  pub some : 1 ≤ b
  pub long : length t ≡ N
  pub least : slots_each ≤ N
  pub most : N ≤ slots_most
  pub begins : (g : Slot) (x : Point) → Seek B x g (get_or t (place g) 0) []
  pub ahead : (g : Slot) → place g < N → get_or t (place g) 0 ≡ 0 → (x : Point) → Ahead B x g i b n

zero_at : (n j : ℕ) → ◌≡◌ {A = ℕ} (get_or (replicate n 0) j 0) 0
zero_at zero j = refl
zero_at (suc n) zero = refl
zero_at (suc n) (suc j) = zero_at n j

pub finds_starts : (B t : List ℕ) (i : ℕ) → (verdict B).number ≡ 0 → NoNotes t → i ≡ next_at B 0 → Finds B (length t) i i 0 t × (i ≤ length B)
unfolding takes stepped goes_on
finds_starts B t i v e n =
    let f = first B v in
    let h = forward B 0 (site f.m f.n f.a f.w) i f.reads n in
    let on : (x : Point) (g : Slot) → Seek B x g i [] = λ x g. seek_next (seek_starts B x g [] refl) (site f.m f.n f.a f.w) i f.reads refl refl n in (
      record {
        past = h.1;
        some = h.1;
        long = refl;
        least = e.some;
        most = e.most;
        begins = λ g x. subst (λ (k : ℕ). Seek B x g k []) (sym (ap (λ (l : List ℕ). get_or l (place g) 0) e.is ∙ zero_at (length t) (place g))) (seek_starts B x g [] refl);
        ahead = λ g u z x. record { stack = []; deep = refl; here = on x g; last = on x g };
      },
      h.2,
    )

-- where the commands end, what has no word is not given
module _ {B : List ℕ} {N i b n : ℕ} {t : List ℕ} (f : Finds B N i b n t) where
  finds_all : ((x : Point) (g : Slot) (l : List ℕ) → Seek B x g i l → 0 ≡ pass x g (readings B) []) → Parts B t
  finds_all stops = record { begins = f.begins; some = omega (arith, f.long, f.least); absent = λ g x u z. let o = f.ahead g (omega (arith, u, f.long)) z x in stops x g o.stack o.here }

  pub finds_stop : (r : CodeRead) → ((d : CodeCommand) → r ≡ Ok d → ⊥) → read_of B i r ≡ read_at B i → Parts B t
  finds_stop r k e = finds_all (λ x g l w. seek_stops w r k e)

  pub finds_end : (c : CodeCommand) → whole (command_of B i c) ≡ read_at B i → is_end c ≡ true → Parts B t
  finds_end c e q = finds_all (λ x g l w. seek_ends w c e q)

module _ {B : List ℕ} {N i b n : ℕ} {t : List ℕ} (f : Finds B N i b n t) (c : Command) (e : whole c ≡ read_at B i) (q : goes_on (whole c) ≡ true) {next : ℕ} (en : next ≡ next_at B i)
    {b' : ℕ} (eb : b' ≡ if (eqb n 0) i b) where
  none_on : (l : List ℕ) → length l ≡ 0 → l ≡ []
  none_on [] h = refl
  none_on (x ∷ l) h = absurd (omega arith)

  some_on : 1 ≤ b'
  some_on = subst (λ (k : ℕ). 1 ≤ k) (sym eb) (by_test (eqb n 0) (λ a. 1 ≤ if a i b) (λ _. f.past) (λ _. f.some))

  begun : (g : Slot) → place g < N → get_or t (place g) 0 ≡ 0 → (x : Point) → Seek B x g b' []
  begun g u z x =
      let o = f.ahead g u z x in
      subst (λ (k : ℕ). Seek B x g k []) (sym eb) (by_eq (eqb n 0) (λ a. Seek B x g (if a i b) [])
      (λ y. subst (Seek B x g i) (none_on o.stack (o.deep ∙ eqb-true n 0 y)) o.here) (λ _. o.last))

  ahead_on : (g : Slot) → place g < N → get_or t (place g) 0 ≡ 0 → takes g c ≡ false → {n' : ℕ} → n' ≡ depth_after c n → (x : Point) → Ahead B x g next b' n'
  ahead_on g u z y k x =
      let o = f.ahead g u z x in
      record { stack = stepped x i c o.stack; deep = stepped_deep x i c o.stack ∙ ap (depth_after c) o.deep ∙ sym k; here = seek_next o.here c next e y q en; last = begun g u z x }

  other_slot : (g h : Slot) → (place h ≡ place g → ⊥) → same_slot g h ≡ false
  other_slot g h p = by_eq (same_slot g h) (λ a. a ≡ false) (λ y. absurd (p (ap place (sym (same_is g h (from_true y)))))) (λ _. refl)

  pub finds_on : {n' : ℕ} {t' : List ℕ} → n' ≡ depth_after c n → t' ≡ noted c b' t → Finds B N next b' n' t'
  finds_on {n'} {t'} k s = subst (Finds B N next b' n') (sym s) (by_given c b' t (Finds B N next b' n' (noted c b' t))
      (λ none y. subst (Finds B N next b' n') (sym y) (record {
        past = omega (arith, ahead.1);
        some = some_on;
        long = f.long;
        least = f.least;
        most = f.most;
        begins = f.begins;
        ahead = λ g u z. ahead_on g u z (none g) k;
      }))
      (λ h gives y. subst (Finds B N next b' n') (sym y) (record {
        past = omega (arith, ahead.1);
        some = some_on;
        long = put_long h b' t ∙ f.long;
        least = f.least;
        most = f.most;
        begins = λ g x. put_is (λ g j. Seek B x g j []) h b' t (omega (arith, f.long, f.most)) (λ g. f.begins g x) (λ u z. begun h (omega (arith, u, f.long)) z x) g;
        ahead = λ g u z. let d = put_open h g b' t some_on (omega (arith, u, f.long)) z in ahead_on g u d.0 (gives g ∙ other_slot g h d.1) k;
      })))
    where
      ahead : (next ≡ i + width (byte_at B i)) × (i < next) × (next ≤ length B)
      ahead = forward B i c next e en
