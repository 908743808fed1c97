-- The walk's beginning and its end: all roots in their order are the model's diagrams.
use mathlib.Core.Path.{◌≡◌, refl, sym, ap, ap₂, ◌∙◌, subst}
use mathlib.Core.Bool.{Bool, true, false}
use mathlib.Core.Logic.{inl, inr}
use mathlib.Core.List.{List, [], ◌∷◌, ◌++◌, map}
use Prim.Native.Nat.{ℕ, zero, suc, ◌+◌, ◌-◌, ◌*◌, ◌≤◌, ◌<◌}
use native.Mathlib.Nat.{suc-mul}
use native.Mathlib.Omega.{arith}
use lib.Dec.{T, eqb}
use lib.IntN.{ℤ}
use lib.ListN.{length, get_or}
use Rattle.whole.specs.Cases.{if, both, from_true}
use Rattle.theory.specs.Widths.{bytes_most, loaded_roots_most}
use Rattle.theory.specs.Form.{new_form, site_byte}
use Rattle.theory.specs.Diagram.{Tree}
use Rattle.theory.specs.Valid.{all}
use Rattle.theory.specs.Meaning.{Model}
use Rattle.theory.specs.Computation.{Comp, ret, bind, Out, done, stopped, run}
use Rattle.theory.specs.Command.{Command, site, push_leaf, push_condition, push_test, push_forbidden, name_action, end_model, Read, whole, Placed, byte_at}
use Rattle.theory.specs.Command.{width, command_in, command_at, goes_on, readings_from_in, readings_from, readings_in, readings, give, Slot}
use Rattle.theory.specs.Verdict.{Site, site_of, Progress, reward_slot, chance_slot, level_slot, end_slot, has_slot, first_broken, from_to, wanted_by, wanted}
use Rattle.theory.specs.Verdict.{site_rules, first_rules, rules_in, after, ended, judged_in, judged, at_start, verdict_in, verdict}
use Rattle.theory.specs.Load.{Entry, Loaded as Loading, load_one_with, load_on, load_on_with, find_slot, found, action_of, model_of, site_in, site_at, load_in, load, model_in, model}
use Rattle.theory.specs.Stage.{all_diagrams, model_diagrams}
use Rattle.theory.proofs.laws.Comps.{run_bind, run_result}
use Rattle.theory.proofs.laws.Comps.{after as after-out}
use Rattle.theory.proofs.laws.AcceptedModel.{accepted_site, by_reading, behind}
use Rattle.model_stack.specs.Held.{held}
use Rattle.model_command.specs.CursorReadings.{next_at}
use Rattle.model_command.proofs.Forward.{Bytes, next_whole}
use Rattle.rule_node.specs.Nodes.{trees}
use Rattle.rule_node.specs.Table.{Table}
use Rattle.load_choose.specs.CommandTest.{load_rule}
use Rattle.load_command.specs.CommandStep.{standing, NumbersBelow, loading}
use Rattle.load_command.specs.declared.Loaded.{Loaded}
use Rattle.load_model.specs.ModelRoots.{end_of, Starts, Loads}
use Rattle.load_model.proofs.Places.{width_of, PlacedAt, Rooted, rooted_none}
use Rattle.load_model.proofs.Turns.{Walk, few_in, judged_whole}

-- ---- the first command

abbrev Rest : List ℕ → List Placed
Rest B = readings_from B (length B) (0 + width (byte_at B 0))

-- the site's operands are the model's first
site_fits : List ℕ → Command → Type 0
site_fits B (site m n a w) = site_of m n a w ≡ site_at B
site_fits B (push_leaf p) = T true
site_fits B (push_condition k) = T true
site_fits B (push_test p) = T true
site_fits B push_forbidden = T true
site_fits B (give g) = T true
site_fits B (name_action a b) = T true
site_fits B end_model = T true

one_of : (B : List ℕ) (b : Bool) (c d : Command) → site_fits B c → site_fits B d → site_fits B (if b c d)
one_of B true c d f g = f
one_of B false c d f g = g

first_fits : (B : List ℕ) → site_fits B (command_at B 0)
unfolding command_in site_fits site_in
first_fits B =
    one_of B (eqb (byte_at B 0) (site_byte new_form)) _ _ refl (one_of B (eqb (byte_at B 0) 0x10) _ _ tt (one_of B (eqb (byte_at B 0) 0x11) _ _ tt
    (one_of B (eqb (byte_at B 0) 0x12) _ _ tt (one_of B (eqb (byte_at B 0) 0x13) _ _ tt (one_of B (eqb (byte_at B 0) 0x20) _ _ tt (one_of B (eqb (byte_at B 0) 0x21) _ _ tt
    (one_of B (eqb (byte_at B 0) 0x22) _ _ tt (one_of B (eqb (byte_at B 0) 0x23) _ _ tt (one_of B (eqb (byte_at B 0) 0x30) _ _ tt tt)))))))))

abbrev begun : Site → Progress
begun S = record { begun = true; site = S; stack = []; given = [] }

pub record Begun (B : List ℕ) (L : List Placed) : Type 0 where
  pub bytes : Bytes new_form B 0
  pub judges : (judged (length B) (begun (site_at B)) (Rest B)).number ≡ 0
  pub runs : load_on L (loading [] []) ≡ load_on (Rest B) (loading [] [])

abbrev Begins : List ℕ → Read → Type 0
Begins B r = (judged (length B) at_start (record { at = 0; read = r } ∷ behind B (length B) 0 (goes_on r))).number ≡ 0 → Begun B (record { at = 0; read = r } ∷ behind B (length B) 0 (goes_on r))

first_command : (B : List ℕ) → 1 ≤ width (byte_at B 0) → 0 + width (byte_at B 0) ≤ length B → (c : Command) → site_fits B c → Begins B (whole c)
unfolding judged_in load_on_with goes_on rules_in first_rules ended load_one_with bind after site_fits first_broken
first_command B w h (site m n a v) f e = record {
  bytes = record { starts = omega arith; known = λ z. omega (arith, z); ends = h };
  judges = subst (λ (S : Site). (judged (length B) (begun S) (Rest B)).number ≡ 0) f (judged_whole (first_broken (site_rules new_form (site_of m n a v))) 0 _ e).1;
  runs = refl;
}
first_command B w h (push_leaf p) f e = absurd (let z : ◌≡◌ {A = ℕ} 1 0 = e in omega arith)
first_command B w h (push_condition k) f e = absurd (let z : ◌≡◌ {A = ℕ} 1 0 = e in omega arith)
first_command B w h (push_test p) f e = absurd (let z : ◌≡◌ {A = ℕ} 1 0 = e in omega arith)
first_command B w h push_forbidden f e = absurd (let z : ◌≡◌ {A = ℕ} 1 0 = e in omega arith)
first_command B w h (give g) f e = absurd (let z : ◌≡◌ {A = ℕ} 1 0 = e in omega arith)
first_command B w h (name_action a b) f e = absurd (let z : ◌≡◌ {A = ℕ} 1 0 = e in omega arith)
first_command B w h end_model f e = absurd (let z : ◌≡◌ {A = ℕ} 1 0 = e in omega arith)

begins : (B : List ℕ) → (verdict B).number ≡ 0 → Begun B (readings B)
unfolding verdict_in readings_in readings_from_in judged_in
begins B = by_reading B 0 (Begins B) (λ e. absurd (let z : ◌≡◌ {A = ℕ} 2 0 = e in omega arith)) (λ _ e. absurd (let z : ◌≡◌ {A = ℕ} 3 0 = e in omega arith)) (λ w h. first_command B w h (command_at B 0) (first_fits B))

trees_none : (l : List ℤ) → trees l 0 ≡ []
unfolding trees
trees_none l = refl

empty_run : (B : List ℕ) (cap : ℕ) (l : List ℤ) (s : Loaded) → Starts s → (L : List Placed) → L ≡ Rest B → load_on (readings B) (loading [] []) ≡ load_on (Rest B) (loading [] [])
    → run cap (load_on L (loading (standing l s.count (held s.stack)) [])) (trees l s.count) ≡ run cap (load_on (readings B) (loading [] [])) []
empty_run B cap l s st L eL e =
    ap (λ (K : List ℕ). run cap (load_on L (loading (standing l s.count K) [])) (trees l s.count)) st.stack
    ∙ (ap (run cap (load_on L (loading [] []))) (ap (trees l) st.count ∙ trees_none l)
    ∙ (ap (λ (M : List Placed). run cap (load_on M (loading [] [])) []) eL ∙ ap (λ (m : Comp Loading). run cap m []) (sym e)))

pub walk_starts : {B : List ℕ} {cap : ℕ} {l : List ℤ} {w : List ℕ} {R : List ℕ} {at : ℕ} {s : Loaded} → (verdict B).number ≡ 0 → length B ≤ bytes_most → Table
    (load_rule B) cap l w 0 → loaded_roots_most ≤ length R → at ≡ next_at B 0 → Starts s → Walk B cap l w R at s false
unfolding NumbersBelow has_slot
walk_starts {B} {cap} {l} {w} {R} {at} {s} ok small A room ea st =
    let b = begins B ok in
    let e : at ≡ 0 + width (byte_at B 0) = ea ∙ next_whole new_form B 0 b.bytes in
    let k = b.bytes.known in
    let t = b.bytes.starts in
    record {
      few = few_in B (accepted_site B ok).0;
      small = small;
      none = st.stop;
      table = subst (Table (load_rule B) cap l w) (sym st.count) A;
      below = subst (NumbersBelow s.count) (sym st.stack) tt;
      fuel = length B;
      enough = omega (arith, k);
      facts = [];
      given = [];
      entries = [];
      tall = ap length st.stack;
      most = omega arith;
      judges = subst (λ (i : ℕ). (judged (length B) (begun (site_at B)) (readings_from B (length B) i)).number ≡ 0) (sym e) b.judges;
      runs = empty_run B cap l s st (readings_from B (length B) at) (ap (readings_from B (length B)) e) b.runs;
      rooted = rooted_none (site_at B) l s.count R;
      ended = refl;
      room = room;
    }

-- ---- all roots, in the order of what is wanted

AtPlaces : Site → ℕ → List Slot → Type 0
AtPlaces S b [] = T true
AtPlaces S b (g ∷ W) = PlacedAt S g b × AtPlaces S (suc b) W

places_more : (S : Site) (b c : ℕ) (W M : List Slot) → AtPlaces S b W → c ≡ b + length W → AtPlaces S c M → AtPlaces S b (W ++ M)
unfolding AtPlaces
places_more S b c [] M p e q = subst (λ (x : ℕ). AtPlaces S x M) (let z : c ≡ b = omega arith in z) q
places_more S b c (g ∷ W) M p e q = (p.0, places_more S (suc b) c W M p.1 (omega arith) q)

places_from : (S : Site) (mk : ℕ → Slot) (k j b : ℕ) → ((i x y : ℕ) → x ≡ k + i → y ≡ b + i → i < j → PlacedAt S (mk x) y) → AtPlaces S b (map mk (from_to k j))
unfolding AtPlaces from_to
places_from S mk k zero b h = tt
places_from S mk k (suc j) b h = (h 0 k b (omega arith) (omega arith) (omega arith), places_from S mk (suc k) j (suc b) (λ i x y u v l. h (suc i) x y (omega arith) (omega arith) (omega arith)))

from_length : {A : Type 0} (f : ℕ → A) (b k : ℕ) → length (map f (from_to b k)) ≡ k
unfolding from_to
from_length f b zero = refl
from_length f b (suc k) = ap suc (from_length f (suc b) k)

wanted_places : (S : Site) (a k b : ℕ) → 1 ≤ a → a + k ≤ suc S.actions → b ≡ (a - 1) * width_of S → AtPlaces S b (wanted_by S (from_to a k))
unfolding wanted_by from_to AtPlaces
wanted_places S a zero b h m e = tt
wanted_places S a (suc k) b h m e =
    let n = S.conditions in
    let c = from_length (chance_slot a) 1 n in
    let d = from_length (level_slot a) 1 S.levels in (
      record { offset = 0; least = h; most = omega arith; which = inl (refl, refl, refl); place = (let z : b ≡ (a - 1) * width_of S + 0 = omega arith in z) },
      places_more S (suc b) (suc b + n) (map (chance_slot a) (from_to 1 n)) _
          (places_from S (chance_slot a) 1 n (suc b) (λ i x y u v l. record { offset = x; least = h; most = omega arith; which = inr (inl (refl, omega arith, omega arith, refl)); place = omega arith }))
          (let z : suc b + n ≡ suc b + length (map (chance_slot a) (from_to 1 n)) = ap (λ (q : ℕ). suc b + q) (sym c) in z)
          (places_more S (suc b + n) (suc b + n + S.levels) (map (level_slot a) (from_to 1 S.levels)) _
          (places_from S (level_slot a) 1 S.levels (suc b + n) (λ i x y u v l. record { offset = n + x; least = h; most = omega arith; which = inr (inr (refl, omega arith, omega arith, refl)); place = omega arith }))
          (ap (λ (q : ℕ). suc b + n + q) (sym d))
          (wanted_places S (suc a) k (suc b + n + S.levels) (omega arith) (omega arith) (next_row a (width_of S) b h e (omega arith)))),
    )
  where
    next_row : (a w b : ℕ) → 1 ≤ a → b ≡ (a - 1) * w → {c : ℕ} → c ≡ b + w → c ≡ (suc a - 1) * w
    next_row zero w b h e q = absurd (omega arith)
    next_row (suc a) w b h e {c} q =
        let s = suc-mul a w in
        let f : b ≡ a * w = e ∙ ap (λ (x : ℕ). x * w) (let y : suc a - 1 ≡ a = omega arith in y) in
        let z : c ≡ suc a * w = omega arith in
        z ∙ ap (λ (x : ℕ). x * w) (let y : suc a ≡ suc (suc a) - 1 = omega arith in y)

append_length : {A : Type 0} (L M : List A) → length (L ++ M) ≡ length L + length M
append_length [] M = (let z : length M ≡ 0 + length M = omega arith in z)
append_length (x ∷ L) M = let i = append_length L M in let z : suc (length (L ++ M)) ≡ suc (length L) + length M = omega arith in z

wanted_length : (S : Site) (a k : ℕ) → length (wanted_by S (from_to a k)) ≡ k * width_of S
unfolding wanted_by from_to
wanted_length S a zero = (let z : 0 ≡ 0 * width_of S = omega arith in z)
wanted_length S a (suc k) =
    let i = wanted_length S (suc a) k in
    let c = from_length (chance_slot a) 1 S.conditions in
    let d = from_length (level_slot a) 1 S.levels in
    let s = suc-mul k (width_of S) in
    let e = append_length (map (chance_slot a) (from_to 1 S.conditions)) (map (level_slot a) (from_to 1 S.levels) ++ wanted_by S (from_to (suc a) k)) in
    let f = append_length (map (level_slot a) (from_to 1 S.levels)) (wanted_by S (from_to (suc a) k)) in
    omega arith

-- the roots at the places of what is wanted
module _ {S : Site} {l : List ℤ} {n : ℕ} {R : List ℕ} {G : List Slot} {E : List Entry} (r : Rooted S l n R G E) where
  roots_below : (b : ℕ) (W : List Slot) → AtPlaces S b W → T (all (λ g. has_slot g G) W) → NumbersBelow n (map (λ i. get_or R i 0) (from_to b (length W)))
  unfolding AtPlaces all from_to NumbersBelow
  roots_below b [] p t = tt
  roots_below b (g ∷ W) p t = let d = both (has_slot g G) _ t in ((r.root g b (inl p.0) d.0).below, roots_below (suc b) W p.1 d.1)

  roots_trees : (b : ℕ) (W : List Slot) → AtPlaces S b W → T (all (λ g. has_slot g G) W) → standing l n (map (λ i. get_or R i 0) (from_to b (length W))) ≡ map (λ g. find_slot g E) W
  unfolding AtPlaces all from_to
  roots_trees b [] p t = refl
  roots_trees b (g ∷ W) p t = let d = both (has_slot g G) _ t in ap₂ ◌∷◌ (r.root g b (inl p.0) d.0).tree (roots_trees (suc b) W p.1 d.1)

  -- the end worth's root
  end_below : (b : Bool) → b ≡ has_slot end_slot G → NumbersBelow n (end_of S R b)
  unfolding NumbersBelow
  end_below true e = ((r.root end_slot (S.actions * width_of S) (inr (record { is = refl; place = refl })) (from_true (sym e))).below, tt)
  end_below false e = tt

  end_tree : (b : Bool) → b ≡ has_slot end_slot G → standing l n (end_of S R b) ≡ found end_slot E
  end_tree true e = ap (λ (t : Tree). t ∷ []) (r.root end_slot (S.actions * width_of S) (inr (record { is = refl; place = refl })) (from_true (sym e))).tree ∙ sym (r.end ∙ ap (λ (b : Bool). if b (find_slot end_slot E ∷ []) []) (sym e))
  end_tree false e = sym (r.end ∙ ap (λ (b : Bool). if b (find_slot end_slot E ∷ []) []) (sym e))

-- ---- the model's diagrams are what is wanted

map_more : {A B : Type 0} (f : A → B) (L M : List A) → map f (L ++ M) ≡ map f L ++ map f M
map_more f [] M = refl
map_more f (x ∷ L) M = ap (λ z. f x ∷ z) (map_more f L M)

map_twice : {A : Type 0} (f : Slot → A) (mk : ℕ → Slot) (L : List ℕ) → map f (map mk L) ≡ map (λ k. f (mk k)) L
map_twice f mk [] = refl
map_twice f mk (x ∷ L) = ap (λ z. f (mk x) ∷ z) (map_twice f mk L)

more_more : {A : Type 0} (L M N : List A) → (L ++ M) ++ N ≡ L ++ (M ++ N)
more_more [] M N = refl
more_more (x ∷ L) M N = ap (λ z. x ∷ z) (more_more L M N)

module _ (S : Site) (E : List Entry) where
  abbrev find : Slot → Tree
  find g = find_slot g E

  wanted_diagrams : (L : List ℕ) → map find (wanted_by S L) ≡ all_diagrams (map (action_of S E) L)
  unfolding wanted_by all_diagrams action_of
  wanted_diagrams [] = refl
  wanted_diagrams (a ∷ L) =
      let C = map (chance_slot a) (from_to 1 S.conditions) in
      let D = map (level_slot a) (from_to 1 S.levels) in
      ap (λ z. find (reward_slot a) ∷ z)
      (map_more find C (D ++ wanted_by S L)
      ∙ (ap₂ ◌++◌ (map_twice find (chance_slot a) (from_to 1 S.conditions)) (map_more find D (wanted_by S L) ∙ ap₂ ◌++◌ (map_twice find (level_slot a) (from_to 1 S.levels)) (wanted_diagrams L))
      ∙ sym (more_more (map (λ k. find (chance_slot a k)) (from_to 1 S.conditions)) (map (λ i. find (level_slot a i)) (from_to 1 S.levels)) (all_diagrams (map (action_of S E) L)))))

  from_first_on : (k : ℕ) → 1 ≤ k → from_to 1 k ≡ 1 ∷ from_to 2 (k - 1)
  unfolding from_to
  from_first_on zero h = absurd (omega arith)
  from_first_on (suc k) h = ap (λ (j : ℕ). 1 ∷ from_to 2 j) (let z : k ≡ suc k - 1 = omega arith in z)

  model_wanted : 1 ≤ S.actions → map find (wanted S) ≡ model_diagrams (model_of S E)
  unfolding wanted model_diagrams model_of
  model_wanted h = wanted_diagrams (from_to 1 S.actions) ∙ ap (λ (L : List ℕ). all_diagrams (map (action_of S E) L)) (from_first_on S.actions h)

-- ---- the end

load_run : (B : List ℕ) (cap : ℕ) → run cap (load B) [] ≡ after-out (run cap (load_on (readings B) (loading [] [])) []) (λ s Y. run cap (ret (model_of (site_at B) s.entries)) Y)
unfolding load_in
load_run B cap = run_bind cap (load_on (readings B) (loading [] [])) _ []

load_stops : (B : List ℕ) (cap : ℕ) {k : ℕ} → run cap (load_on (readings B) (loading [] [])) [] ≡ stopped k → run cap (load B) [] ≡ stopped k
unfolding after-out
load_stops B cap e = load_run B cap ∙ ap (λ (o : Out Loading). after-out o (λ s Y. run cap (ret (model_of (site_at B) s.entries)) Y)) e

load_done : (B : List ℕ) (cap : ℕ) {X Y : List Tree} {E : List Entry} → run cap (load_on (readings B) (loading [] [])) [] ≡ done (loading X E) Y → run cap (load B) [] ≡ done (model_of (site_at B) E) Y
unfolding after-out run
load_done B cap e = load_run B cap ∙ ap (λ (o : Out Loading). after-out o (λ s Y. run cap (ret (model_of (site_at B) s.entries)) Y)) e

is_model : (B : List ℕ) (cap : ℕ) {M : Model} {Y : List Tree} → run cap (load B) [] ≡ done M Y → M ≡ model B
unfolding model_in
is_model B cap {M} {Y} e = run_result cap (load B) [] Y M e

pub ends_loaded : {B : List ℕ} {cap : ℕ} {l : List ℤ} {w : List ℕ} {R : List ℕ} {at : ℕ} {s : Loaded} {flag : Bool} (k : Walk B cap l w R at s flag) → run cap
    (load_on (readings B) (loading [] [])) [] ≡ done (loading (standing l s.count (held s.stack)) k.entries) (trees l s.count)
    → T (all (λ g. has_slot g k.given) (wanted (site_at B))) → Loads B cap l w R (record { stop = 0; count = s.count; ended = flag })
unfolding wanted model_of
ends_loaded {B} {cap} {l} {w} {R} {at} {s} {flag} k e t =
    let S = site_at B in
    let d = load_done B cap e in
    let m = is_model B cap d in
    let p = wanted_places S 1 S.actions 0 (omega arith) (omega arith) (let z : 0 ≡ (1 - 1) * width_of S = omega arith in z) in
    let n = wanted_length S 1 S.actions in
    record {
      table = k.table;
      ran = λ _. d ∙ ap (λ (M : Model). done M (trees l s.count)) m;
      below = λ _. subst (λ (j : ℕ). NumbersBelow s.count (map (λ i. get_or R i 0) (from_to 0 j))) n (roots_below k.rooted 0 (wanted_by S (from_to 1 S.actions)) p t);
      roots = λ _. subst (λ (j : ℕ). standing l s.count (map (λ i. get_or R i 0) (from_to 0 j)) ≡ model_diagrams (model B)) n
          (roots_trees k.rooted 0 (wanted_by S (from_to 1 S.actions)) p t ∙ (model_wanted S k.entries k.few.some ∙ ap model_diagrams m));
      end_below = λ _. end_below k.rooted flag k.ended;
      end_root = λ _. end_tree k.rooted flag k.ended ∙ ap (λ (M : Model). M.end) m;
      stops = λ z. absurd (z refl);
    }

pub stops_loaded : {B : List ℕ} {cap : ℕ} {l : List ℤ} {w : List ℕ} (R : List ℕ) {j n : ℕ} {flag : Bool} → Table (load_rule B) cap l w n → run cap
    (load_on (readings B) (loading [] [])) [] ≡ stopped j → (j ≡ 0 → ⊥) → Loads B cap l w R (record { stop = j; count = n; ended = flag })
stops_loaded {B} {cap} R A e off = record { table = A; ran = λ z. absurd (off z); below = λ z. absurd (off z); roots = λ z. absurd (off z); end_below = λ z. absurd (off z); end_root = λ z. absurd (off z); stops = λ _. load_stops B cap e }
