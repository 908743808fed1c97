-- Laws of events: what runs come to, said by the numbers named and the nodes made.
use Rattle.std.proofs.Math.Path.{◌≡◌, refl, subst}
use Rattle.std.proofs.Common.{sym, ap, ◌∙◌, ⊎_elim, arith, leb→le, le→leb, length-append}
use Rattle.std.specs.Prelude.{◌↔◌, ◌⊎◌, Bool, true, false, not, ◌&&◌, ℕ, ◌≤◌, ◌<◌, leb, ltb, ℤ}
use Rattle.std.proofs.Math.Logic.{inl, inr}
use mathlib.Core.List.{List, [], ◌∷◌, ◌++◌}
use Rattle.std.proofs.Math.Dec.{T, nleb→lt}
use Rattle.std.proofs.Math.ListN.{length}
use Rattle.whole.specs.Cases.{if, by_test, both, and_in, is_true, from_true}
use Rattle.whole.specs.Within.{small}
use Rattle.theory.specs.Diagram.{Tree}
use Rattle.theory.specs.Computation.{Comp, ret, named, made, bind, result, Out, done, stopped, member, run}
use Rattle.theory.specs.Events.{Event, names, makes, events, within, needed, Refused, beyond, no_room, Passes}
use Rattle.theory.proofs.laws.Comps.{with_made, with_made_more, ret_done, named_done, made_done}

-- ---- events one after another

pub needed_append : (X : List Tree) (l k : List Event) → needed X (l ++ k) ≡ needed (needed X l) k
unfolding needed
needed_append X [] k = refl
needed_append X (names z ∷ l) k = needed_append X l k
needed_append X (makes t ∷ l) k = needed_append (if (member t X) X (X ++ (t ∷ []))) l k

pub events_bind : {A B : Type 0} (m : Comp A) (k : A → Comp B) → events (bind m k) ≡ events m ++ events (k (result m))
unfolding events bind result
events_bind (ret a) k = refl
events_bind (named z m) k = ap (◌∷◌ (names z)) (events_bind m k)
events_bind (made t m) k = ap (◌∷◌ (makes t)) (events_bind m k)

and_assoc : (a b c : Bool) → a && (b && c) ≡ (a && b) && c
and_assoc true b c = refl
and_assoc false b c = refl

pub within_append : (l k : List Event) → within (l ++ k) ≡ within l && within k
unfolding within
within_append [] k = refl
within_append (names z ∷ l) k = ap (◌&&◌ (small z)) (within_append l k) ∙ and_assoc (small z) (within l) (within k)
within_append (makes t ∷ l) k = within_append l k

-- ---- needed nodes grow

pub with_made_longer : (t : Tree) (X : List Tree) → length X ≤ length (with_made t X)
unfolding with_made
with_made_longer t X = by_test (member t X) (λ b. length X ≤ length (if b X (X ++ (t ∷ [])))) (λ _. omega arith) (λ _. simp length-append (omega arith))

pub needed_longer : (X : List Tree) (l : List Event) → length X ≤ length (needed X l)
unfolding needed with_made
needed_longer X [] = omega arith
needed_longer X (names z ∷ l) = needed_longer X l
needed_longer X (makes t ∷ l) = let h = with_made_longer t X in let k = needed_longer (with_made t X) l in omega arith

pub needed_keeps : (u : Tree) (X : List Tree) (l : List Event) → member u X ≡ true → member u (needed X l) ≡ true
unfolding needed with_made
needed_keeps u X [] h = h
needed_keeps u X (names z ∷ l) h = needed_keeps u X l h
needed_keeps u X (makes t ∷ l) h = needed_keeps u (with_made t X) l (with_made_more t u X h)

-- ---- a run, event by event

is_false : (b : Bool) → T (not b) → b ≡ false
is_false true t = absurd t
is_false false t = refl

not_leb : (m n : ℕ) → n < m → T (not (leb m n))
not_leb m n h = by_test (leb m n) (λ b. T (not b)) (λ q. let k = leb→le m n q in absurd (omega arith)) (λ _. tt)

-- 12 where the nodes with one that is made exceed N, and else what follows
pub run_made : {A : Type 0} (N : ℕ) (t : Tree) (m : Comp A) (X : List Tree) → length X ≤ N
    → run N (made t m) X ≡ if (leb (length (with_made t X)) N) (run N m (with_made t X)) (stopped 12)
unfolding run with_made
run_made {A} N t m X h = go (member t X)
  where
    go : (b : Bool) → if b (run N m X) (if (ltb (length X) N) (run N m (X ++ (t ∷ []))) (stopped 12))
        ≡ if (leb (length (if b X (X ++ (t ∷ [])))) N) (run N m (if b X (X ++ (t ∷ [])))) (stopped 12)
    go true = ap (λ c. if c (run N m X) (stopped 12)) (sym (is_true (leb (length X) N) (le→leb (length X) N h)))
    go false = ap (λ n. if (leb n N) (run N m (X ++ (t ∷ []))) (stopped 12)) (simp length-append (omega arith))

-- "the first met" is one that is met now, or the first met later
module _ (N : ℕ) (X : List Tree) where
  pub refused_end : (r : ℕ) → Refused N X [] r → ⊥
  refused_end r (beyond [] z rest e w s n) = let q : ◌≡◌ {A = ℕ} 0 1 = cc in omega arith
  refused_end r (beyond (x ∷ b) z rest e w s n) = let q : ◌≡◌ {A = ℕ} 0 1 = cc in omega arith
  refused_end r (no_room [] t rest e w s n) = let q : ◌≡◌ {A = ℕ} 0 1 = cc in omega arith
  refused_end r (no_room (x ∷ b) t rest e w s n) = let q : ◌≡◌ {A = ℕ} 0 1 = cc in omega arith

  pub names_now : (z : ℤ) (l : List Event) → length X ≤ N → T (not (small z)) → Refused N X (names z ∷ l) 11
  unfolding within needed
  names_now z l h n = beyond [] z l refl tt h n

  pub makes_now : (t : Tree) (l : List Event) → length X ≤ N → N < length (with_made t X) → Refused N X (makes t ∷ l) 12
  unfolding within needed with_made
  makes_now t l h n = no_room [] t l refl tt h n

  pub names_later : (z : ℤ) (l : List Event) (r : ℕ) → T (small z) → Refused N X l r → Refused N X (names z ∷ l) r
  unfolding within needed
  names_later z l r s (beyond b y rest e w h n) = beyond (names z ∷ b) y rest (ap (◌∷◌ (names z)) e) (and_in (small z) (within b) s w) h n
  names_later z l r s (no_room b t rest e w h n) = no_room (names z ∷ b) t rest (ap (◌∷◌ (names z)) e) (and_in (small z) (within b) s w) h n

  pub makes_later : (t : Tree) (l : List Event) (r : ℕ) → Refused N (with_made t X) l r → Refused N X (makes t ∷ l) r
  unfolding within needed with_made
  makes_later t l r (beyond b y rest e w h n) = beyond (makes t ∷ b) y rest (ap (◌∷◌ (makes t)) e) w h n
  makes_later t l r (no_room b u rest e w h n) = no_room (makes t ∷ b) u rest (ap (◌∷◌ (makes t)) e) w h n

  pub names_cases : (z : ℤ) (l : List Event) (r : ℕ) → Refused N X (names z ∷ l) r → (T (not (small z)) × (r ≡ 11)) ⊎ (T (small z) × Refused N X l r)
  unfolding within needed
  names_cases z l r (beyond [] y rest e w h n) = let q : y ≡ z = cc in inl (subst (λ (z : ℤ). T (not (small z))) q n, refl)
  names_cases z l r (beyond (names x ∷ b) y rest e w h n) =
      let q : x ≡ z = cc in
      let d = both (small x) (within b) w in
      inr (subst (λ (z : ℤ). T (small z)) q d.0, beyond b y rest (cc) d.1 h n)
  names_cases z l r (beyond (makes u ∷ b) y rest e w h n) = absurd (let q : ◌≡◌ {A = ℕ} 0 1 = cc in omega arith)
  names_cases z l r (no_room [] t rest e w h n) = absurd (let q : ◌≡◌ {A = ℕ} 0 1 = cc in omega arith)
  names_cases z l r (no_room (names x ∷ b) t rest e w h n) =
      let q : x ≡ z = cc in
      let d = both (small x) (within b) w in
      inr (subst (λ (z : ℤ). T (small z)) q d.0, no_room b t rest (cc) d.1 h n)
  names_cases z l r (no_room (makes u ∷ b) t rest e w h n) = absurd (let q : ◌≡◌ {A = ℕ} 0 1 = cc in omega arith)

  pub makes_cases : (t : Tree) (l : List Event) (r : ℕ) → Refused N X (makes t ∷ l) r
      → ((N < length (with_made t X)) × (r ≡ 12)) ⊎ ((length (with_made t X) ≤ N) × Refused N (with_made t X) l r)
  unfolding within needed with_made
  makes_cases t l r (beyond [] y rest e w h n) = absurd (let q : ◌≡◌ {A = ℕ} 0 1 = cc in omega arith)
  makes_cases t l r (beyond (names x ∷ b) y rest e w h n) = absurd (let q : ◌≡◌ {A = ℕ} 0 1 = cc in omega arith)
  makes_cases t l r (beyond (makes u ∷ b) y rest e w h n) =
      let q : u ≡ t = cc in
      let s = subst (λ (t : Tree). length (needed (with_made t X) b) ≤ N) q h in
      let k = needed_longer (with_made t X) b in
      inr ((omega arith), beyond b y rest (cc) w s n)
  makes_cases t l r (no_room [] u rest e w h n) = let q : u ≡ t = cc in inl (subst (λ (t : Tree). N < length (with_made t X)) q n, refl)
  makes_cases t l r (no_room (names x ∷ b) u rest e w h n) = absurd (let q : ◌≡◌ {A = ℕ} 0 1 = cc in omega arith)
  makes_cases t l r (no_room (makes v ∷ b) u rest e w h n) =
      let q : v ≡ t = cc in
      let s = subst (λ (t : Tree). length (needed (with_made t X) b) ≤ N) q h in
      let o = subst (λ (t : Tree). N < length (needed (with_made t X) (b ++ (makes u ∷ [])))) q n in
      let k = needed_longer (with_made t X) b in
      inr ((omega arith), no_room b u rest (cc) w s o)

-- ---- what a run comes to

-- done: with what the computation comes to and the needed nodes, every number within its limits
pub run_done : {A : Type 0} (N : ℕ) (c : Comp A) (X Y : List Tree) (a : A) → run N c X ≡ done a Y
    → (a ≡ result c) × (Y ≡ needed X (events c)) × T (within (events c)) × (length X ≤ N → length Y ≤ N)
unfolding result events needed within with_made
run_done N (ret b) X Y a e = let d = ret_done N b X Y a e in (sym d.0, sym d.1, tt, λ h. subst (λ (Z : List Tree). length Z ≤ N) d.1 h)
run_done N (named z m) X Y a e =
    let d = named_done N z m X Y a e in
    let r = run_done N m X Y a d.1 in
    (r.0, r.1, and_in (small z) (within (events m)) (subst T (sym d.0) tt) r.2, r.3)
run_done {A} N (made t m) X Y a e =
    let r = run_done N m (with_made t X) Y a (made_done N t m X Y a e) in
    (r.0, r.1, r.2, λ h. r.3 (go (leb (length (with_made t X)) N) refl (sym (run_made N t m X h) ∙ e)))
  where
    go : (b : Bool) → leb (length (with_made t X)) N ≡ b → if b (run N m (with_made t X)) (stopped 12) ≡ done a Y → length (with_made t X) ≤ N
    go true q e = leb→le (length (with_made t X)) N (from_true q)
    go false q e = absurd (let z : ◌≡◌ {A = ℕ} 0 1 = cc in omega arith)

-- and back
pub run_passes : {A : Type 0} (N : ℕ) (c : Comp A) (X : List Tree) → Passes N X (events c) → run N c X ≡ done (result c) (needed X (events c))
unfolding run result events needed within with_made
run_passes N (ret b) X p = refl
run_passes N (named z m) X p =
    let d = both (small z) (within (events m)) p.0 in
    ap (λ b. if b (run N m X) (stopped 11)) (is_true (small z) d.0) ∙ run_passes N m X (d.1, p.1)
run_passes N (made t m) X p =
    let q : length (needed (with_made t X) (events m)) ≤ N = p.1 in
    let h = with_made_longer t X in
    let k = needed_longer (with_made t X) (events m) in
    run_made N t m X (omega arith)
    ∙ (ap (λ b. if b (run N m (with_made t X)) (stopped 12)) (is_true (leb (length (with_made t X)) N) (le→leb (length (with_made t X)) N (omega arith)))
    ∙ run_passes N m (with_made t X) (p.0, q))

-- stopped with 11 or 12
pub stopped_number : {A : Type 0} (N : ℕ) (c : Comp A) (X : List Tree) (r : ℕ) → run N c X ≡ stopped r → (r ≡ 11) ⊎ (r ≡ 12)
unfolding run
stopped_number N (ret b) X r e = absurd (let z : ◌≡◌ {A = ℕ} 0 1 = cc in omega arith)
stopped_number {A} N (named z m) X r e = go (small z) e (stopped_number N m X r)
  where
    go : (b : Bool) → if b (run N m X) (stopped 11) ≡ stopped r → (run N m X ≡ stopped r → (r ≡ 11) ⊎ (r ≡ 12)) → (r ≡ 11) ⊎ (r ≡ 12)
    go true e ih = ih e
    go false e ih = inl (cc)
stopped_number {A} N (made t m) X r e = go (member t X) (ltb (length X) N) e (stopped_number N m X r) (stopped_number N m (X ++ (t ∷ [])) r)
  where
    go : (b d : Bool) → if b (run N m X) (if d (run N m (X ++ (t ∷ []))) (stopped 12)) ≡ stopped r → (run N m X ≡ stopped r → (r ≡ 11) ⊎ (r ≡ 12))
        → (run N m (X ++ (t ∷ [])) ≡ stopped r → (r ≡ 11) ⊎ (r ≡ 12)) → (r ≡ 11) ⊎ (r ≡ 12)
    go true d e ih jh = ih e
    go false true e ih jh = jh e
    go false false e ih jh = inr (cc)

stopped_refused : {A : Type 0} (N : ℕ) (c : Comp A) (X : List Tree) (r : ℕ) → length X ≤ N → run N c X ≡ stopped r → Refused N X (events c) r
unfolding run events
stopped_refused N (ret b) X r h e = absurd (let z : ◌≡◌ {A = ℕ} 0 1 = cc in omega arith)
stopped_refused {A} N (named z m) X r h e = go (small z) refl e (stopped_refused N m X r h)
  where
    go : (b : Bool) → small z ≡ b → if b (run N m X) (stopped 11) ≡ stopped r → (run N m X ≡ stopped r → Refused N X (events m) r) → Refused N X (names z ∷ events m) r
    go true q e ih = names_later N X z (events m) r (from_true q) (ih e)
    go false q e ih = let i : 11 ≡ r = cc in subst (Refused N X (names z ∷ events m)) i (names_now N X z (events m) h (subst (λ b. T (not b)) (sym q) tt))
stopped_refused {A} N (made t m) X r h e = go (leb (length (with_made t X)) N) refl (sym (run_made N t m X h) ∙ e) (stopped_refused N m (with_made t X) r)
  where
    go : (b : Bool) → leb (length (with_made t X)) N ≡ b → if b (run N m (with_made t X)) (stopped 12) ≡ stopped r
        → (length (with_made t X) ≤ N → run N m (with_made t X) ≡ stopped r → Refused N (with_made t X) (events m) r) → Refused N X (makes t ∷ events m) r
    go true q e ih = makes_later N X t (events m) r (ih (leb→le (length (with_made t X)) N (from_true q)) e)
    go false q e ih =
        let i : 12 ≡ r = cc in
        subst (Refused N X (makes t ∷ events m)) i (makes_now N X t (events m) h (nleb→lt (length (with_made t X)) N (subst (λ b. T (not b)) (sym q) tt)))

refused_stopped : {A : Type 0} (N : ℕ) (c : Comp A) (X : List Tree) (r : ℕ) → length X ≤ N → Refused N X (events c) r → run N c X ≡ stopped r
unfolding run events
refused_stopped N (ret b) X r h d = absurd (refused_end N X r d)
refused_stopped N (named z m) X r h d = ⊎_elim
    (λ p. ap (λ b. if b (run N m X) (stopped 11)) (is_false (small z) p.0) ∙ ap stopped (sym p.1))
    (λ p. ap (λ b. if b (run N m X) (stopped 11)) (is_true (small z) p.0) ∙ refused_stopped N m X r h p.1)
    (names_cases N X z (events m) r d)
refused_stopped N (made t m) X r h d = run_made N t m X h ∙ ⊎_elim
    (λ p. ap (λ b. if b (run N m (with_made t X)) (stopped 12)) (is_false (leb (length (with_made t X)) N) (not_leb (length (with_made t X)) N p.0)) ∙ ap stopped (sym p.1))
    (λ p. ap (λ b. if b (run N m (with_made t X)) (stopped 12)) (is_true (leb (length (with_made t X)) N) (le→leb (length (with_made t X)) N p.0))
    ∙ refused_stopped N m (with_made t X) r p.0 p.1)
    (makes_cases N X t (events m) r d)

-- 11 or 12 is given exactly where it is the first met
pub run_refused : {A : Type 0} (N : ℕ) (c : Comp A) (X : List Tree) (r : ℕ) → length X ≤ N → (run N c X ≡ stopped r) ↔ Refused N X (events c) r
run_refused N c X r h = (stopped_refused N c X r h, refused_stopped N c X r h)

pub refused_eleven_twelve : (N : ℕ) (X : List Tree) (l : List Event) (r : ℕ) → Refused N X l r → (r ≡ 11) ⊎ (r ≡ 12)
refused_eleven_twelve N X l r (beyond b z rest e w h n) = inl refl
refused_eleven_twelve N X l r (no_room b t rest e w h n) = inr refl

-- too many nodes, and every number within its limits: 12
pub exceeds : (N : ℕ) (X : List Tree) (l : List Event) → length X ≤ N → T (within l) → N < length (needed X l) → Refused N X l 12
unfolding within needed with_made
exceeds N X [] h w n = absurd (omega arith)
exceeds N X (names z ∷ l) h w n = let d = both (small z) (within l) w in names_later N X z l 12 d.0 (exceeds N X l h d.1 n)
exceeds N X (makes t ∷ l) h w n = by_test (leb (length (with_made t X)) N) (λ _. Refused N X (makes t ∷ l) 12)
    (λ q. makes_later N X t l 12 (exceeds N (with_made t X) l (leb→le (length (with_made t X)) N q) w n))
    (λ q. makes_now N X t l h (nleb→lt (length (with_made t X)) N q))

-- a run passes or is refused
pub run_cases : {A : Type 0} (N : ℕ) (c : Comp A) (X : List Tree) → length X ≤ N
    → (Passes N X (events c) × (run N c X ≡ done (result c) (needed X (events c)))) ⊎ ((r : ℕ) × (Refused N X (events c) r × (run N c X ≡ stopped r)))
run_cases {A} N c X h = go (run N c X) refl
  where
    go : (o : Out A) → run N c X ≡ o → (Passes N X (events c) × (run N c X ≡ done (result c) (needed X (events c)))) ⊎ ((r : ℕ) × (Refused N X (events c) r × (run N c X ≡ stopped r)))
    go (done a Y) e =
        let d = run_done N c X Y a e in
        let p : Passes N X (events c) = (d.2, subst (λ (Z : List Tree). length Z ≤ N) d.1 (d.3 h)) in
        inl (p, run_passes N c X p)
    go (stopped r) e = inr (r, (stopped_refused N c X r h e, e))
